use Rattle.std.proofs.Common.{◌∙◌, sym, ap}
use Rattle.text_table.specs.TextTables.{number_of}
use Rattle.script_lang.proofs.lines.NamesLemmas.{no_number}
use Rattle.script_lang.proofs.names.Names.number_of.Goals as goal

pub returns-in_err-name : goal.returns-in_err-name
returns-in_err-name c =
    c.from_residual.ensures
    ∙ sym (no_number c.self.inside.texts c.args.word.now c.self.invariant c.in_err-name.ensures)
    ∙ ap (λ names. number_of names c.args.word.now) c.self.view_is
