use Rattle.std.proofs.Common.{◌∙◌, sym}
use Rattle.std.proofs.lemmas.Result.{on_ok_weaker}
use Rattle.text_table.proofs.TextTablesLemmas.{with_text-known, with_text-new}
use Rattle.text_table.proofs.table.TextTable.insert.Goals as goal

pub returns-in-Ok-clause-ok : goal.returns-in-Ok-clause-ok
returns-in-Ok-clause-ok c =
    sym (with_text-known c.args.self.now c.args.text.now c.in-Ok.number c.in-Ok.ensures.number)

pub returns-in-Err-clause-ok : goal.returns-in-Err-clause-ok
returns-in-Err-clause-ok c =
    on_ok_weaker c.insert_absent.result (λ added. added
    ∙ sym (with_text-new c.args.self.now c.args.text.now c.in-Err.ensures.new_text))
    c.insert_absent.ensures.ok
