use Rattle.std.proofs.Common.{◌∙◌, ap, sym, arith}
use Rattle.std.specs.Option.{option_copied}
use Rattle.text_table.proofs.TextMapsLemmas.{number_within, get-kept, get-absent}
use Rattle.text_table.proofs.map.TextMap.get.Goals as goal

pub returns-in_err-number : goal.returns-in_err-number
returns-in_err-number g c =
    ap option_copied c.from_residual.ensures
    ∙ sym (get-absent c.self.inside.texts c.self.inside.values.items c.args.self.now
    c.self.invariant c.self.view_is c.args.text.now
    (sym c.number_of.ensures ∙ c.in_err-number.was))

pub index-requires : goal.index-requires
index-requires g c =
    omega (
      arith,
      number_within c.self.inside.texts c.self.inside.values.items c.args.self.now
          c.self.invariant c.self.view_is c.args.text.now c.in_ok-number.number
          (sym c.number_of.ensures ∙ c.in_ok-number.was),
      c.self.inside.values.ok.0,
    )

pub returns : goal.returns
returns g c =
    sym (get-kept c.self.inside.texts c.self.inside.values.items c.args.self.now
    c.self.invariant c.self.view_is c.args.text.now c.in_ok-number.number c.index.result.now
    (sym c.number_of.ensures ∙ c.in_ok-number.was) c.index.ensures)
