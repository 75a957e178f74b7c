use Rattle.std.proofs.Common.{◌∙◌, sym, arith}
use Rattle.std.proofs.lemmas.Option.{slice_get_within}
use Rattle.std.proofs.lemmas.Result.{IfOk-weaker, on_err_weaker}
use Rattle.text_table.proofs.TextTablesLemmas.{slice_get-number}
use Rattle.text_table.proofs.TextMapsLemmas.{number_of-kept, length_kept}
use Rattle.text_table.proofs.map.TextMap.look_up.Goals as goal

pub returns-clause-number : goal.returns-clause-number
returns-clause-number g c =
    IfOk-weaker c.look_up.result _ _ (λ number is.
    sym (number_of-kept c.self.inside.texts c.self.inside.values.items c.args.self.now
    c.self.invariant c.self.view_is c.args.text.now) ∙ is)
    c.look_up.ensures.number

pub returns-clause-within : goal.returns-clause-within
returns-clause-within g c =
    let texts = c.self.inside.texts in
    let text = c.args.text.now in
    IfOk-weaker c.look_up.result _ _ (λ number is.
    omega (
      arith,
      slice_get_within texts number text (slice_get-number texts text number is),
      length_kept texts c.self.inside.values.items c.args.self.now
          c.self.invariant c.self.view_is,
    ))
    c.look_up.ensures.number

pub returns-clause-new_text : goal.returns-clause-new_text
returns-clause-new_text g c =
    on_err_weaker c.look_up.result (λ none.
    sym (number_of-kept c.self.inside.texts c.self.inside.values.items c.args.self.now
    c.self.invariant c.self.view_is c.args.text.now) ∙ none)
    c.look_up.ensures.new_text
