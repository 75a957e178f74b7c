use Rattle.std.proofs.Common.{◌∙◌, ap, subst}
use Rattle.std.proofs.lemmas.Result.{IfOk-weaker}
use Rattle.index_definitions.specs.Words.{terms_in}
use Rattle.index_definitions.specs.Terms.{HaveSameTerms}
use Rattle.index_definitions.specs.IndexText.{text_of_index}
use Rattle.ss_top.proofs.commands.index.index_text.Goals as goal

pub returns : goal.returns
returns g c =
    let stops =
    subst (λ list. HaveSameTerms c.in_ok-stopped.stopped (terms_in list)) c.deref.ensures.value
    c.in_ok-stopped.ensures.stops in
    let made = c.in_ok-index.ensures c.args.stop.items stops in
    IfOk-weaker c.print_index.result _ _ (λ text is. is ∙ ap text_of_index made)
    c.print_index.ensures
