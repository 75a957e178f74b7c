use Rattle.std.proofs.Common.{◌≡◌, ◌<◌, ◌∙◌, [], List, ℕ, Some, ap, ap₂, sym, refl, subst, arith}
use Rattle.std.proofs.Common.{length, map}
use Rattle.std.proofs.lemmas.List.{length-map}
use Rattle.index_definitions.specs.IndexText.{index_text}
use Rattle.command_line.specs.declared.command.Command.TheVariants.{Index}
use Rattle.ss_top.specs.Answers.{answer_after, prints}
use Rattle.ss_top.specs.Printings.{printed_answer, broken_off}
use Rattle.ss_top.proofs.InputsLemmas.{Fit, Fit-index, Fit-index-stop, removed}
use Rattle.ss_top.proofs.commands.text_by.Goals as goal

pub index_text-requires-clause-some : goal.index_text-requires-clause-some
index_text-requires-clause-some g c κs within =
    let texts : List (List ℕ) = map (λ text. text.items) c.args.texts.items in
    let count = length-map c.args.texts.items (λ text. text.items) in
    let is = c.in-Index.is
    ∙ ap (λ stop. Index c.in-Index.delegates c.in-Index.mode c.in-Index.ring stop c.in-Index.names) c.in-None.is in
    let fit = Fit-index c.in-Index.delegates c.in-Index.mode c.in-Index.ring _ texts (subst (λ k. Fit k texts) is
    (c.requires.can, count ∙ c.requires.count, c.requires.asked, c.requires.within)) in
    omega (arith, count, fit.0)

pub index_text-requires-clause-few : goal.index_text-requires-clause-few
index_text-requires-clause-few g c κs within =
    let texts : List (List ℕ) = map (λ text. text.items) c.args.texts.items in
    let count = length-map c.args.texts.items (λ text. text.items) in
    let is = c.in-Index.is
    ∙ ap (λ stop. Index c.in-Index.delegates c.in-Index.mode c.in-Index.ring stop c.in-Index.names) c.in-None.is in
    let fit = Fit-index c.in-Index.delegates c.in-Index.mode c.in-Index.ring _ texts (subst (λ k. Fit k texts) is
    (c.requires.can, count ∙ c.requires.count, c.requires.asked, c.requires.within)) in
    omega (arith, count, fit.1)

pub index_text-requires-clause-within : goal.index_text-requires-clause-within
index_text-requires-clause-within g c κs within =
    let texts : List (List ℕ) = map (λ text. text.items) c.args.texts.items in
    let count = length-map c.args.texts.items (λ text. text.items) in
    let is = c.in-Index.is
    ∙ ap (λ stop. Index c.in-Index.delegates c.in-Index.mode c.in-Index.ring stop c.in-Index.names) c.in-None.is in
    let fit = Fit-index c.in-Index.delegates c.in-Index.mode c.in-Index.ring _ texts (subst (λ k. Fit k texts) is
    (c.requires.can, count ∙ c.requires.count, c.requires.asked, c.requires.within)) in
    fit.2

pub index_text-requires-in-Some-clause-some :
    goal.index_text-requires-in-Some-clause-some
index_text-requires-in-Some-clause-some g c κs within =
    let texts : List (List ℕ) = map (λ text. text.items) c.args.texts.items in
    let documents : List (List ℕ) = map (λ text. text.items) c.remove-stop.new.self.items in
    let count = length-map c.args.texts.items (λ text. text.items) in
    let is = c.in-Index.is
    ∙ ap (λ stop. Index c.in-Index.delegates c.in-Index.mode c.in-Index.ring stop c.in-Index.names) c.in-Some.is in
    let some : 0 < length c.args.texts.items = omega (arith, rw is at c.requires.count) in
    let split = removed c.args.texts.items c.remove-stop.result c.remove-stop.new.self.items some
    c.remove-stop.ensures.value c.remove-stop.ensures.items in
    let fit = Fit-index-stop c.in-Index.delegates c.in-Index.mode c.in-Index.ring c.in-Some.field-0 c.in-Index.names c.remove-stop.result.items documents
    (subst (Fit (Index c.in-Index.delegates c.in-Index.mode c.in-Index.ring (Some c.in-Some.field-0) c.in-Index.names))
    (ap (map (λ text. text.items)) split)
    (subst (λ k. Fit k texts) is
    (c.requires.can, count ∙ c.requires.count, c.requires.asked, c.requires.within))) in
    omega (arith, fit.1, length-map c.remove-stop.new.self.items (λ text. text.items))

pub index_text-requires-in-Some-clause-few :
    goal.index_text-requires-in-Some-clause-few
index_text-requires-in-Some-clause-few g c κs within =
    let texts : List (List ℕ) = map (λ text. text.items) c.args.texts.items in
    let documents : List (List ℕ) = map (λ text. text.items) c.remove-stop.new.self.items in
    let count = length-map c.args.texts.items (λ text. text.items) in
    let is = c.in-Index.is
    ∙ ap (λ stop. Index c.in-Index.delegates c.in-Index.mode c.in-Index.ring stop c.in-Index.names) c.in-Some.is in
    let some : 0 < length c.args.texts.items = omega (arith, rw is at c.requires.count) in
    let split = removed c.args.texts.items c.remove-stop.result c.remove-stop.new.self.items some
    c.remove-stop.ensures.value c.remove-stop.ensures.items in
    let fit = Fit-index-stop c.in-Index.delegates c.in-Index.mode c.in-Index.ring c.in-Some.field-0 c.in-Index.names c.remove-stop.result.items documents
    (subst (Fit (Index c.in-Index.delegates c.in-Index.mode c.in-Index.ring (Some c.in-Some.field-0) c.in-Index.names))
    (ap (map (λ text. text.items)) split)
    (subst (λ k. Fit k texts) is
    (c.requires.can, count ∙ c.requires.count, c.requires.asked, c.requires.within))) in
    omega (arith, fit.2, length-map c.remove-stop.new.self.items (λ text. text.items))

pub index_text-requires-in-Some-clause-within :
    goal.index_text-requires-in-Some-clause-within
index_text-requires-in-Some-clause-within g c κs within =
    let texts : List (List ℕ) = map (λ text. text.items) c.args.texts.items in
    let documents : List (List ℕ) = map (λ text. text.items) c.remove-stop.new.self.items in
    let count = length-map c.args.texts.items (λ text. text.items) in
    let is = c.in-Index.is
    ∙ ap (λ stop. Index c.in-Index.delegates c.in-Index.mode c.in-Index.ring stop c.in-Index.names) c.in-Some.is in
    let some : 0 < length c.args.texts.items = omega (arith, rw is at c.requires.count) in
    let split = removed c.args.texts.items c.remove-stop.result c.remove-stop.new.self.items some
    c.remove-stop.ensures.value c.remove-stop.ensures.items in
    let fit = Fit-index-stop c.in-Index.delegates c.in-Index.mode c.in-Index.ring c.in-Some.field-0 c.in-Index.names c.remove-stop.result.items documents
    (subst (Fit (Index c.in-Index.delegates c.in-Index.mode c.in-Index.ring (Some c.in-Some.field-0) c.in-Index.names))
    (ap (map (λ text. text.items)) split)
    (subst (λ k. Fit k texts) is
    (c.requires.can, count ∙ c.requires.count, c.requires.asked, c.requires.within))) in
    fit.3

pub returns-in_ok-index_text-in-None-clause-answers :
    goal.returns-in_ok-index_text-in-None-clause-answers
returns-in_ok-index_text-in-None-clause-answers g c =
    let texts : List (List ℕ) = map (λ text. text.items) c.args.texts.items in
    let count = length-map c.args.texts.items (λ text. text.items) in
    let is = c.in-Index.is
    ∙ ap (λ stop. Index c.in-Index.delegates c.in-Index.mode c.in-Index.ring stop c.in-Index.names) c.in-None.is in
    let fit = Fit-index c.in-Index.delegates c.in-Index.mode c.in-Index.ring _ texts (subst (λ k. Fit k texts) is
    (c.requires.can, count ∙ c.requires.count, c.requires.asked, c.requires.within)) in
    let same : printed_answer c.whole.result ≡ prints (index_text texts []) =
    ap₂ (λ text broken. broken_off text.items broken) c.whole.ensures.text c.whole.ensures.broken
    ∙ ap prints (c.in_ok-index_text-in-None.ensures
    ∙ ap (index_text texts) c.new-stop.ensures.items) in (
      subst (λ k. answer_after (Some k) texts ≡ Some (printed_answer c.whole.result)) (sym is)
          (fit.3 ∙ ap (λ answer. Some answer) (sym same)),
      refl,
    )
