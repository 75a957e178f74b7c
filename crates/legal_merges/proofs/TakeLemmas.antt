-- What the turns say of a place, of a turn, and of the end.
use Rattle.std.proofs.Common.{◌≡◌, ℕ, ◌<◌, Bool, true, false, Some, None, List, [], ◌∷◌, ◌++◌, length, sym, ◌∙◌, subst, arith, set}
use Rattle.std.specs.Prelude.{slice_get}
use Rattle.std.specs.Bool.{OnTrue, OnFalse}
use Rattle.std.proofs.lemmas.Option.{slice_get_within}
use Rattle.execution_definitions.specs.Shapes.{Shape}
use Rattle.execution_definitions.proofs.lists.ListLemmas.{past_none}
use Rattle.legal_merges.specs.declared.step.Step.{Step}
use Rattle.legal_merges.specs.declared.turns.Turns.{Turns}
use Rattle.merge_laws.specs.Fronts.{IsBegun}
use Rattle.legal_merges.specs.kept.Turns.{AreTurns, MayCome, AreNexts, IsOnWay}
use Rattle.legal_merges.specs.kept.Judging.{AreDone, AreAllDone, IsNextOf, IsOnSomeWay}
use Rattle.merge_laws.proofs.OrderLemmas.{times-here}
use Rattle.legal_merges.proofs.WayLemmas.{begun_may_come, begun-push, nexts-push, next_of, next_past, all_done, not_all_done}

module _ (n : ℕ) (calls : List Shape) (done : List ℕ) (turns : Turns)
    (way : IsOnWay n calls done turns) where
  counted : length turns.steps.items ≡ length calls
  counted = way.linked.table.count

  -- whether all calls are done
  pub are_all_done : (count : ℕ) → count ≡ length turns.steps.items → (result : Bool) →
      OnTrue result (AreDone turns.nexts.items count) →
      OnFalse result (AreDone turns.nexts.items count → ⊥) → AreAllDone calls done result
  are_all_done count is true past some =
      all_done n calls turns.steps.items way.linked.table done turns.nexts.items way.nexts
      (subst (λ k. AreDone turns.nexts.items k) (is ∙ counted) past)
  are_all_done count is false past some =
      not_all_done n calls turns.steps.items way.linked.table done turns.nexts.items way.nexts
      (subst (λ k. AreDone turns.nexts.items k → ⊥) (is ∙ counted) some)

  -- the next place of a turn
  pub next_found : (turn next : ℕ) → slice_get turns.nexts.items turn ≡ Some next →
      IsNextOf n calls done turn next
  next_found turn next is =
      next_of n calls turns.steps.items way.linked.table done turns.nexts.items way.nexts turn next is

  -- of a turn that there isn't
  pub next_none : (turn count : ℕ) → slice_get turns.nexts.items turn ≡ None →
      count ≡ length turns.steps.items → IsNextOf n calls done turn count
  next_none turn count none is =
      let past = past_none turns.nexts.items turn none in
      let many = way.nexts.count in
      subst (λ k. IsNextOf n calls done turn k) (sym (is ∙ counted))
      (next_past n calls turns.steps.items way.linked.table done turn (omega arith))

  -- a place past the last call
  pub none_past : (place : ℕ) → slice_get turns.steps.items place ≡ None →
      IsBegun n calls (done ++ place ∷ []) → ⊥
  none_past place none begun =
      let past = past_none turns.steps.items place none in
      let many = counted in
      let absent = begun.no_other place (omega arith) in
      let here = times-here done place [] in
      absurd (omega arith)

  inside : (place : ℕ) (step : Step) → slice_get turns.steps.items place ≡ Some step →
      place < length calls
  inside place step at =
      let room = slice_get_within turns.steps.items place step at in
      let many = counted in
      omega arith

  -- a place that may not come
  pub none_here : (place : ℕ) (step : Step) → slice_get turns.steps.items place ≡ Some step →
      (MayCome turns.nexts.items step place → ⊥) → IsBegun n calls (done ++ place ∷ []) → ⊥
  none_here place step at not begun =
      not (begun_may_come n calls turns.steps.items way.linked.table done turns.nexts.items way.nexts
      place step (inside place step at) at begun)

  module _ (place : ℕ) (step : Step) (at : slice_get turns.steps.items place ≡ Some step)
      (may : MayCome turns.nexts.items step place) where
    -- a place that may come
    pub begun_here : IsBegun n calls (done ++ place ∷ [])
    begun_here =
        begun-push n calls turns.steps.items way.linked.table done turns.nexts.items way.nexts
        way.begun place step (inside place step at) at may

    pub nexts_here : (after : ℕ) → slice_get turns.afters.items place ≡ Some after →
        AreNexts n calls (done ++ place ∷ []) (set turns.nexts.items step.turn after)
    nexts_here after is =
        nexts-push n calls turns.steps.items way.linked.table done turns.nexts.items way.nexts
        way.begun place step (inside place step at) at may after
        (way.linked.each place after is)

    -- the turns once it is taken
    pub taken : (new : Turns) (after : ℕ) → slice_get turns.afters.items place ≡ Some after →
        new.steps.items ≡ turns.steps.items → new.afters.items ≡ turns.afters.items →
        new.nexts.items ≡ set turns.nexts.items step.turn after →
        IsOnWay n calls (done ++ place ∷ []) new
    taken new after is same_steps same_afters nexts = record {
      linked = rw (same_steps, same_afters) way.linked;
      nexts = rw nexts (nexts_here after is);
      begun = begun_here;
    }

-- a step's turns are there
pub turn_there : (turns : Turns) (some : IsOnSomeWay turns) (place : ℕ) (step : Step) →
    slice_get turns.steps.items place ≡ Some step → step.turn < length turns.nexts.items
turn_there turns some place step at =
    let known = (some.way.linked.table.each place step at).known in
    let many = some.way.nexts.count in
    omega arith

pub waits_there : (turns : Turns) (some : IsOnSomeWay turns) (place : ℕ) (step : Step) →
    slice_get turns.steps.items place ≡ Some step →
    AreTurns (length turns.nexts.items) step.waits
waits_there turns some place step at =
    subst (λ k. AreTurns k step.waits) (sym some.way.nexts.count)
    (some.way.linked.table.each place step at).waits_known

pub after_there : (turns : Turns) (some : IsOnSomeWay turns) (place : ℕ) (step : Step) →
    slice_get turns.steps.items place ≡ Some step → place < length turns.afters.items
after_there turns some place step at =
    let room = slice_get_within turns.steps.items place step at in
    let many = some.way.linked.table.count in
    let more = some.way.linked.count in
    omega arith
