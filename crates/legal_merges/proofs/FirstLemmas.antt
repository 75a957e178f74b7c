-- The next place of each turn, found from the last call to the first.
use Rattle.std.proofs.Common.{◌≡◌, ℕ, ◌+◌, ◌<◌, ◌≤◌, ◌≢◌, Bool, true, false, Option, Some, List, [], ◌∷◌, ◌++◌, length, refl, sym, ap, ◌∙◌, subst, arith, set}
use Rattle.std.specs.Prelude.{◌==◌, nat_lt, slice_get}
use Rattle.std.proofs.lemmas.Bool.{eqb-true}
use Rattle.std.proofs.lemmas.Bool.Decides.{nat_tests}
use Rattle.std.proofs.lemmas.List.{length-set}
use Rattle.std.proofs.lemmas.Option.{slice_get_within}
use Rattle.execution_definitions.specs.Shapes.{Shape}
use Rattle.interleavings.specs.Merges.{lane_at}
use Rattle.legal_merges.specs.declared.step.Step.{Step}
use Rattle.merge_laws.specs.Fronts.{IsBegun}
use Rattle.legal_merges.specs.kept.Turns.{turn_of, IsTable, IsFirst, IsNext, IsLinked, AreNexts}
use Rattle.legal_merges.proofs.WayLemmas.{get_set_same, get_set_other, some_same, turn_of-injective, below}

module _ (n : ℕ) (calls : List Shape) where
  -- from a place on, the first place of each turn, and after each place that of its turn
  pub record AreFirsts (steps : List Step) (afters nexts : List ℕ) (from : ℕ) : Type 0 where
    pub low : from ≤ length calls
    pub after_count : length afters ≡ length calls
    pub turn_count : length nexts ≡ n + 1
    pub each_after :
        (place after : ℕ) → from ≤ place → slice_get afters place ≡ Some after →
        IsFirst n calls (place + 1) (lane_at n calls place) after
    pub each_turn :
        (lane : Option ℕ) (next : ℕ) → slice_get nexts (turn_of lane) ≡ Some next →
        IsFirst n calls from lane next

  -- at the end there are none
  none_first : (lane : Option ℕ) → IsFirst n calls (length calls) lane (length calls)
  none_first lane = record {
    low = omega arith;
    within = omega arith;
    own = λ below. absurd (omega arith);
    none = λ other low high own. absurd (omega arith);
  }

  pub firsts-start : (steps : List Step) (afters nexts : List ℕ) (count : ℕ) →
      count ≡ length calls → length afters ≡ count → length nexts ≡ n + 1 →
      ((turn next : ℕ) → slice_get nexts turn ≡ Some next → next ≡ count) →
      AreFirsts steps afters nexts count
  firsts-start steps afters nexts count is after_count turn_count all = record {
    low = omega arith;
    after_count = after_count ∙ is;
    turn_count = turn_count;
    each_after = λ place after low has.
        let inside = slice_get_within afters place after has in absurd (omega arith);
    each_turn = λ lane next has.
        subst (λ k. IsFirst n calls k lane next) (sym is)
        (subst (λ k. IsFirst n calls (length calls) lane k)
        (sym (all (turn_of lane) next has ∙ is)) (none_first lane));
  }

  module _ (steps : List Step) (table : IsTable n calls steps) (afters nexts : List ℕ) (place : ℕ)
      (step : Step) (at : slice_get steps place ≡ Some step) (next : ℕ)
      (firsts : AreFirsts steps afters nexts (place + 1))
      (has : slice_get nexts step.turn ≡ Some next) where
    turn : step.turn ≡ turn_of (lane_at n calls place)
    turn = (table.each place step at).turn

    here : IsFirst n calls (place + 1) (lane_at n calls place) next
    here = firsts.each_turn (lane_at n calls place) next (ap (slice_get nexts) (sym turn) ∙ has)

    inside : place < length calls
    inside = let low = firsts.low in omega arith

    pub firsts-step : AreFirsts steps (set afters place next) (set nexts step.turn place) place
    firsts-step = record {
      low = let low = inside in omega arith;
      after_count = length-set afters place next ∙ firsts.after_count;
      turn_count = length-set nexts step.turn place ∙ firsts.turn_count;
      each_after = λ other after low is. after_of other after low is (other == place) refl;
      each_turn = λ lane first is. turn_for lane first is (turn_of lane == step.turn) refl;
    } where
      after_of : (other after : ℕ) → place ≤ other →
          slice_get (set afters place next) other ≡ Some after → (t : Bool) →
          (other == place) ≡ t → IsFirst n calls (other + 1) (lane_at n calls other) after
      after_of other after low is true e =
          let same : other ≡ place = eqb-true other place e in
          let counted = firsts.after_count in
          let room = inside in
          let value : after ≡ next =
          some_same after next (sym is ∙ ap (slice_get (set afters place next)) same
          ∙ get_set_same afters place next (omega arith)) in
          subst (λ k. IsFirst n calls (k + 1) (lane_at n calls k) after) (sym same)
          (subst (λ k. IsFirst n calls (place + 1) (lane_at n calls place) k) (sym value) here)
      after_of other after low is false e =
          let differ : other ≢ place = grind (arith, nat_tests) in
          let more : place + 1 ≤ other = grind (arith, nat_tests) in
          firsts.each_after other after more
          (sym (get_set_other afters place other next differ) ∙ is)

      turn_for : (lane : Option ℕ) (first : ℕ) →
          slice_get (set nexts step.turn place) (turn_of lane) ≡ Some first → (t : Bool) →
          (turn_of lane == step.turn) ≡ t → IsFirst n calls place lane first
      turn_for lane first is true e =
          let at_turn : turn_of lane ≡ step.turn = eqb-true (turn_of lane) step.turn e in
          let own : lane ≡ lane_at n calls place = turn_of-injective lane _ (at_turn ∙ turn) in
          let room : step.turn < length nexts = slice_get_within nexts step.turn next has in
          let value : first ≡ place =
          some_same first place (sym is ∙ ap (slice_get (set nexts step.turn place)) at_turn
          ∙ get_set_same nexts step.turn place room) in
          subst (λ k. IsFirst n calls place lane k) (sym value) (record {
            low = omega arith;
            within = let low = inside in omega arith;
            own = λ below. sym own;
            none = λ other low high has. absurd (omega arith);
          })
      turn_for lane first is false e =
          let differ : turn_of lane ≢ step.turn = grind (arith, nat_tests) in
          let was = firsts.each_turn lane first
          (sym (get_set_other nexts step.turn (turn_of lane) place differ) ∙ is) in
          let low = was.low in
          record {
            low = omega arith;
            within = was.within;
            own = was.own;
            none = λ other from high own. none_here other from high own was
                (other == place) refl;
          } where
            none_here : (other : ℕ) → place ≤ other → other < first → lane_at n calls other ≡ lane →
                IsFirst n calls (place + 1) lane first → (t : Bool) → (other == place) ≡ t → ⊥
            none_here other from high own was true f =
                let same : other ≡ place = eqb-true other place f in
                let differ : turn_of lane ≢ step.turn = grind (arith, nat_tests) in
                differ (ap turn_of (sym own ∙ ap (lane_at n calls) same) ∙ sym turn)
            none_here other from high own was false f =
                was.none other (grind (arith, nat_tests)) high own

  -- before the first place nothing is done
  next_at_first : (lane : Option ℕ) (next : ℕ) → IsFirst n calls 0 lane next →
      IsNext n calls [] lane next
  next_at_first lane next first = record {
    within = first.within;
    own = first.own;
    done_before = λ other known own. sym (by other own (nat_lt other next) refl);
  } where
    by : (other : ℕ) → lane_at n calls other ≡ lane → (t : Bool) → nat_lt other next ≡ t →
        nat_lt other next ≡ false
    by other own true e = absurd (first.none other (omega arith) (below other next e) own)
    by other own false e = e

  none_begun : IsBegun n calls []
  none_begun = record {
    at_most_once = λ place. omega arith;
    no_other = λ place past. refl;
    keeps = λ before place after is first must. absurd (nothing before place after is);
  } where
    nothing : (before : List ℕ) (place : ℕ) (after : List ℕ) → [] ≡ before ++ place ∷ after → ⊥
    nothing [] place after is = cc
    nothing (x ∷ before) place after is = cc

  pub first_linked : (steps : List Step) (afters nexts : List ℕ) → IsTable n calls steps →
      AreFirsts steps afters nexts 0 → IsLinked n calls steps afters
  first_linked steps afters nexts table firsts = record {
    table = table;
    count = firsts.after_count;
    each = λ place after is. firsts.each_after place after (omega arith) is;
  }

  pub first_nexts : (steps : List Step) (afters nexts : List ℕ) →
      AreFirsts steps afters nexts 0 → AreNexts n calls [] nexts
  first_nexts steps afters nexts firsts = record {
    count = firsts.turn_count;
    each = λ lane next is. next_at_first lane next (firsts.each_turn lane next is);
  }

  pub first_begun : IsBegun n calls []
  first_begun = none_begun
