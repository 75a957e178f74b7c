-- What do all lanes come to, with one run more in one of them?
use Rattle.std.proofs.Common.{◌≡◌, ℕ, zero, suc, ◌+◌, ◌-◌, ◌<◌, ◌≤◌, true, false, Some, List, [], ◌∷◌, length, map, refl, sym, ap, ◌∙◌, subst, arith, length-append}
use Rattle.std.specs.Prelude.{slice_get, slice_set, fold, is_some}
use Rattle.std.proofs.lemmas.List.{length-map}
use Rattle.std.proofs.lemmas.Option.{same_Some}
use Rattle.class_laws.specs.Laws.{ReducibleLaws}
use Rattle.execution_definitions.specs.Meanings.{Meaning}
use Rattle.interleavings.specs.Machines.{Entry, front_at, behind_front, without_front}
use Rattle.lane_core.specs.Views.{LaneView, entries_in, runs_known, runs_sent}
use Rattle.lane_core.specs.Cuts.{LaneAtCut, IsCut, with_one_more, lane_after, lane_at, lanes_at}
use Rattle.lane_core.specs.Cores.{value_in, with_total_of}
use Rattle.lane_core.specs.Kept.{has_object, all_find, is_in_store}
use Rattle.lane_core.proofs.StepLemmas.{Steps, steps_on, has_the_same, entries_left}

module _ {C O R : Type 0} where
  -- how many runs were sent to a lane: those that are known to be taken, and those of the messages
  pub runs_sent-count : (lane : LaneView C O R) →
      length (runs_sent lane) ≡ length (runs_known lane) + length (entries_in lane.since)
  runs_sent-count lane =
      length-append (runs_known lane) (map (λ (e : Entry C O). e.run) (entries_in lane.since))
      ∙ ap (λ k. length (runs_known lane) + k)
      (length-map (entries_in lane.since) (λ (e : Entry C O). e.run))

  -- so many runs of the lane are in a cut
  pub record IsWithin (lane : LaneView C O R) (runs : ℕ) : Type 0 where
    pub least : length (runs_known lane) ≤ runs
    pub most : runs ≤ length (runs_sent lane)

  pub runs_since : (lane : LaneView C O R) (runs : ℕ) → IsWithin lane runs →
      runs - length (runs_known lane) ≤ length (entries_in lane.since)
  runs_since lane runs within =
      let count = runs_sent-count lane in
      let most = within.most in
      omega arith

  -- a lane's messages find their objects
  pub record IsServed (lane : LaneView C O R) : Type 0 where
    pub whole : lane.base.is_broken ≡ false
    pub served : all_find (is_in_store lane.base) lane.since ≡ true

  abbrev pub AreServed : List (LaneView C O R) → Type 0
  AreServed lanes =
      (number : ℕ) (lane : LaneView C O R) → slice_get lanes number ≡ Some lane → IsServed lane

module _ {C O R : Type 0} (m : Meaning C O R) where
  -- however far a lane has come, it has its objects
  pub keeps_objects : (lane : LaneView C O R) (runs : ℕ) → IsServed lane → IsWithin lane runs →
      (n : ℕ) → is_some (value_in n (lane_at m lane runs)) ≡ has_object lane n
  keeps_objects lane runs served within n =
      has_the_same m (runs - length (runs_known lane)) lane.base lane.since served.whole
      served.served (runs_since lane runs within) n

  -- how many entries wait in a lane
  pub entries_waiting : (lane : LaneView C O R) (runs : ℕ) → IsWithin lane runs →
      runs + length (entries_in (lane_at m lane runs).waiting) ≡ length (runs_sent lane)
  entries_waiting lane runs within =
      let count = runs_sent-count lane in
      let least = within.least in
      let left = entries_left m (runs - length (runs_known lane)) lane.base lane.since
      (runs_since lane runs within) in
      omega arith

  -- a lane of a cut
  pub record IsAt (lanes : List (LaneView C O R)) (cut : List ℕ) (number : ℕ)
      (lane : LaneView C O R) : Type 0 where
    pub runs : ℕ
    pub within : IsWithin lane runs
    pub here : slice_get (lanes_at m lanes cut) number ≡ Some (lane_at m lane runs)

  pub at_cut : (lanes : List (LaneView C O R)) (cut : List ℕ) → IsCut lanes cut → (number : ℕ)
      (lane : LaneView C O R) → slice_get lanes number ≡ Some lane → IsAt lanes cut number lane
  at_cut [] cut is number lane there = absurd cc
  at_cut (first ∷ lanes) [] is number lane there = absurd is
  at_cut (first ∷ lanes) (runs ∷ cut) is zero lane there =
      subst (IsAt (first ∷ lanes) (runs ∷ cut) zero) (same_Some first lane there) (record {
        runs = runs;
        within = record { least = is.0; most = is.1 };
        here = refl;
      })
  at_cut (first ∷ lanes) (runs ∷ cut) is (suc number) lane there =
      let rest = at_cut lanes cut is.2 number lane there in
      record { runs = rest.runs; within = rest.within; here = rest.here }

  -- and the other way round
  pub record IsOf (lanes : List (LaneView C O R)) (number : ℕ) (at : LaneAtCut C O R) : Type 0 where
    pub lane : LaneView C O R
    pub there : slice_get lanes number ≡ Some lane
    pub runs : ℕ
    pub within : IsWithin lane runs
    pub is : at ≡ lane_at m lane runs

  pub of_cut : (lanes : List (LaneView C O R)) (cut : List ℕ) → IsCut lanes cut → (number : ℕ)
      (at : LaneAtCut C O R) → slice_get (lanes_at m lanes cut) number ≡ Some at →
      IsOf lanes number at
  of_cut [] [] is number at here = absurd cc
  of_cut [] (runs ∷ cut) is number at here = absurd is
  of_cut (first ∷ lanes) [] is number at here = absurd is
  of_cut (first ∷ lanes) (runs ∷ cut) is zero at here = record {
    lane = first;
    there = refl;
    runs = runs;
    within = record { least = is.0; most = is.1 };
    is = sym (same_Some (lane_at m first runs) at here);
  }
  of_cut (first ∷ lanes) (runs ∷ cut) is (suc number) at here =
      let rest = of_cut lanes cut is.2 number at here in
      record {
        lane = rest.lane;
        there = rest.there;
        runs = rest.runs;
        within = rest.within;
        is = rest.is;
      }

  -- one lane takes one run more
  pub record GoesOn (lanes : List (LaneView C O R)) (cut : List ℕ) (number : ℕ) : Type 0 where
    pub lane : LaneView C O R
    pub there : slice_get lanes number ≡ Some lane
    pub runs : ℕ
    pub within : IsWithin lane runs
    pub here : slice_get (lanes_at m lanes cut) number ≡ Some (lane_at m lane runs)
    pub next :
        lanes_at m lanes (with_one_more number cut)
        ≡ slice_set (lanes_at m lanes cut) number (lane_at m lane (suc runs))
    pub steps : Steps m (lane_at m lane runs) (lane_at m lane (suc runs))

  one_lane : (lane : LaneView C O R) (runs : ℕ) → IsServed lane →
      IsWithin lane runs → IsWithin lane (suc runs) →
      Steps m (lane_at m lane runs) (lane_at m lane (suc runs))
  one_lane lane runs served within next =
      let least = within.least in
      let most = next.most in
      let count = runs_sent-count lane in
      let behind : suc (runs - length (runs_known lane)) ≡ suc runs - length (runs_known lane) =
      omega arith in
      subst (λ k. Steps m (lane_at m lane runs) (lane_after m k lane.base lane.since)) behind
      (steps_on m (runs - length (runs_known lane)) lane.base lane.since served.whole
      served.served (omega arith))

  pub goes_on : (lanes : List (LaneView C O R)) (cut : List ℕ) (number : ℕ) → AreServed lanes →
      number < length lanes → IsCut lanes cut → IsCut lanes (with_one_more number cut) →
      GoesOn lanes cut number
  goes_on [] cut number served inside is next = absurd (omega (arith, inside))
  goes_on (lane ∷ lanes) [] number served inside is next = absurd is
  goes_on (lane ∷ lanes) (runs ∷ cut) zero served inside is next = record {
    lane = lane;
    there = refl;
    runs = runs;
    within = record { least = is.0; most = is.1 };
    here = refl;
    next = refl;
    steps = one_lane lane runs (served 0 lane refl) (record { least = is.0; most = is.1 })
        (record { least = next.0; most = next.1 });
  }
  goes_on (lane ∷ lanes) (runs ∷ cut) (suc number) served inside is next =
      let rest = goes_on lanes cut number (λ n l. served (suc n) l) (omega (arith, inside)) is.2
      next.2 in
      record {
        lane = rest.lane;
        there = rest.there;
        runs = rest.runs;
        within = rest.within;
        here = rest.here;
        next = ap (λ rest. lane_at m lane runs ∷ rest) rest.next;
        steps = rest.steps;
      }

  -- ---- what waits, and what was contributed

  abbrev pub waiting_in : LaneAtCut C O R → List (Entry C O)
  waiting_in lane = entries_in lane.waiting

  pub front-is : (lanes : List (LaneAtCut C O R)) (number : ℕ) (before : LaneAtCut C O R)
      (e : Entry C O) (rest : List (Entry C O)) → slice_get lanes number ≡ Some before →
      waiting_in before ≡ e ∷ rest → front_at (map waiting_in lanes) number ≡ Some e
  front-is [] number before e rest here is = absurd cc
  front-is (lane ∷ lanes) zero before e rest here is =
      rw (same_Some lane before here, is) refl
  front-is (lane ∷ lanes) (suc number) before e rest here is =
      front-is lanes number before e rest here is

  pub waiting-put : (lanes : List (LaneAtCut C O R)) (number : ℕ) (before after : LaneAtCut C O R)
      (e : Entry C O) → slice_get lanes number ≡ Some before →
      waiting_in before ≡ e ∷ waiting_in after →
      map waiting_in (slice_set lanes number after)
      ≡ without_front number (map waiting_in lanes)
  waiting-put [] number before after e here is = absurd cc
  waiting-put (lane ∷ lanes) zero before after e here is =
      ap (λ entries. entries ∷ map waiting_in lanes)
      (sym (ap behind_front (ap waiting_in (same_Some lane before here) ∙ is)))
  waiting-put (lane ∷ lanes) (suc number) before after e here is =
      ap (λ rest. waiting_in lane ∷ rest) (waiting-put lanes number before after e here is)

  module _ (laws : ReducibleLaws m.unit m.join) where
    pub swap : (a b c : R) → m.join (m.join a b) c ≡ m.join (m.join a c) b
    swap a b c = sym (laws.associative a b c) ∙ ap (λ x. m.join a x) (laws.commutative b c)
        ∙ laws.associative a c b

    -- a contribution comes before those of lanes, or after
    pub total_more : (total more : R) (lanes : List (LaneAtCut C O R)) →
        fold (with_total_of m) (m.join total more) lanes
        ≡ m.join (fold (with_total_of m) total lanes) more
    total_more total more [] = refl
    total_more total more (lane ∷ lanes) =
        ap (λ x. fold (with_total_of m) x lanes) (swap total more lane.store.total)
        ∙ total_more (m.join total lane.store.total) more lanes

    -- one lane contributes once more
    pub total-put : (total more : R) (lanes : List (LaneAtCut C O R)) (number : ℕ)
        (before after : LaneAtCut C O R) → slice_get lanes number ≡ Some before →
        after.store.total ≡ m.join before.store.total more →
        fold (with_total_of m) total (slice_set lanes number after)
        ≡ m.join (fold (with_total_of m) total lanes) more
    total-put total more [] number before after here is = absurd cc
    total-put total more (lane ∷ lanes) zero before after here is =
        ap (λ x. fold (with_total_of m) (m.join total x) lanes)
        (is ∙ ap (λ (l : LaneAtCut C O R). m.join l.store.total more)
        (sym (same_Some lane before here)))
        ∙ ap (λ x. fold (with_total_of m) x lanes) (laws.associative total lane.store.total more)
        ∙ total_more (m.join total lane.store.total) more lanes
    total-put total more (lane ∷ lanes) (suc number) before after here is =
        total-put (m.join total lane.store.total) more lanes number before after here is
