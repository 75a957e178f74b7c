-- The cores at all cuts drain to the same.
--
-- Where something waits behind a cut, the event of the least such lane leads to a cut with one run
-- more, which drains to the same. So each cut drains to what the cut with all runs has.
use Rattle.std.proofs.Common.{◌≡◌, ℕ, zero, suc, ◌+◌, ◌<◌, ◌⊎◌, inl, inr, Some, List, [], ◌∷◌, length, map, refl, sym, ap, ◌∙◌, subst, arith, length-append}
use Rattle.std.specs.Prelude.{fold}
use Rattle.class_laws.specs.Laws.{ReducibleLaws}
use Rattle.execution_definitions.specs.Meanings.{Meaning}
use Rattle.execution_definitions.specs.Sequential.{State}
use Rattle.interleavings.specs.Machines.{Entry, Core, front_at, without_front, entry_done, entries_done, drained, taken, lane_event}
use Rattle.lane_core.specs.Views.{LaneView, LanesView, runs_known, runs_sent, entries_in}
use Rattle.lane_core.specs.Cuts.{IsCut, least_cut, with_one_more, lane_at, lanes_at}
use Rattle.lane_core.specs.Cores.{core}
use Rattle.lane_core.specs.Kept.{IsKept}
use Rattle.lane_core.specs.Laws.{CutsDrainAlike}
use Rattle.lane_core.proofs.LanesLemmas.{entries_waiting, waiting_in}
use Rattle.lane_core.proofs.EventLemmas.{cuts_go_on}

-- how much waits
waiting : {A : Type 0} → List (List A) → ℕ
waiting [] = 0
waiting (entries ∷ lanes) = length entries + waiting lanes

module _ {C O R : Type 0} where
  -- the greatest cut: all runs that were sent
  abbrev pub all_runs : List (LaneView C O R) → List ℕ
  all_runs lanes = map (λ (lane : LaneView C O R). length (runs_sent lane)) lanes

  -- the least cut is a cut
  pub least-is_cut : (lanes : List (LaneView C O R)) → IsCut lanes (least_cut lanes)
  least-is_cut [] = tt
  least-is_cut (lane ∷ lanes) =
      let count = length-append (runs_known lane)
      (map (λ (e : Entry C O). e.run) (entries_in lane.since)) in
      (omega arith, omega arith, least-is_cut lanes)

  -- and so is the greatest
  pub all-is_cut : (lanes : List (LaneView C O R)) → IsCut lanes (all_runs lanes)
  all-is_cut [] = tt
  all-is_cut (lane ∷ lanes) =
      let count = length-append (runs_known lane)
      (map (λ (e : Entry C O). e.run) (entries_in lane.since)) in
      (omega arith, omega arith, all-is_cut lanes)

module _ {C O R : Type 0} (m : Meaning C O R) where
  -- what is at the front of the least lane in which something waits takes effect first
  record HasNext (lanes : List (List (Entry C O))) : Type 0 where
    lane : ℕ
    entry : Entry C O
    inside : lane < length lanes
    front : front_at lanes lane ≡ Some entry
    less : waiting (without_front lane lanes) + 1 ≡ waiting lanes
    first :
        (state : State C R) →
        fold (entries_done m) state lanes
        ≡ fold (entries_done m) (entry_done m state entry) (without_front lane lanes)

  has_next : (lanes : List (List (Entry C O))) → (waiting lanes ≡ 0) ⊎ HasNext lanes
  unfolding waiting
  has_next [] = inl refl
  has_next ((entry ∷ rest) ∷ lanes) = inr (record {
    lane = 0;
    entry = entry;
    inside = omega arith;
    front = refl;
    less = omega arith;
    first = λ state. refl;
  })
  has_next ([] ∷ lanes) = behind (has_next lanes) where
    behind : (waiting lanes ≡ 0) ⊎ HasNext lanes →
        (waiting ([] ∷ lanes) ≡ 0) ⊎ HasNext ([] ∷ lanes)
    behind (inl none) = inl (omega (arith, none))
    behind (inr next) = inr (record {
      lane = suc next.lane;
      entry = next.entry;
      inside = let inside = next.inside in omega arith;
      front = next.front;
      less = let less = next.less in omega arith;
      first = next.first;
    })

  -- where nothing waits in the lanes of a cut, it is the greatest
  nothing_waits : (lanes : List (LaneView C O R)) (cut : List ℕ) → IsCut lanes cut →
      waiting (map (waiting_in m) (lanes_at m lanes cut)) ≡ 0 → cut ≡ all_runs lanes
  unfolding waiting
  nothing_waits [] [] is none = refl
  nothing_waits [] (runs ∷ cut) is none = absurd is
  nothing_waits (lane ∷ lanes) [] is none = absurd is
  nothing_waits (lane ∷ lanes) (runs ∷ cut) is none =
      let left = entries_waiting m lane runs (record { least = is.0; most = is.1 }) in
      let same : runs ≡ length (runs_sent lane) = omega (arith, none) in
      rw (same, nothing_waits lanes cut is.2 (omega (arith, none))) refl

  -- where something waits in a lane, the cut may have one run more there
  one_more-is_cut : (lanes : List (LaneView C O R)) (cut : List ℕ) (number : ℕ) (e : Entry C O) →
      IsCut lanes cut → front_at (map (waiting_in m) (lanes_at m lanes cut)) number ≡ Some e →
      IsCut lanes (with_one_more number cut)
  one_more-is_cut [] [] number e is front = absurd cc
  one_more-is_cut [] (runs ∷ cut) number e is front = absurd is
  one_more-is_cut (lane ∷ lanes) [] number e is front = absurd is
  one_more-is_cut (lane ∷ lanes) (runs ∷ cut) zero e is front =
      let left = entries_waiting m lane runs (record { least = is.0; most = is.1 }) in
      let some : 0 < length (waiting_in m (lane_at m lane runs)) =
      not_empty (waiting_in m (lane_at m lane runs)) front in
      let least = is.0 in
      (omega arith, omega (arith, left, some), is.2)
    where
      not_empty : (entries : List (Entry C O)) → front_at (entries ∷ []) 0 ≡ Some e →
          0 < length entries
      not_empty [] front = absurd cc
      not_empty (first ∷ rest) front = omega arith
  one_more-is_cut (lane ∷ lanes) (runs ∷ cut) (suc number) e is front =
      (is.0, is.1, one_more-is_cut lanes cut number e is.2 front)

  pub count_at_cut : (lanes : List (LaneView C O R)) (cut : List ℕ) → IsCut lanes cut →
      length (map (waiting_in m) (lanes_at m lanes cut)) ≡ length lanes
  count_at_cut [] [] is = refl
  count_at_cut [] (runs ∷ cut) is = absurd is
  count_at_cut (lane ∷ lanes) [] is = absurd is
  count_at_cut (lane ∷ lanes) (runs ∷ cut) is = ap suc (count_at_cut lanes cut is.2)

  module _ (laws : ReducibleLaws m.unit m.join) (view : LanesView C O R) (kept : IsKept view)
    where
      -- the event of a lane, where it is first
      event_first : (cut : List ℕ) (next : HasNext (core m view cut).lanes) →
          drained m (core m view cut) ≡ drained m (lane_event m (core m view cut) next.lane)
      event_first cut next =
          next.first (core m view cut).state
          ∙ sym (ap (λ o. drained m (taken m (core m view cut) next.lane o)) next.front)

      -- one run fewer waits behind the event of a lane
      one_less : (cut : List ℕ) (next : HasNext (core m view cut).lanes) (after : Core C O R) →
          after ≡ lane_event m (core m view cut) next.lane →
          waiting after.lanes + 1 ≡ waiting (core m view cut).lanes
      one_less cut next after leaves =
          ap (λ (c : Core C O R). waiting c.lanes + 1)
          (leaves ∙ ap (taken m (core m view cut) next.lane) next.front)
          ∙ next.less

      -- what a cut drains to, if those behind which less waits drain to it
      drains_by : (cut : List ℕ) → IsCut view.lanes cut →
          ((c : List ℕ) → IsCut view.lanes c →
          waiting (core m view c).lanes + 1 ≡ waiting (core m view cut).lanes →
          drained m (core m view c) ≡ drained m (core m view (all_runs view.lanes))) →
          (waiting (core m view cut).lanes ≡ 0) ⊎ HasNext (core m view cut).lanes →
          drained m (core m view cut) ≡ drained m (core m view (all_runs view.lanes))
      drains_by cut is below (inl none) =
          ap (λ c. drained m (core m view c)) (nothing_waits view.lanes cut is none)
      drains_by cut is below (inr next) =
          let is_next = one_more-is_cut view.lanes cut next.lane next.entry is next.front in
          let inside : next.lane < length view.lanes =
          subst (λ n. next.lane < n) (count_at_cut view.lanes cut is) next.inside in
          let event = cuts_go_on m laws view kept cut next.lane inside is is_next in
          event_first cut next ∙ ap (drained m) (sym event.leaves)
          ∙ below (with_one_more next.lane cut) is_next (one_less cut next _ event.leaves)

      drains : (k : ℕ) (cut : List ℕ) → IsCut view.lanes cut →
          waiting (core m view cut).lanes ≡ k →
          drained m (core m view cut) ≡ drained m (core m view (all_runs view.lanes))
      drains zero cut is count =
          drains_by cut is (λ c is_c less. absurd (omega (arith, less, count)))
          (has_next (core m view cut).lanes)
      drains (suc k) cut is count =
          drains_by cut is (λ c is_c less. drains k c is_c (omega (arith, less, count)))
          (has_next (core m view cut).lanes)

      pub cuts_drain_alike : CutsDrainAlike m view
      cuts_drain_alike cut other is is_other =
          drains (waiting (core m view cut).lanes) cut is refl
          ∙ sym (drains (waiting (core m view other).lanes) other is_other refl)
