-- What became of running lanes between two looks, and which event of the machine is a call?
--
-- How far delegates have come can't be seen. So it is said for each cut: as far as lanes may have come
-- at the later look, they may have come at the earlier one, and have the same core there. The least
-- cut of the later look is one of these.
use Rattle.std.specs.Prelude.{◌≡◌, ℕ, true, ◌⊎◌, Option, Some, None, List, length, map, fold, slice_get}
use Rattle.execution_definitions.specs.declared.call.Call.{Call}
use Rattle.execution_definitions.specs.Meanings.{Meaning}
use Rattle.interleavings.specs.Machines.{Entry, with_entry, may_take, call_event}
use Rattle.lane_core.specs.Views.{LanesView, entries_in}
use Rattle.lane_core.specs.Cuts.{LaneAtCut, IsCut, least_cut, lanes_at}
use Rattle.lane_core.specs.Cores.{value_in, with_total_of, core}

module _ {C O R : Type 0} where
  -- an object has this value in one of these lanes
  pub record IsInLane (lanes : List (LaneAtCut C O R)) (object : ℕ) (value : C) : Type 0 where
    pub number : ℕ
    pub lane : LaneAtCut C O R
    pub at : slice_get lanes number ≡ Some lane
    pub has : value_in object lane ≡ Some value

  -- an object has this value at home, or in one of these lanes
  abbrev pub HasValue : List (Option C) → List (LaneAtCut C O R) → ℕ → C → Type 0
  HasValue values lanes object value =
      (slice_get values object ≡ Some (Some value))
      ⊎ ((slice_get values object ≡ Some None) × IsInLane lanes object value)

module _ {C O R : Type 0} (m : Meaning C O R) where
  -- lanes that have come so far have all that other lanes had: values, total, and what waits
  pub record AreSame (old new : LanesView C O R) (before after : List (LaneAtCut C O R))
      : Type 0 where
    pub count : length new.values ≡ length old.values
    pub values :
        (object : ℕ) (value : C) → HasValue old.values before object value →
        HasValue new.values after object value
    pub total :
        fold (with_total_of m) new.total after ≡ fold (with_total_of m) old.total before
    pub waiting :
        map (λ (lane : LaneAtCut C O R). entries_in lane.waiting) after
        ≡ map (λ (lane : LaneAtCut C O R). entries_in lane.waiting) before

  -- lanes have come on: each cut was a cut, where lanes had all that they have now
  pub record HaveComeOn (old new : LanesView C O R) : Type 0 where
    pub each :
        (cut : List ℕ) → IsCut new.lanes cut →
        IsCut old.lanes cut
        × AreSame old new (lanes_at m old.lanes cut) (lanes_at m new.lanes cut)

  -- lanes have all that other lanes had, and one entry more, which is the last that waits in one of
  -- them
  pub record AreEntered (old new : LanesView C O R) (before after : List (LaneAtCut C O R))
      (number : ℕ) (e : Entry C O) : Type 0 where
    pub count : length new.values ≡ length old.values
    pub values :
        (object : ℕ) (value : C) → HasValue old.values before object value →
        HasValue new.values after object value
    pub total :
        fold (with_total_of m) new.total after ≡ fold (with_total_of m) old.total before
    pub waiting :
        map (λ (lane : LaneAtCut C O R). entries_in lane.waiting) after
        ≡ with_entry number e (map (λ (lane : LaneAtCut C O R). entries_in lane.waiting) before)

  -- an operation was sent to a lane: it is not known to be taken, and as far as lanes are known to
  -- have come, they have all that they had there before it, and the operation waits
  pub record HasEntered (old new : LanesView C O R) (number : ℕ) (e : Entry C O) : Type 0 where
    pub cut : IsCut old.lanes (least_cut new.lanes)
    pub entered :
        AreEntered old new (lanes_at m old.lanes (least_cut new.lanes))
        (lanes_at m new.lanes (least_cut new.lanes)) number e

  -- a call is the machine's program event: at the least cut of the lanes that it leaves, which was a
  -- cut before it, the event was enabled and leaves their core
  pub record IsItsEvent (before : List (Call C O)) (old new : LanesView C O R) (call : Call C O)
      : Type 0 where
    pub cut : IsCut old.lanes (least_cut new.lanes)
    pub enabled : may_take m before (core m old (least_cut new.lanes)) call ≡ true
    pub leaves :
        core m new (least_cut new.lanes)
        ≡ call_event m before (core m old (least_cut new.lanes)) call
