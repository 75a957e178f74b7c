-- What do contracts see of running lanes, and what was done to them?
use Rattle.std.specs.Prelude.{◌≡◌, ℕ, Bool, false, Option, Some, None, List, [], ◌∷◌, map, slice_get, slice_set}
use Rattle.ss_base.specs.declared.ids.Run.{Run}
use Rattle.ss_base.specs.declared.ids.ObjectId.{ObjectId}
use Rattle.execution_definitions.specs.Meanings.{Meaning}
use Rattle.partition_check.specs.Marked.{Marked}
use Rattle.delegates.specs.declared.home.Home.{Home}
use Rattle.lane_core.specs.Views.{LaneView, LanesView}
use Rattle.lane_core.specs.Events.{HaveComeOn, HasEntered}
use Rattle.lane_ends.specs.declared.lane_end.LaneEnd.{LaneEnd}
use Rattle.lane_ends.specs.LaneEnds.{has_worker, base_of, since_of}
use Rattle.lane_objects.specs.declared.object.Object.{Object}
use Rattle.lane_objects.specs.Objects.{value_at_home}
use Rattle.lane_store.specs.declared.store.LaneStore.{LaneStore}

module _ {C W O R : Type 0} (m : Meaning C O R) (home_of : W → Home C O R) where
  -- a lane: who takes its messages, the store with which that began, and the messages since
  abbrev pub lane_of_end : List Run → LaneEnd C W O R → LaneView C O R
  lane_of_end log end = record {
    has_worker = has_worker end;
    base = base_of m home_of end;
    since = since_of home_of end;
    log = log;
  }

  -- all lanes
  abbrev pub lanes_of : List (List Run) → List (LaneEnd C W O R) → List (LaneView C O R)
  lanes_of [] [] = []
  lanes_of (log ∷ logs) [] = []
  lanes_of [] (end ∷ ends) = lane_of_end [] end ∷ lanes_of [] ends
  lanes_of (log ∷ logs) (end ∷ ends) = lane_of_end log end ∷ lanes_of logs ends

  -- what is at home, and all lanes
  abbrev pub running_of : LaneStore C W O R → Marked → Bool → LanesView C O R
  running_of store marks has_failed = record {
    values = map value_at_home store.objects.items;
    total = store.total;
    marks = marks;
    lanes = lanes_of store.logs.items store.ends.items;
    has_failed = has_failed;
  }

  -- lanes have come on, whatever the marks say
  abbrev pub ComesOn : LaneStore C W O R → LaneStore C W O R → Type 0
  ComesOn old new =
      (marks : Marked) → HaveComeOn m (running_of old marks false) (running_of new marks false)

  -- an operation was sent to a lane, where it waits
  abbrev pub Enters : LaneStore C W O R → LaneStore C W O R → ℕ → Run → O → Option C → Type 0
  Enters old new lane run op read =
      (marks : Marked) → HasEntered m (running_of old marks false) (running_of new marks false) lane
      (record { run = run; op = op; read = read })

-- a value is at home, and is what was read
pub record IsReadAtHome {C : Type 0} (objects : List (Object C)) (object : ℕ) (read : Option C)
    : Type 0 where
  pub value : C
  pub home : slice_get (map value_at_home objects) object ≡ Some (Some value)
  pub is : read ≡ Some value

-- what an operation reads is at home, unless it is its own object
abbrev pub ReadsAtHome : {C : Type 0} → List (Object C) → ℕ → Option ObjectId → Option C → Type 0
ReadsAtHome objects own None read = read ≡ None
ReadsAtHome objects own (Some object) read =
    (object.0 ≡ own → ⊥) → IsReadAtHome objects object.0 read

-- an operation took effect on the value of an object at home
pub record TakesEffect {C O R : Type 0} (m : Meaning C O R) (old new : List (Object C)) (total sum : R)
    (object : ℕ) (op : O) : Type 0 where
  pub value : C
  pub was : slice_get (map value_at_home old) object ≡ Some (Some value)
  pub now :
      map value_at_home new
      ≡ slice_set (map value_at_home old) object (Some (m.step value op None).0)
  pub total_is : sum ≡ m.join total (m.step value op None).1
