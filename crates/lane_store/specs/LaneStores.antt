-- What does a lane store come to, and what is kept of it between calls?
use Rattle.std.specs.Prelude.{◌≡◌, ℕ, ◌+◌, ◌<◌, Bool, true, false, Option, Some, None, Result, Err, List, [], ◌∷◌, ◌++◌, length, map, slice_get, replicate}
use Rattle.ss_base.specs.declared.ids.Run.{Run}
use Rattle.ss_base.specs.declared.ids.ObjectId.{ObjectId}
use Rattle.ss_base.specs.declared.ids.SetId.{SetId}
use Rattle.execution_definitions.specs.Meanings.{Meaning}
use Rattle.execution_definitions.specs.Sequential.{State, with_object, operated, initial_state}
use Rattle.execution_definitions.specs.Sets.{lane_of_set}
use Rattle.partition_check.specs.Marked.{Marked}
use Rattle.partition_check.specs.declared.fault.MarkFault.{MarkFault}
use Rattle.partition_check.specs.declared.fault.MarkFault.TheVariants.{Refused}
use Rattle.delegation.specs.Runtimes.{AreFronts}
use Rattle.delegation.specs.Answers.{with_run}
use Rattle.delegates.specs.declared.home.Home.{Home}
use Rattle.delegates.specs.Stores.{Stored}
use Rattle.lane_ends.specs.declared.lane_end.LaneEnd.{LaneEnd}
use Rattle.lane_ends.specs.LaneEnds.{has_worker, comes_to, IsWhole, IsIdle}
use Rattle.lane_objects.specs.declared.object.Object.{Object}
use Rattle.lane_store.specs.declared.store.LaneStore.{LaneStore}
use Rattle.lane_objects.specs.Objects.{value_at_home, found_at, NoneSent}
use Rattle.lane_objects.specs.Outcomes.{sent_runs, state_from, AreApart}
use Rattle.lane_store.specs.Running.{ComesOn, Enters}

-- all lanes are so
abbrev pub Each : {C W O R : Type 0} → (LaneEnd C W O R → Type 0) → List (LaneEnd C W O R) → Type 0
Each P ends = (n : ℕ) (end : _) → slice_get ends n ≡ Some end → P end

-- an object, where there is one, has a number below this
abbrev pub HasAll : ℕ → Option ObjectId → Type 0
HasAll count None = Unit {0}
HasAll count (Some object) = object.0 < count

module _ {C W O R : Type 0} where
  -- a delegate in a thread of its own takes from the lane, where there is one
  abbrev pub has_worker_in : Option (LaneEnd C W O R) → Bool
  has_worker_in None = false
  has_worker_in (Some end) = has_worker end

  -- and from the lane of this number
  abbrev pub has_worker_at : List (LaneEnd C W O R) → ℕ → Bool
  has_worker_at ends lane = has_worker_in (slice_get ends lane)

module _ {C W O R : Type 0} (m : Meaning C O R) (home_of : W → Home C O R) where
  -- the stores to which lanes come
  abbrev pub stores_of : List (LaneEnd C W O R) → List (Stored C R)
  stores_of ends = map (comes_to m home_of) ends

  -- values and total, with all that was sent done
  abbrev pub store_state : LaneStore C W O R → State C R
  store_state store =
      state_from m store.objects.items store.total (stores_of store.ends.items)

  -- the runs sent to each lane
  abbrev pub store_sent : LaneStore C W O R → List (List Run)
  store_sent store = sent_runs store.logs.items (stores_of store.ends.items)

  -- each object is in one place, lanes are whole, and the total is one that the unit or a join made
  pub record Fit (objects : List (Object C)) (total : R) (ends : List (LaneEnd C W O R))
      : Type 0 where
    pub apart : AreApart objects (stores_of ends)
    pub lanes : Each (IsWhole m home_of) ends
    pub made : m.join total m.unit ≡ total

  abbrev pub IsWholeStore : LaneStore C W O R → Type 0
  IsWholeStore store = Fit store.objects.items store.total store.ends.items

  -- nothing is in any lane
  abbrev pub AreIdle : LaneStore C W O R → Type 0
  AreIdle store = Each (IsIdle m home_of) store.ends.items

  -- nothing is in the lane of this number
  abbrev pub IsIdleAt : ℕ → List (LaneEnd C W O R) → Type 0
  IsIdleAt n ends = (end : LaneEnd C W O R) → slice_get ends n ≡ Some end → IsIdle m home_of end

  -- the store comes to the same
  pub record Continues (old new : LaneStore C W O R) : Type 0 where
    pub state : store_state new ≡ store_state old
    pub sent : store_sent new ≡ store_sent old
    pub whole : IsWholeStore new
    pub objects : length new.objects.items ≡ length old.objects.items
    pub lanes : length new.ends.items ≡ length old.ends.items
    pub logs : AreFronts old.logs.items new.logs.items
    pub found : NoneSent old.objects.items new.objects.items
    pub comes_on : ComesOn m home_of old new

  -- and a lane came home
  pub record ComesHome (old new : LaneStore C W O R) (lane : ℕ) : Type 0 where
    pub continues : Continues old new
    pub idle : IsIdleAt lane new.ends.items
    pub others : (n : ℕ) → (n ≡ lane → ⊥) →
        slice_get new.ends.items n ≡ slice_get old.ends.items n
    pub found : NoneSent old.objects.items new.objects.items

  -- an object more
  pub record IsAdded (old new : LaneStore C W O R) (value : C) : Type 0 where
    pub state : store_state new ≡ with_object (store_state old) value
    pub whole : IsWholeStore old → IsWholeStore new
    pub objects : length new.objects.items ≡ length old.objects.items + 1
    pub lanes : new.ends.items ≡ old.ends.items
    pub logs : new.logs.items ≡ old.logs.items
    pub found : NoneSent old.objects.items new.objects.items
    pub values : map value_at_home new.objects.items ≡ map value_at_home old.objects.items ++ Some value ∷ []
    pub total : new.total ≡ old.total

  -- an operation went to the end of a lane
  pub record Sends (old new : LaneStore C W O R) (lane : ℕ) (run : Run) (op : O)
      (read : Option C) : Type 0 where
    pub state : store_state new ≡ operated m (store_state old) run.object.0 op read
    pub sent : store_sent new ≡ with_run lane run (store_sent old)
    pub whole : IsWholeStore new
    pub objects : length new.objects.items ≡ length old.objects.items
    pub lanes : length new.ends.items ≡ length old.ends.items
    pub logs : AreFronts old.logs.items new.logs.items
    -- its object is in this lane, and no other object went to one
    pub there : found_at new.objects.items run.object.0 ≡ Some (lane, run.object.0)
    pub others :
        (n k number : ℕ) → (n ≡ run.object.0 → ⊥) →
        found_at new.objects.items n ≡ Some (k, number) →
        found_at old.objects.items n ≡ Some (k, number)
    pub enters : Enters m home_of old new lane run op read

  -- nothing is in the lane of a set
  abbrev pub IsIdleFor : LaneStore C W O R → ℕ → Option SetId → Type 0
  IsIdleFor store n None = Unit {0}
  IsIdleFor store n (Some set) = IsIdleAt (lane_of_set set.0 n) store.ends.items

  -- the lane of a set has done all that was sent to it
  abbrev pub IsCaughtUp : LaneStore C W O R → ℕ → Option SetId → Type 0
  IsCaughtUp store n None = Unit {0}
  IsCaughtUp store n (Some set) =
      slice_get store.logs.items (lane_of_set set.0 n)
      ≡ slice_get (store_sent store) (lane_of_set set.0 n)

  -- before the first call
  pub record IsNewStore (store : LaneStore C W O R) (n : ℕ) : Type 0 where
    pub state : store_state store ≡ initial_state m
    pub sent : store_sent store ≡ store.logs.items
    pub logs : store.logs.items ≡ replicate n []
    pub lanes : length store.ends.items ≡ n
    pub objects : store.objects.items ≡ []
    pub idle : AreIdle store
    pub made : m.join store.total m.unit ≡ store.total

module _ {C W O R : Type 0} where
  -- a refusal changed neither marks nor store
  abbrev pub IsUnchanged :
      {T : Type 0} → Result T MarkFault → Marked → Marked → LaneStore C W O R
      → LaneStore C W O R → Type 0
  IsUnchanged (Err (Refused refusal)) marks new_marks store new_store =
      (new_marks ≡ marks) × (new_store ≡ store)
  IsUnchanged _ marks new_marks store new_store = Unit {0}
