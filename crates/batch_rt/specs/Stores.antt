-- What does a store come to, and when do its parts fit?
--
-- All that is pending counts as done. So a lane that runs, or comes home, changes nothing of this.
use Rattle.std.specs.Prelude.{◌≡◌, ℕ, ◌+◌, ◌<◌, Option, Some, None, Result, Err, List, [], ◌∷◌, ◌++◌, map, length, fold, slice_get, replicate}
use Rattle.std.specs.List.{slice_index_or}
use Rattle.std.specs.Arc.{arc_value}
use Rattle.ss_base.specs.declared.ids.Run.{Run}
use Rattle.ss_base.specs.declared.ids.ObjectId.{ObjectId}
use Rattle.ss_base.specs.declared.ids.SetId.{SetId}
use Rattle.execution_definitions.specs.Meanings.{Meaning}
use Rattle.execution_definitions.specs.Sequential.{State, with_object, initial_state}
use Rattle.execution_definitions.specs.Sets.{lane_of_set}
use Rattle.partition_check.specs.Marked.{Marked}
use Rattle.partition_check.specs.declared.fault.MarkFault.{MarkFault}
use Rattle.partition_check.specs.declared.fault.MarkFault.TheVariants.{Refused}
use Rattle.delegation.specs.Runtimes.{AreFronts}
use Rattle.batch_rt.specs.declared.object.Object.{Object}
use Rattle.batch_rt.specs.declared.object.Object.TheVariants.{Here, Shared, Sent}
use Rattle.batch_rt.specs.declared.lane.Lane.{Lane}
use Rattle.batch_rt.specs.declared.store.Store.{Store}
use Rattle.batch_rt.specs.Objects.{lane_and_place}
use Rattle.batch_rt.specs.Lanes.{load_of, lane_runs, IsFit, IsIdle}

module _ {C O R : Type 0} where
  -- the runs sent to each lane: those of its log, and those that the lane has
  abbrev pub sent_runs : List (List Run) → List (Lane C O R) → List (List Run)
  sent_runs (log ∷ logs) (lane ∷ lanes) = (log ++ lane_runs lane) ∷ sent_runs logs lanes
  sent_runs _ _ = []

  abbrev pub store_sent : Store C O R → List (List Run)
  store_sent store = sent_runs store.logs.items store.lanes.items

module _ {C O R : Type 0} (m : Meaning C O R) where
  -- the value at a place of a lane; where there is none, this one
  abbrev pub value_in : Option (Lane C O R) → ℕ → C → C
  value_in None place none = none
  value_in (Some lane) place none = slice_index_or (load_of m lane).values place none

  -- the value of an object, with all that is pending done
  abbrev pub value_after : List (Lane C O R) → Object C → C
  value_after lanes (Here value) = value
  value_after lanes (Shared shared) = arc_value shared
  value_after lanes (Sent lane place was) = value_in (slice_get lanes lane) place was.value

  -- a total with what a lane contributed, where it did
  abbrev pub with_part : R → Option R → R
  with_part total None = total
  with_part total (Some part) = m.join total part

  abbrev pub with_lane : R → Lane C O R → R
  with_lane total lane = with_part total (load_of m lane).part

  abbrev pub total_after : R → List (Lane C O R) → R
  total_after total lanes = fold with_lane total lanes

  -- values and total, with all that is pending done
  abbrev pub state_from : List (Object C) → R → List (Lane C O R) → State C R
  state_from objects total lanes = record {
    values = map (value_after lanes) objects;
    total = total_after total lanes;
  }

  abbrev pub store_state : Store C O R → State C R
  store_state store = state_from store.objects.items store.total store.lanes.items

-- the lane and the place of the object of a number, if it isn't at home
abbrev pub found_in : {C : Type 0} → Option (Object C) → Option (ℕ × ℕ)
found_in None = None
found_in (Some object) = lane_and_place object

abbrev pub found_at : {C : Type 0} → List (Object C) → ℕ → Option (ℕ × ℕ)
found_at objects object = found_in (slice_get objects object)

module _ {C O R : Type 0} where
  -- the objects that went with a lane, by their numbers
  abbrev pub numbers_in : Option (Lane C O R) → List ℕ
  numbers_in None = []
  numbers_in (Some lane) = map (λ number. number.0) lane.numbers.items

  abbrev pub lane_numbers : List (Lane C O R) → ℕ → List ℕ
  lane_numbers lanes lane = numbers_in (slice_get lanes lane)

  -- all lanes are so
  abbrev pub Each : (Lane C O R → Type 0) → List (Lane C O R) → Type 0
  Each P lanes = (n : ℕ) (lane : Lane C O R) → slice_get lanes n ≡ Some lane → P lane

  -- an object that was sent is in its place in its lane, and lanes have no others
  pub record IsWhole (objects : List (Object C)) (lanes : List (Lane C O R)) : Type 0 where
    pub there : (object lane place : ℕ) →
        found_at objects object ≡ Some (lane, place) →
        slice_get (lane_numbers lanes lane) place ≡ Some object
    pub only : (lane place object : ℕ) →
        slice_get (lane_numbers lanes lane) place ≡ Some object →
        found_at objects object ≡ Some (lane, place)
    pub fit : Each IsFit lanes

  abbrev pub IsWholeStore : Store C O R → Type 0
  IsWholeStore store = IsWhole store.objects.items store.lanes.items

  -- the lane has nothing in it
  abbrev pub IsIdleAt : ℕ → List (Lane C O R) → Type 0
  IsIdleAt n lanes = (lane : Lane C O R) → slice_get lanes n ≡ Some lane → IsIdle lane

-- no object went to a lane
abbrev pub NoneSent : {C : Type 0} → List (Object C) → List (Object C) → Type 0
NoneSent old new =
    (n lane place : ℕ) → found_at new n ≡ Some (lane, place) → found_at old n ≡ Some (lane, place)

module _ {C O R : Type 0} (m : Meaning C O R) where
  -- the store comes to the same. Lanes may have done more
  pub record Continues (old new : Store C O R) : Type 0 where
    pub state : store_state m new ≡ store_state m old
    pub sent : store_sent new ≡ store_sent old
    pub whole : IsWholeStore new
    pub objects : length new.objects.items ≡ length old.objects.items
    pub lanes : length new.lanes.items ≡ length old.lanes.items
    pub logs : AreFronts old.logs.items new.logs.items

  -- and a lane came home
  pub record ComesHome (old new : Store C O R) (lane : ℕ) : Type 0 where
    pub continues : Continues old new
    pub idle : IsIdleAt lane new.lanes.items
    pub others : (n : ℕ) → (n ≡ lane → ⊥) →
        slice_get new.lanes.items n ≡ slice_get old.lanes.items n
    pub found : NoneSent old.objects.items new.objects.items

module _ {C O R : Type 0} where
  -- the lane has nothing pending
  abbrev pub IsDoneAt : ℕ → List (Lane C O R) → Type 0
  IsDoneAt n lanes = (lane : Lane C O R) → slice_get lanes n ≡ Some lane → lane.pending.items ≡ []

-- an object, where there is one, has a number below this
abbrev pub HasAll : ℕ → Option ObjectId → Type 0
HasAll count None = Unit {0}
HasAll count (Some object) = object.0 < count

-- an object more
pub record IsAdded {C O R : Type 0} (m : Meaning C O R) (old new : Store C O R) (value : C)
    : Type 0 where
  pub state : store_state m new ≡ with_object (store_state m old) value
  pub whole : IsWholeStore old → IsWholeStore new
  pub objects : length new.objects.items ≡ length old.objects.items + 1
  pub lanes : new.lanes.items ≡ old.lanes.items
  pub logs : new.logs.items ≡ old.logs.items

module _ {C O R : Type 0} where
  -- a refusal changed neither marks nor store
  abbrev pub IsUnchanged :
      {T : Type 0} → Result T MarkFault → Marked → Marked → Store C O R → Store C O R → Type 0
  IsUnchanged (Err (Refused refusal)) marks new_marks store new_store =
      (new_marks ≡ marks) × (new_store ≡ store)
  IsUnchanged _ marks new_marks store new_store = Unit {0}

  -- the lane of a set has done all that was sent to it
  abbrev pub IsCaughtUp : Store C O R → ℕ → Option SetId → Type 0
  IsCaughtUp store n None = Unit {0}
  IsCaughtUp store n (Some set) =
      slice_get store.logs.items (lane_of_set set.0 n)
      ≡ slice_get (store_sent store) (lane_of_set set.0 n)

-- before the first call
pub record IsNewStore {C O R : Type 0} (m : Meaning C O R) (store : Store C O R) (n : ℕ)
    : Type 0 where
  pub state : store_state m store ≡ initial_state m
  pub sent : store_sent store ≡ store.logs.items
  pub logs : store.logs.items ≡ replicate n []
  pub lanes : length store.lanes.items ≡ n
  pub objects : store.objects.items ≡ []
  pub idle : Each IsIdle store.lanes.items
