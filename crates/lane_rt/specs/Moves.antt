-- Which objects are away, and what does the runtime with lanes say of itself beyond what every
-- runtime says: where objects are after a call, and that it is the machine of lanes.
use Rattle.std.specs.Prelude.{◌≡◌, ℕ, Bool, true, false, ◌&&◌, Option, Some, None, List, slice_get}
use Rattle.ss_base.specs.declared.ids.ObjectId.{ObjectId}
use Rattle.ss_base.specs.declared.ids.SetId.{SetId}
use Rattle.execution_definitions.specs.declared.call.Call.{Call}
use Rattle.execution_definitions.specs.declared.call.Call.TheVariants.{Delegate, Write, Get, End}
use Rattle.execution_definitions.specs.Meanings.{Meaning}
use Rattle.execution_definitions.specs.Sets.{lane_of_set}
use Rattle.partition_check.specs.Marked.{set_delegated}
use Rattle.delegation.specs.declared.call.Fault.{Fault}
use Rattle.delegation.specs.declared.call.Fault.TheVariants.{OutOfMemory}
use Rattle.delegation.specs.Runtimes.{IsAfter}
use Rattle.lane_core.specs.Views.{LaneView}
use Rattle.lane_core.specs.Events.{IsItsEvent}
use Rattle.lane_rt.specs.Seen.{LanesValue}

-- there is an object, and its value isn't at home
abbrev pub is_out : {C : Type 0} → Option (Option C) → Bool
is_out None = false
is_out (Some None) = true
is_out (Some (Some value)) = false

module _ {C O R : Type 0} where
  abbrev pub is_out_of : LanesValue C O R → ℕ → Bool
  is_out_of lanes object = is_out (slice_get lanes.running.values object)

  -- a delegate takes from the lane, where there is one
  abbrev pub works : Option (LaneView C O R) → Bool
  works None = false
  works (Some lane) = lane.has_worker

  -- and from the lane of a set, among so many
  abbrev pub works_for : List (LaneView C O R) → ℕ → Option SetId → Bool
  works_for lanes n None = false
  works_for lanes n (Some set) = works (slice_get lanes (lane_of_set set.0 n))

  -- an object's value isn't at home, and a delegate takes from its lane: that of its last delegation
  abbrev pub is_away : LanesValue C O R → ℕ → Bool
  is_away lanes object = is_out_of lanes object
      && works_for lanes.running.lanes lanes.runtime.delegates
      (set_delegated lanes.running.marks object)

  -- memory was wanted, but by an earlier call
  abbrev pub FailedBefore : LanesValue C O R → Option Fault → Type 0
  FailedBefore lanes fault = fault ≡ Some OutOfMemory → lanes.runtime.has_failed ≡ true

  -- a delegation that is done leaves its object away from home. One that reads no object, and whose
  -- own is away at a delegate, wants no memory
  pub record Sends (old new : LanesValue C O R) (object : ℕ) (reading : Option ObjectId)
      (fault : Option Fault) : Type 0 where
    pub out : fault ≡ None → is_out_of new object ≡ true
    pub succeeds : reading ≡ None → is_away old object ≡ true → FailedBefore old fault

  -- a write or a get that is done leaves its object at home, and an end all objects
  abbrev pub places :
      LanesValue C O R → LanesValue C O R → Call C O → Option Fault → Type 0
  places old new (Delegate object op reading) fault = Sends old new object.0 reading fault
  places old new (Write object op) fault = fault ≡ None → is_out_of new object.0 ≡ false
  places old new (Get object) fault = fault ≡ None → is_out_of new object.0 ≡ false
  places old new End fault = fault ≡ None → (object : ℕ) → is_out_of new object ≡ false
  places old new _ fault = Unit {0}

module _ {C O R : Type 0} (m : Meaning C O R) where
  -- what a call leaves: where objects are, and where it is done, the machine after its event, for
  -- whatever calls the runtime was after
  pub record Moves (old new : LanesValue C O R) (call : Call C O) (fault : Option Fault) : Type 0
    where
      pub objects : places old new call fault
      pub event :
          fault ≡ None → (before : List (Call C O)) → IsAfter m old.runtime before →
          IsItsEvent m before old.running new.running call
