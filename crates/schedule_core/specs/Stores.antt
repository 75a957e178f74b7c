-- What do contracts see of a store, and what does the answer of a call say of it?
--
-- Values, total and lanes are a core. The marks stand for the calls that were taken: what holds of
-- one list of calls that they represent holds of each.
use Rattle.std.specs.Prelude.{◌≡◌, ◌≤◌, Option, Some, None, Result, Ok, Err, List, [], ◌∷◌, ◌++◌, map, length}
use Rattle.execution_definitions.specs.declared.serializer.By.{By}
use Rattle.execution_definitions.specs.declared.refusal.Refusal.{Refusal}
use Rattle.execution_definitions.specs.declared.call.Call.{Call}
use Rattle.execution_definitions.specs.declared.call.Call.TheVariants.{Make, MakeFixed}
use Rattle.execution_definitions.specs.declared.call.Reply.{Reply}
use Rattle.execution_definitions.specs.Refusals.{breaks}
use Rattle.execution_definitions.specs.Meanings.{Meaning, shape_of, shapes_of}
use Rattle.execution_definitions.specs.Sequential.{reply_of}
use Rattle.interleavings.specs.Machines.{Entry, Core, call_event}
use Rattle.partition_check.specs.Represents.{Represents}
use Rattle.delegation.specs.declared.call.Fault.{Fault}
use Rattle.delegation.specs.declared.call.Fault.TheVariants.{Refused, OutOfMemory}
use Rattle.delegation.specs.PlainParts.{state_of}
use Rattle.schedule_core.specs.declared.queues.Queue.{Queue}
use Rattle.schedule_core.specs.declared.store.Waiting.{Waiting}
use Rattle.schedule_core.specs.declared.store.Store.{Store}
use Rattle.schedule_core.specs.Queues.{queued}

module _ {C O R : Type 0} where
  -- an operation that waits
  abbrev pub entry_of : Waiting C O R → Entry C O
  entry_of waiting = record { run = waiting.run; op = waiting.op; read = waiting.read }

  -- what waits in each lane
  abbrev pub lanes_of : List (Queue (Waiting C O R)) → List (List (Entry C O))
  lanes_of lanes = map (λ entries. map entry_of entries) (queued lanes)

  -- values, total and lanes
  abbrev pub core_of : Store C O R → Core C O R
  core_of store = record {
    state = state_of store.values.items store.total;
    lanes = lanes_of store.lanes.items;
  }

  -- each marked object has a value, and there are 1 to 64 lanes
  pub record IsFit (store : Store C O R) : Type 0 where
    pub values : length store.values.items ≡ length store.marks.objects
    pub some_lane : 1 ≤ length store.lanes.items
    pub few_lanes : length store.lanes.items ≤ 64

  -- as long as memory was found, the store is fit
  abbrev pub StaysFit : {T : Type 0} → Store C O R → Result T Fault → Type 0
  StaysFit store (Err OutOfMemory) = Unit {0}
  StaysFit store _ = IsFit store

-- the call that makes an object: read-only where no serializer is asked for
abbrev pub call_making : {C O : Type 0} → C → Option By → Call C O
call_making value None = MakeFixed value
call_making value (Some by) = Make value by

module _ {C O R : Type 0} (m : Meaning C O R) where
  -- the store is after these calls, as its marks know
  abbrev pub IsAfter : Store C O R → List (Call C O) → Type 0
  IsAfter store before = Represents store.marks (shapes_of m before)

  -- a call that is accepted after these calls
  pub record Accepts (before : List (Call C O)) (old new : Store C O R) (call : Call C O)
      (told : Reply C R) : Type 0 where
    pub allowed : breaks (shapes_of m before) (shape_of m.own call) ≡ None
    pub core : core_of new ≡ call_event m before (core_of old) call
    pub marks : IsAfter new (before ++ call ∷ [])
    pub reply : Some told ≡ reply_of m (core_of old).state (length before) call

  -- a call that is refused after these calls
  pub record Refuses (before : List (Call C O)) (old new : Store C O R) (call : Call C O)
      (refusal : Refusal) : Type 0 where
    pub why : breaks (shapes_of m before) (shape_of m.own call) ≡ Some refusal
    pub core : core_of new ≡ core_of old
    pub marks : new.marks ≡ old.marks

  -- what an answer says after these calls
  abbrev pub AnswersAfter :
      List (Call C O) → Store C O R → Store C O R → Call C O → Result (Reply C R) Fault → Type 0
  AnswersAfter before old new call (Ok reply) = Accepts before old new call reply
  AnswersAfter before old new call (Err (Refused refusal)) =
      Refuses before old new call refusal
  AnswersAfter before old new call (Err OutOfMemory) = Unit {0}

  -- the same after all calls that the store was after
  abbrev pub Answers :
      Store C O R → Store C O R → Call C O → Result (Reply C R) Fault → Type 0
  Answers old new call result =
      (before : List (Call C O)) → IsAfter old before → AnswersAfter before old new call result
