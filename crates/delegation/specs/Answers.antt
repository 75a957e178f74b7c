-- What does the answer of a call say of the runtime before it and after it?
--
-- An accepted call goes on as the program does without delegates. A refused call changes nothing.
-- After a want of memory every call is answered so.
use Rattle.std.specs.Prelude.{◌≡◌, ℕ, zero, suc, Bool, true, false, Option, Some, None, Result, Ok, Err, List, [], ◌∷◌, ◌++◌, ◌⊎◌, slice_get}
use Rattle.ss_base.specs.declared.ids.Run.{Run}
use Rattle.ss_base.specs.declared.ids.SetId.{SetId}
use Rattle.ss_base.specs.Ids.{set_id, call_no}
use Rattle.execution_definitions.specs.declared.refusal.Refusal.{Refusal}
use Rattle.execution_definitions.specs.declared.call.Call.{Call}
use Rattle.execution_definitions.specs.declared.call.Call.TheVariants.{Delegate, Write, Get, Total}
use Rattle.execution_definitions.specs.declared.call.Reply.{Reply}
use Rattle.execution_definitions.specs.Sets.{lane_of_set}
use Rattle.execution_definitions.specs.Refusals.{breaks}
use Rattle.execution_definitions.specs.Meanings.{Meaning, shape_of, shapes_of}
use Rattle.execution_definitions.specs.Sequential.{state_after, reply_of}
use Rattle.partition_check.specs.Marked.{mark_at, set_marked, set_delegated}
use Rattle.partition_check.specs.Judged.{judged}
use Rattle.partition_check.specs.MarkedAfter.{marked_after}
use Rattle.delegation.specs.declared.call.Fault.{Fault}
use Rattle.delegation.specs.declared.call.Fault.TheVariants.{Refused, OutOfMemory}
use Rattle.delegation.specs.Runtimes.{RuntimeView, IsAfter, AreFronts, HasDone}

-- the lists with one run more for a lane
abbrev pub with_run : ℕ → Run → List (List Run) → List (List Run)
with_run lane run [] = []
with_run zero run (runs ∷ lists) = (runs ++ run ∷ []) ∷ lists
with_run (suc lane) run (runs ∷ lists) = runs ∷ with_run lane run lists

-- the lists sent with a run more in the lane of its set, where there is a run
abbrev pub sent_with : ℕ → List (List Run) → Option Run → List (List Run)
sent_with n lists None = lists
sent_with n lists (Some run) = with_run (lane_of_set run.set.0 n) run lists

-- the lane of a set has done all that was sent to it
abbrev pub HasCaughtUp : {C R : Type 0} → RuntimeView C R → Option SetId → Type 0
HasCaughtUp runtime None = Unit {0}
HasCaughtUp runtime (Some set) =
    let lane = lane_of_set set.0 runtime.delegates in
    slice_get runtime.logs lane ≡ slice_get runtime.sent lane

-- why a call isn't done, where it isn't
abbrev pub fault_in : {T : Type 0} → Result T Fault → Option Fault
fault_in (Ok value) = None
fault_in (Err fault) = Some fault

-- a write or a get reclaims the object: it waits for the lane that it was delegated to
abbrev pub Reclaims :
    {C O R : Type 0} → RuntimeView C R → RuntimeView C R → Call C O → Type 0
Reclaims old new (Write object op) = HasCaughtUp new (set_delegated old.marks object.0)
Reclaims old new (Get object) = HasCaughtUp new (set_delegated old.marks object.0)
Reclaims old new _ = Unit {0}

-- a call whose reply is lent, and so copied where the call is made as a value
abbrev pub is_copied : {C O : Type 0} → Call C O → Bool
is_copied (Get object) = true
is_copied Total = true
is_copied _ = false

-- what a runtime says of a call that is made as a value, from what it says of the call by itself:
-- where just the reply's copy found no memory, that the call was done
abbrev pub MakesSaying :
    {C O : Type 0} → (Option Fault → Type 0) → Call C O → Option Fault → Type 0
MakesSaying says call (Some OutOfMemory) =
    says (Some OutOfMemory) ⊎ ((is_copied call ≡ true) × says None)
MakesSaying says call fault = says fault

module _ {C O R : Type 0} (m : Meaning C O R) where
  -- the run of a delegation that is accepted now
  abbrev pub run_now : RuntimeView C R → Call C O → Option Run
  run_now runtime (Delegate object op reading) = Some (record {
    call = call_no runtime.marks.calls;
    epoch = runtime.marks.epochs;
    set = set_id (set_marked (mark_at runtime.marks object.0) object.0 (m.own op));
    object = object;
  })
  run_now runtime _ = None

  -- the lists sent after an accepted call
  abbrev pub sent_after : RuntimeView C R → Call C O → List (List Run)
  sent_after runtime call = sent_with runtime.delegates runtime.sent (run_now runtime call)

  -- an accepted call
  pub record Accepts (old new : RuntimeView C R) (call : Call C O) : Type 0 where
    pub allowed : judged old.marks (shape_of m.own call) ≡ None
    pub delegates : new.delegates ≡ old.delegates
    pub state : new.state ≡ state_after m old.state call
    pub marks : new.marks ≡ marked_after old.marks (shape_of m.own call)
    pub sent : new.sent ≡ sent_after old call
    -- logs go on, and tell at least what has to be done by now
    pub logs : AreFronts old.logs new.logs
    pub done : HasDone new.sent new.logs new.marks.is_open
    pub reclaimed : Reclaims old new call
    pub was_usable : old.has_failed ≡ false
    pub usable : new.has_failed ≡ false

  -- a refused call
  pub record Refuses (old new : RuntimeView C R) (call : Call C O) (refusal : Refusal)
      : Type 0 where
    pub why : judged old.marks (shape_of m.own call) ≡ Some refusal
    pub unchanged : new ≡ old
    pub was_usable : old.has_failed ≡ false

  -- what an answer says; the reply is the program's own
  abbrev pub Answered :
      {T : Type 0} → (T → Reply C R) → RuntimeView C R → RuntimeView C R → Call C O
      → Result T Fault → Type 0
  Answered to_reply old new call (Ok value) =
      Accepts old new call × (Some (to_reply value) ≡ reply_of m old.state old.marks.calls call)
  Answered to_reply old new call (Err (Refused refusal)) = Refuses old new call refusal
  Answered to_reply old new call (Err OutOfMemory) = new.has_failed ≡ true

  -- what the answer of a call says that is made as a value: a want of memory may be that of the
  -- reply's copy alone, and then the call was accepted
  abbrev pub Makes :
      RuntimeView C R → RuntimeView C R → Call C O → Result (Reply C R) Fault → Type 0
  Makes old new call (Err OutOfMemory) =
      (new.has_failed ≡ true) ⊎ ((is_copied call ≡ true) × Accepts old new call)
  Makes old new call result = Answered (λ reply. reply) old new call result

  -- what a fault says of a list of calls that the runtime was after
  abbrev pub FailsList : RuntimeView C R → List (Call C O) → Call C O → Fault → Type 0
  FailsList new calls call (Refused refusal) =
      (breaks (shapes_of m calls) (shape_of m.own call) ≡ Some refusal) × IsAfter m new calls
  FailsList new calls call OutOfMemory = Unit {0}

  -- what an answer says of such a list
  abbrev pub AnswersList :
      {T : Type 0} → RuntimeView C R → List (Call C O) → Call C O → Result T Fault → Type 0
  AnswersList new calls call (Ok value) =
      (breaks (shapes_of m calls) (shape_of m.own call) ≡ None)
      × IsAfter m new (calls ++ call ∷ [])
  AnswersList new calls call (Err fault) = FailsList new calls call fault

  -- the same of every list that it was after
  abbrev pub AnswersEachList :
      {T : Type 0} → RuntimeView C R → RuntimeView C R → Call C O → Result T Fault → Type 0
  AnswersEachList old new call result =
      (calls : List (Call C O)) → IsAfter m old calls → AnswersList new calls call result
