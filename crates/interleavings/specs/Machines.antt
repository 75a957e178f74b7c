-- What does a machine of lanes make of a program, event by event?
--
-- The program context takes its calls one after the other. A delegation goes to the end of its
-- lane, with the value that it reads, and takes effect when the lane's delegate takes it from the
-- front. An interleaving of the program context and the delegates is a list of such events.
--
-- The core is the part that runs: values, total and lanes. What a call does there depends on the
-- calls before it alone, so that whoever keeps lanes in another form can speak of the same events.
use Rattle.std.specs.Prelude.{◌≡◌, ℕ, zero, suc, ◌+◌, Bool, true, false, if◌then◌else◌, is_some, Option, Some, None, List, [], ◌∷◌, ◌++◌, length, map, fold, take, slice_get, option_and_then}
use Rattle.std.specs.List.{list_all, range_with_len}
use Rattle.std.specs.Option.{option_map}
use Rattle.ss_base.specs.declared.ids.Event.{Event}
use Rattle.ss_base.specs.declared.ids.Event.TheVariants as event
use Rattle.ss_base.specs.declared.ids.Run.{Run}
use Rattle.execution_definitions.specs.declared.call.Call.{Call}
use Rattle.execution_definitions.specs.declared.call.Call.TheVariants.{Delegate, Write, Get, End}
use Rattle.execution_definitions.specs.declared.call.Reply.{Reply}
use Rattle.execution_definitions.specs.declared.refusal.Refusal.{Refusal}
use Rattle.execution_definitions.specs.Sets.{lane_of_set}
use Rattle.execution_definitions.specs.Held.{last_set}
use Rattle.execution_definitions.specs.Refusals.{breaks}
use Rattle.execution_definitions.specs.Runs.{run_of}
use Rattle.execution_definitions.specs.Meanings.{Meaning, shape_of, shapes_of}
use Rattle.execution_definitions.specs.Sequential.{State, initial_state, value_read, operated, state_after, reply_of}

-- a delegated operation that waits, with the value that it reads
pub record Entry (C O : Type 0) : Type 0 where
  pub run : Run
  pub op : O
  pub read : Option C

-- values and total, and what waits in each lane, front first
pub record Core (C O R : Type 0) : Type 0 where
  pub state : State C R
  pub lanes : List (List (Entry C O))

-- the whole machine
pub record MachineState (C O R : Type 0) : Type 0 where
  -- the place of the next call
  pub next : ℕ
  pub core : Core C O R
  -- what the calls so far were answered
  pub replies : List (Option (Reply C R))
  -- why the next call was refused, if it was
  pub stop : Option Refusal
  -- the places of the calls that took effect, in that order
  pub order : List ℕ

module _ {A : Type 0} where
  -- nothing is there
  abbrev pub is_empty : List A → Bool
  is_empty [] = true
  is_empty (entry ∷ rest) = false

  -- what is at the front
  abbrev pub front_of : List A → Option A
  front_of [] = None
  front_of (entry ∷ rest) = Some entry

  -- what is behind the front
  abbrev pub behind_front : List A → List A
  behind_front [] = []
  behind_front (entry ∷ rest) = rest

  -- nothing waits in a lane, where there is one
  abbrev pub is_idle : Option (List A) → Bool
  is_idle None = true
  is_idle (Some entries) = is_empty entries

  -- the lanes with an entry more at the end of one of them
  abbrev pub with_entry : ℕ → A → List (List A) → List (List A)
  with_entry lane entry [] = []
  with_entry zero entry (entries ∷ lanes) = (entries ++ entry ∷ []) ∷ lanes
  with_entry (suc lane) entry (entries ∷ lanes) = entries ∷ with_entry lane entry lanes

  -- the lanes without the front of one of them
  abbrev pub without_front : ℕ → List (List A) → List (List A)
  without_front lane [] = []
  without_front zero (entries ∷ lanes) = behind_front entries ∷ lanes
  without_front (suc lane) (entries ∷ lanes) = entries ∷ without_front lane lanes

  -- the least lane in which something waits
  abbrev pub least_busy : List (List A) → Option ℕ
  least_busy [] = None
  least_busy ([] ∷ lanes) = option_map (λ lane. lane + 1) (least_busy lanes)
  least_busy ((entry ∷ rest) ∷ lanes) = Some 0

  -- the entry at the front of a lane
  abbrev pub front_at : List (List A) → ℕ → Option A
  front_at lanes lane = option_and_then front_of (slice_get lanes lane)

module _ {C O R : Type 0} where
  -- nothing waits in the lane of a set, where there is a set
  abbrev pub is_idle_for : Core C O R → Option ℕ → Bool
  is_idle_for core None = true
  is_idle_for core (Some set) =
      is_idle (slice_get core.lanes (lane_of_set set (length core.lanes)))

  -- an operation waits at the end of the lane of its run
  abbrev pub entered : Core C O R → O → Option C → Option Run → Core C O R
  entered core op read None = core
  entered core op read (Some run) =
      let lane = lane_of_set run.set.0 (length core.lanes) in
      record core {
        lanes = with_entry lane (record { run = run; op = op; read = read }) core.lanes;
      }

module _ {C O R : Type 0} (m : Meaning C O R) where
  -- an entry takes effect on the value that its object has now
  abbrev pub entry_done : State C R → Entry C O → State C R
  entry_done state entry = operated m state entry.run.object.0 entry.op entry.read

  -- entries take effect one after the other
  abbrev pub entries_done : State C R → List (Entry C O) → State C R
  entries_done state entries = fold entry_done state entries

  -- all that waits takes effect, the least lane first
  abbrev pub drained : Core C O R → State C R
  drained core = fold entries_done core.state core.lanes

  -- an entry of a lane takes effect, where there is one
  abbrev pub taken : Core C O R → ℕ → Option (Entry C O) → Core C O R
  taken core lane None = core
  taken core lane (Some entry) =
      record { state = entry_done core.state entry; lanes = without_front lane core.lanes }

  -- the event of a lane: what is at its front takes effect
  abbrev pub lane_event : Core C O R → ℕ → Core C O R
  lane_event core lane = taken core lane (front_at core.lanes lane)

  -- after these calls, the program context may take this one: an end finds nothing waiting, and a
  -- write or a get nothing in the lane of the object's last delegation in this epoch
  abbrev pub may_take : List (Call C O) → Core C O R → Call C O → Bool
  may_take before core (Write object op) =
      is_idle_for core (last_set (shapes_of m before) object.0)
  may_take before core (Get object) = is_idle_for core (last_set (shapes_of m before) object.0)
  may_take before core End = list_all is_empty core.lanes
  may_take before core _ = true

  -- the program event of an accepted call after these: a delegation waits, with the value that it
  -- reads as it stands; every other call takes effect
  abbrev pub call_event : List (Call C O) → Core C O R → Call C O → Core C O R
  call_event before core (Delegate object op reading) =
      entered core op (value_read core.state.values reading)
      (run_of (shapes_of m before) (shape_of {C = C} m.own (Delegate object op reading)))
  call_event before core call = record core { state = state_after m core.state call }

  -- the places that take effect at the program event of a call at this place: a delegation doesn't
  abbrev pub effect_of : ℕ → Call C O → List ℕ
  effect_of place (Delegate object op reading) = []
  effect_of place call = place ∷ []

  -- n lanes before the first call
  abbrev pub initial_machine : ℕ → MachineState C O R
  initial_machine n = record {
    next = 0;
    core = record { state = initial_state m; lanes = map (λ lane. []) (range_with_len 0 n) };
    replies = [];
    stop = None;
    order = [];
  }

  -- a call takes its program event after these calls: it is refused, and nothing else changes, or
  -- it is accepted
  abbrev pub judged_event :
      List (Call C O) → MachineState C O R → Call C O → Option Refusal → MachineState C O R
  judged_event before machine call (Some refusal) = record machine { stop = Some refusal }
  judged_event before machine call None = record {
    next = machine.next + 1;
    core = call_event before machine.core call;
    replies = machine.replies ++ reply_of m machine.core.state machine.next call ∷ [];
    stop = None;
    order = machine.order ++ effect_of machine.next call;
  }

  -- an entry of a lane takes its event, where there is one
  abbrev pub taken_event :
      MachineState C O R → ℕ → Option (Entry C O) → MachineState C O R
  taken_event machine lane None = machine
  taken_event machine lane (Some entry) = record machine {
    core = taken machine.core lane (Some entry);
    order = machine.order ++ entry.run.call.0 ∷ [];
  }

  module _ (calls : List (Call C O)) where
    -- the calls that were accepted
    abbrev pub calls_taken : MachineState C O R → List (Call C O)
    calls_taken machine = take machine.next calls

    -- the next call, unless one was refused
    abbrev pub next_call : MachineState C O R → Option Refusal → Option (Call C O)
    next_call machine (Some refusal) = None
    next_call machine None = slice_get calls machine.next

    -- there is a call, and the program context may take it
    abbrev pub may_take_some : MachineState C O R → Option (Call C O) → Bool
    may_take_some machine None = false
    may_take_some machine (Some call) = may_take (calls_taken machine) machine.core call

    -- the event is enabled: a call can be taken, or something waits in the lane
    abbrev pub is_enabled : MachineState C O R → Event → Bool
    is_enabled machine event.Program = may_take_some machine (next_call machine machine.stop)
    is_enabled machine (event.Delegate lane) = is_some (front_at machine.core.lanes lane.0)

    -- the program event of the next call, where there is one
    abbrev pub program_event : MachineState C O R → Option (Call C O) → MachineState C O R
    program_event machine None = machine
    program_event machine (Some call) =
        judged_event (calls_taken machine) machine call
        (breaks (shapes_of m (calls_taken machine)) (shape_of m.own call))

    -- what an enabled event leaves
    abbrev pub event_taken : MachineState C O R → Event → MachineState C O R
    event_taken machine event.Program =
        program_event machine (next_call machine machine.stop)
    event_taken machine (event.Delegate lane) =
        taken_event machine lane.0 (front_at machine.core.lanes lane.0)

    -- what an event leaves; one that isn't enabled changes nothing
    abbrev pub after_event : MachineState C O R → Event → MachineState C O R
    after_event machine e = if is_enabled machine e then event_taken machine e else machine

    -- what a schedule leaves of a machine
    abbrev pub after_schedule : MachineState C O R → List Event → MachineState C O R
    after_schedule machine schedule = fold after_event machine schedule

    -- no event is enabled
    abbrev pub IsFinished : MachineState C O R → Type 0
    IsFinished machine = (e : Event) → is_enabled machine e ≡ false

    -- the event that comes next where no schedule says so: the program's if it is enabled, else that
    -- of the least lane in which something waits
    abbrev pub event_by_rule : MachineState C O R → Option Event
    event_by_rule machine =
        if is_enabled machine event.Program then Some event.Program
        else option_map (λ lane. event.Delegate (record { 0 = lane }))
        (least_busy machine.core.lanes)

    -- these are the events by that rule, up to the end
    abbrev pub FollowsRule : MachineState C O R → List Event → Type 0
    FollowsRule machine [] = event_by_rule machine ≡ None
    FollowsRule machine (e ∷ rest) =
        (event_by_rule machine ≡ Some e) × FollowsRule (after_event machine e) rest

    -- what n lanes come to under a schedule, and then by the rule
    pub record IsReplay (n : ℕ) (schedule : List Event) (end_ : MachineState C O R)
        : Type 0 where
      pub by_rule : List Event
      pub follows : FollowsRule (after_schedule (initial_machine n) schedule) by_rule
      pub is : end_ ≡ after_schedule (initial_machine n) (schedule ++ by_rule)
