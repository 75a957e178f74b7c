-- Does it matter in which order the program context and the delegates get to run?
--
-- It doesn't: whatever the schedule, the calls that were taken are answered as without delegates,
-- what waits drains to what they leave without delegates, and a machine that is at its end has just
-- that.
use Rattle.std.specs.Prelude.{◌≡◌, ℕ, ◌<◌, Some, None, List}
use Rattle.ss_base.specs.declared.ids.Event.{Event}
use Rattle.execution_definitions.specs.declared.call.Call.{Call}
use Rattle.execution_definitions.specs.Soundness.{IsSound, first_refusal}
use Rattle.execution_definitions.specs.Meanings.{Meaning, shapes_of}
use Rattle.execution_definitions.specs.Sequential.{sequential_state, sequential_replies}
use Rattle.execution_definitions.specs.Programs.{sound_front}
use Rattle.interleavings.specs.Machines.{MachineState, least_busy, drained, lane_event, Core, calls_taken, initial_machine, after_schedule, IsFinished, IsReplay}

module _ {C O R : Type 0} (m : Meaning C O R) where
  -- the calls taken so far: none breaks the partition rule, they are answered as without delegates,
  -- and with all that waits they leave what they leave without delegates
  pub record IsOnWay (calls : List (Call C O)) (machine : MachineState C O R) : Type 0 where
    pub sound : IsSound (shapes_of m (calls_taken m calls machine))
    pub replies : machine.replies ≡ sequential_replies m (calls_taken m calls machine)
    pub drains : drained m machine.core ≡ sequential_state m (calls_taken m calls machine)

  -- all calls before the first that is refused: their values, total and replies, and that refusal
  pub record IsAtEnd (calls : List (Call C O)) (machine : MachineState C O R) : Type 0 where
    pub state : machine.core.state ≡ sequential_state m (sound_front m calls)
    pub replies : machine.replies ≡ sequential_replies m (sound_front m calls)
    pub stop : machine.stop ≡ first_refusal (shapes_of m calls)

  -- what holds of a machine that is somewhere in a program
  pub record GivesTheSame (calls : List (Call C O)) (machine : MachineState C O R) : Type 0 where
    pub on_way : IsOnWay calls machine
    pub at_end : IsFinished m calls machine → IsAtEnd calls machine

  -- every schedule, for any number of lanes and any calls
  abbrev pub SchedulesGiveTheSame : Type 0
  SchedulesGiveTheSame =
      (n : ℕ) → 0 < n → (calls : List (Call C O)) (schedule : List Event) →
      GivesTheSame calls (after_schedule m calls (initial_machine m n) schedule)

  -- so a replay, which goes on by the rule behind its schedule, gives the same for every schedule
  abbrev pub ReplaysGiveTheSame : Type 0
  ReplaysGiveTheSame =
      (n : ℕ) → 0 < n → (calls : List (Call C O)) (schedule : List Event)
      (end_ : MachineState C O R) → IsReplay m calls n schedule end_ → IsAtEnd calls end_

  -- under a schedule there is one replay
  pub record IsOneReplay (calls : List (Call C O)) (n : ℕ) (schedule : List Event) : Type 0 where
    pub end_ : MachineState C O R
    pub is : IsReplay m calls n schedule end_
    pub no_other : (other : MachineState C O R) → IsReplay m calls n schedule other → other ≡ end_

  -- the rule always comes to an end, and to one
  abbrev pub ReplaysAreOne : Type 0
  ReplaysAreOne =
      (n : ℕ) (calls : List (Call C O)) (schedule : List Event) → IsOneReplay calls n schedule

  -- what waits is drained by events of lanes, that of the least lane first, until nothing waits
  pub record DrainsByEvents (core : Core C O R) : Type 0 where
    pub done : least_busy core.lanes ≡ None → drained m core ≡ core.state
    pub more :
        (lane : ℕ) → least_busy core.lanes ≡ Some lane →
        drained m (lane_event m core lane) ≡ drained m core

  -- whatever waits
  abbrev pub DrainIsByEvents : Type 0
  DrainIsByEvents = (core : Core C O R) → DrainsByEvents core
