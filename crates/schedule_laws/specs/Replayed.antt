-- What is the end of a replay, as a value?
--
-- The rule has two events for each call at most, one for each entry that waits, and one for a call
-- that is refused. So many steps by it come to the end.
use Rattle.std.specs.Prelude.{◌≡◌, ℕ, zero, suc, ◌+◌, ◌*◌, List, [], ◌∷◌, length}
use Rattle.std.specs.Option.{option_map_or}
use Rattle.ss_base.specs.declared.ids.Event.{Event}
use Rattle.execution_definitions.specs.declared.call.Call.{Call}
use Rattle.execution_definitions.specs.Meanings.{Meaning}
use Rattle.interleavings.specs.Machines.{MachineState, initial_machine, after_event, after_schedule}
use Rattle.interleavings.specs.Machines.{event_by_rule, IsReplay}

-- how much waits
abbrev pub waiting : {A : Type 0} → List (List A) → ℕ
waiting [] = 0
waiting (entries ∷ lanes) = length entries + waiting lanes

module _ {C O R : Type 0} (m : Meaning C O R) where
  module _ (calls : List (Call C O)) where
    -- a machine after so many events by the rule, or at its end
    unfoldable pub gone_on : ℕ → MachineState C O R → MachineState C O R
    gone_on zero machine = machine
    gone_on (suc count) machine =
        option_map_or (λ e. gone_on count (after_event m calls machine e))
        (event_by_rule m calls machine) machine

    -- as many events by the rule as there can be
    abbrev pub ended : MachineState C O R → MachineState C O R
    ended machine = gone_on (2 * length calls + waiting machine.core.lanes + 1) machine

    -- what n lanes come to under a schedule, and then by the rule
    abbrev pub replayed : ℕ → List Event → MachineState C O R
    replayed n schedule = ended (after_schedule m calls (initial_machine m n) schedule)

  -- the end of every replay is that
  abbrev pub ReplaysAreComputed : Type 0
  ReplaysAreComputed =
      (n : ℕ) (calls : List (Call C O)) (schedule : List Event) (end_ : MachineState C O R)
      → IsReplay m calls n schedule end_ → end_ ≡ replayed calls n schedule
