-- What is an event of a machine answered?
use Rattle.std.specs.Prelude.{◌≡◌, true, false, Some, None, List}
use Rattle.ss_base.specs.declared.ids.Event.{Event}
use Rattle.execution_definitions.specs.declared.call.Call.{Call}
use Rattle.execution_definitions.specs.Meanings.{Meaning}
use Rattle.interleavings.specs.Machines.{MachineState, is_enabled, after_event, IsFinished}
use Rattle.schedule_core.specs.declared.step.Step.{Step}
use Rattle.schedule_core.specs.declared.step.Step.TheVariants.{Taken, NotEnabled, Refused, Finished}

module _ {C O R : Type 0} (m : Meaning C O R) (calls : List (Call C O)) where
  -- what the answer says of an event of this machine
  abbrev pub IsAnswered : MachineState C O R → Event → Step → Type 0
  IsAnswered machine e Taken =
      (is_enabled m calls machine e ≡ true)
      × ((after_event m calls machine e).stop ≡ machine.stop)
  IsAnswered machine e (Refused refusal) =
      (is_enabled m calls machine e ≡ true)
      × (machine.stop ≡ None) × ((after_event m calls machine e).stop ≡ Some refusal)
  IsAnswered machine e NotEnabled =
      (is_enabled m calls machine e ≡ false) × (IsFinished m calls machine → ⊥)
  IsAnswered machine e Finished = IsFinished m calls machine
