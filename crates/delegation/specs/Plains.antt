-- What do contracts see of the undelegated runtime, and what does it say of its own calls?
use Rattle.std.specs.Prelude.{◌≡◌, true, Option, Some}
use Rattle.class_laws.specs.declared.class.Class
use Rattle.class_laws.specs.declared.reducible.Reducible
use Rattle.execution_definitions.specs.declared.call.Call.{Call}
use Rattle.execution_definitions.specs.declared.call.Call.TheVariants.{Begin, Get, End, Total}
use Rattle.delegation.specs.declared.call.Fault.{Fault}
use Rattle.delegation.specs.declared.call.Fault.TheVariants.{OutOfMemory}
use Rattle.delegation.specs.declared.plain.Plain.{Plain}
use Rattle.delegation.specs.Runtimes.{RuntimeView}
use Rattle.delegation.specs.PlainParts.{state_of}

module _ {C O R : Type 0} {c : Class.Ghosts C O R} {r : Reducible.Ghosts R} where
  -- operations run at their calls, so what was sent is what is logged
  abbrev pub plain_view : Plain C O R c r → RuntimeView C R
  plain_view plain = record {
    delegates = 0;
    state = state_of plain.values.items plain.total;
    marks = plain.marks;
    sent = plain.logs.items;
    logs = plain.logs.items;
    has_failed = plain.has_failed;
  }

  -- memory was wanted, but by an earlier call
  abbrev pub FailedBefore : Plain C O R c r → Option Fault → Type 0
  FailedBefore plain fault = fault ≡ Some OutOfMemory → plain.has_failed ≡ true

  -- calls that only look, and those that begin and end an epoch, take no memory
  abbrev pub plain_moves :
      Plain C O R c r → Plain C O R c r → Call C O → Option Fault → Type 0
  plain_moves old new Begin fault = FailedBefore old fault
  plain_moves old new (Get object) fault = FailedBefore old fault
  plain_moves old new End fault = FailedBefore old fault
  plain_moves old new Total fault = FailedBefore old fault
  plain_moves old new _ fault = Unit {0}
