-- How many objects are marked, and what a runtime that failed says of its calls.
use Rattle.std.proofs.Common.{◌≡◌, ℕ, true, Option, Some, length, ap, ◌∙◌}
use Rattle.class_laws.specs.declared.class.Class
use Rattle.class_laws.specs.declared.reducible.Reducible
use Rattle.execution_definitions.specs.declared.call.Call.{Call}
use Rattle.execution_definitions.specs.declared.call.Call.TheVariants.{Make, MakeFixed, Begin, Delegate, Write, Get, End, Total}
use Rattle.execution_definitions.specs.Shapes.{delegate}
use Rattle.partition_check.specs.Marked.{Marked}
use Rattle.partition_check.specs.MarkedAfter.{marked_after, marked_noted}
use Rattle.partition_check.proofs.marked.ChangedLemmas.{length-changed_at, length-changed_where}
use Rattle.delegation.specs.declared.call.Fault.TheVariants.{OutOfMemory}
use Rattle.delegation.specs.declared.plain.Plain.{Plain}
use Rattle.delegation.specs.Plains.{plain_moves}

-- a write, a get or a total
pub length-noted : (old new : Marked) (object : Option ℕ) → new ≡ marked_noted old object →
    length new.objects ≡ length old.objects
length-noted old new object is =
    ap (λ marks. length marks.objects) is ∙ length-changed_where _ object _

-- a delegation
pub length-delegated : (old new : Marked) (object own : ℕ) (reading : Option ℕ) →
    new ≡ marked_after old (delegate object own reading) →
    length new.objects ≡ length old.objects
length-delegated old new object own reading is =
    ap (λ marks. length marks.objects) is
    ∙ length-changed_where _ reading _ ∙ length-changed_at _ _ object

-- each call of a runtime that failed wants memory because an earlier one did
pub failed_moves :
    {C O R : Type 0} {c : Class.Ghosts C O R} {r : Reducible.Ghosts R} (plain : Plain C O R c r)
    (made : Call C O) → plain.has_failed ≡ true → plain_moves plain plain made (Some OutOfMemory)
failed_moves plain (Make value by) failed = tt
failed_moves plain (MakeFixed value) failed = tt
failed_moves plain Begin failed = λ is. failed
failed_moves plain (Delegate object op reading) failed = tt
failed_moves plain (Write object op) failed = tt
failed_moves plain (Get object) failed = λ is. failed
failed_moves plain End failed = λ is. failed
failed_moves plain Total failed = λ is. failed
