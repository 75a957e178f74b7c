-- What is kept by the undelegated runtime, and what an operation on it needs?
use Rattle.std.specs.Prelude.{◌≡◌, ℕ, ◌<◌, Bool, false, Option, Some, None, Result, Err, List, length}
use Rattle.ss_base.specs.declared.ids.ObjectId.{ObjectId}
use Rattle.ss_base.specs.declared.ids.Run.{Run}
use Rattle.execution_definitions.specs.Sequential.{State}
use Rattle.partition_check.specs.Marked.{Marked}
use Rattle.partition_check.specs.declared.fault.MarkFault.{MarkFault}
use Rattle.partition_check.specs.declared.fault.MarkFault.TheVariants.{Refused}

-- values with a total
abbrev pub state_of : {C R : Type 0} → List C → R → State C R
state_of values total = record { values = values; total = total }

-- an object's operation may read this one: it is another, and there is one
abbrev pub IsReadable : ℕ → ℕ → Option ObjectId → Type 0
IsReadable count object None = Unit {0}
IsReadable count object (Some read) = (read.0 < count) × (read.0 ≡ object → ⊥)

-- a refusal changed neither marks nor values
abbrev pub IsUnchanged :
    {T C : Type 0} → Result T MarkFault → Marked → Marked → List C → List C → Type 0
IsUnchanged (Err (Refused refusal)) marks new_marks values new_values =
    (new_marks ≡ marks) × (new_values ≡ values)
IsUnchanged _ marks new_marks values new_values = Unit {0}

-- what holds between calls, as long as memory was found
pub record IsConsistent {C : Type 0} (values : List C) (marks : Marked) (logs : List (List Run))
    (has_failed : Bool) : Type 0 where
  pub marked : has_failed ≡ false → length values ≡ length marks.objects
  pub one_log : length logs ≡ 1
