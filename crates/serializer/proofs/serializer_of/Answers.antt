-- The serializer of the object that a call makes is the one that its maker asked for.
use Rattle.std.proofs.Common.{◌≡◌, ℕ, Some, List, [], ◌∷◌, ◌++◌, count_by, refl}
use Rattle.execution_definitions.specs.declared.serializer.By.{By}
use Rattle.execution_definitions.specs.declared.serializer.Serializer.{Serializer}
use Rattle.execution_definitions.specs.Shapes.{Shape, make, makes_by_sequence}
use Rattle.execution_definitions.specs.Sets.{serializer_by, serializer_in, object_count}
use Rattle.execution_definitions.proofs.shapes.SetsLemmas.{serializer_in-made}
use Rattle.serializer.proofs.serializer_of.Goals as goal

made_by : (by : By) (s : Serializer) (n : ℕ) → serializer_by by n ≡ s → (calls : List Shape) →
    count_by makes_by_sequence calls ≡ n →
    serializer_in (calls ++ make by ∷ []) (object_count calls) ≡ Some s
made_by by s n is calls count = rw (serializer_in-made calls (make by) refl, count, is) refl

pub returns-in-Object-clause-of_calls : goal.returns-in-Object-clause-of_calls
returns-in-Object-clause-of_calls c = made_by c.args.by _ _ (rw c.in-Object.is refl)

pub returns-in-Sequence-clause-of_calls : goal.returns-in-Sequence-clause-of_calls
returns-in-Sequence-clause-of_calls c = made_by c.args.by _ _ (rw c.in-Sequence.is refl)

pub returns-in-Own-clause-of_calls : goal.returns-in-Own-clause-of_calls
returns-in-Own-clause-of_calls c = made_by c.args.by _ _ (rw c.in-Own.is refl)
