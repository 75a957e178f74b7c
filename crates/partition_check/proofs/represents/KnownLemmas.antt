-- Which numbers have a mark.
use Rattle.std.proofs.Common.{◌≡◌, ℕ, ◌<◌, ◌≤◌, Some, None, List, arith}
use Rattle.std.proofs.lemmas.Option.{slice_get_within}
use Rattle.execution_definitions.specs.Shapes.{Shape}
use Rattle.execution_definitions.specs.Sets.{object_count}
use Rattle.execution_definitions.proofs.lists.ListLemmas.{past_none}
use Rattle.partition_check.specs.declared.mark.Mark.{Mark}
use Rattle.partition_check.specs.Marked.{Marked, mark_at}
use Rattle.partition_check.specs.Represents.{Represents}

-- a number without a mark has no object
pub past_objects : (marked : Marked) (calls : List Shape) → Represents marked calls →
    (object : ℕ) → mark_at marked object ≡ None → object_count calls ≤ object
past_objects marked calls r object none =
    let past = past_none marked.objects object none in
    let same = r.objects in
    omega arith

-- a number with a mark is that of an object
pub within_objects : (marked : Marked) (calls : List Shape) → Represents marked calls →
    (object : ℕ) (mark : Mark) → mark_at marked object ≡ Some mark → object < object_count calls
within_objects marked calls r object mark some =
    let within = slice_get_within marked.objects object mark some in
    let same = r.objects in
    omega arith
