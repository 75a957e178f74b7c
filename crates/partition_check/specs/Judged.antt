-- What do marks say of a call, without the list of calls?
--
-- The rows are those of `breaks`: the refusals of a call are tried in this order, and the first
-- that holds is the answer.
use Rattle.std.specs.Prelude.{ℕ, not, if◌then◌else◌, is_none, Option, Some, None, length}
use Rattle.ss_base.specs.Ids.{object_id}
use Rattle.execution_definitions.specs.declared.refusal.Refusal.{Refusal}
use Rattle.execution_definitions.specs.declared.refusal.Refusal.TheVariants.{UnknownObject, NotIsolating, Isolating, ReadOnly, Shared}
use Rattle.execution_definitions.specs.Shapes.{Shape, make, make_fixed, begin, delegate, write, get, end, total}
use Rattle.execution_definitions.specs.Refusals.{first_of, refuse_if, if_reading, two_sets_if, self_read, private_if, too_many_objects, too_many_calls}
use Rattle.partition_check.specs.declared.mark.Mark.{Mark}
use Rattle.partition_check.specs.Marked.{Marked, mark_at, set_marked, held_in}

-- the number has no mark
abbrev pub unknown_if : ℕ → Option Mark → Option Refusal
unknown_if object None = Some (UnknownObject (object_id object))
unknown_if object (Some mark) = None

-- the number of an object to be read has no mark
abbrev pub unknown_read : Marked → ℕ → Option Refusal
unknown_read marked object = unknown_if object (mark_at marked object)

-- the object may only be read
abbrev pub read_only_if : ℕ → Mark → Option Refusal
read_only_if object mark = refuse_if (is_none mark.serializer) (ReadOnly (object_id object))

-- the object is read-shared
abbrev pub shared_if : ℕ → Mark → Option Refusal
shared_if object mark = refuse_if mark.shared (Shared (object_id object))

-- the object is writable and held to a set
abbrev pub private_in : ℕ → Option Mark → Option Refusal
private_in object None = None
private_in object (Some mark) =
    if is_none mark.serializer then None else private_if object (held_in mark)

-- the object to be read is so
abbrev pub private_read : Marked → ℕ → Option Refusal
private_read marked object = private_in object (mark_at marked object)

-- the row of the calls that make objects
abbrev pub judged_make : Marked → Option Refusal
judged_make marked =
    first_of (too_many_objects (length marked.objects)) (too_many_calls marked.calls)

-- the row of a delegation, by the mark of its object
abbrev pub judged_delegate : Marked → ℕ → ℕ → Option ℕ → Option Mark → Option Refusal
judged_delegate marked object own reading None = Some (UnknownObject (object_id object))
judged_delegate marked object own reading (Some mark) =
    first_of (if_reading reading (unknown_read marked))
    (first_of (refuse_if (not marked.is_open) NotIsolating)
    (first_of (read_only_if object mark)
    (first_of (two_sets_if object (held_in mark) (set_marked (Some mark) object own))
    (first_of (shared_if object mark)
    (first_of (if_reading reading (self_read object))
    (first_of (if_reading reading (private_read marked)) (too_many_calls marked.calls)))))))

-- the row of a write, by the mark of its object
abbrev pub judged_write : Marked → ℕ → Option Mark → Option Refusal
judged_write marked object None = Some (UnknownObject (object_id object))
judged_write marked object (Some mark) =
    first_of (read_only_if object mark)
    (first_of (shared_if object mark) (too_many_calls marked.calls))

-- the refusal of a call by these marks, or none
abbrev pub judged : Marked → Shape → Option Refusal
judged marked (make by) = judged_make marked
judged marked make_fixed = judged_make marked
judged marked begin = first_of (refuse_if marked.is_open Isolating) (too_many_calls marked.calls)
judged marked (delegate object own reading) =
    judged_delegate marked object own reading (mark_at marked object)
judged marked (write object) = judged_write marked object (mark_at marked object)
judged marked (get object) =
    first_of (unknown_if object (mark_at marked object)) (too_many_calls marked.calls)
judged marked end =
    first_of (refuse_if (not marked.is_open) NotIsolating) (too_many_calls marked.calls)
judged marked total = first_of (refuse_if marked.is_open Isolating) (too_many_calls marked.calls)
