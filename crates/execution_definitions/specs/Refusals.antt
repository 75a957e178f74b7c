-- Which calls does the partition rule refuse, and with which refusal?
--
-- In an epoch each writable object is held to one set, or shared among readers, or neither. The
-- refusals of a call are tried in the order of its row in `breaks`, and the first that holds is the
-- answer.
use Rattle.std.specs.Prelude.{ℕ, Bool, not, ◌==◌, nat_le, if◌then◌else◌, Option, Some, None, List, length}
use Rattle.ss_base.specs.Ids.{object_id, set_id}
use Rattle.ss_base.specs.declared.limits.TheConstants as limits
use Rattle.execution_definitions.specs.declared.refusal.Refusal.{Refusal}
use Rattle.execution_definitions.specs.declared.refusal.Refusal.TheVariants.{UnknownObject, NotIsolating, Isolating, ReadOnly, TwoSets, Shared, SelfRead, Private, TooManyObjects, TooManyCalls}
use Rattle.execution_definitions.specs.Shapes.{Shape, make, make_fixed, begin, delegate, write, get, end, total}
use Rattle.execution_definitions.specs.Sets.{object_count, set_of}
use Rattle.execution_definitions.specs.Epochs.{isolating}
use Rattle.execution_definitions.specs.Held.{is_fixed, held_set, is_read_shared}

-- the earlier of two refusals in a row
abbrev pub first_of : Option Refusal → Option Refusal → Option Refusal
first_of (Some refusal) later = Some refusal
first_of None later = later

-- a refusal where the test is true
abbrev pub refuse_if : Bool → Refusal → Option Refusal
refuse_if test refusal = if test then (Some refusal) else None

-- what a rule says of the object read, where there is one
abbrev pub if_reading : Option ℕ → (ℕ → Option Refusal) → Option Refusal
if_reading None rule = None
if_reading (Some read) rule = rule read

-- each refusal, where it holds after these calls

-- no object has the number
abbrev pub unknown_object : List Shape → ℕ → Option Refusal
unknown_object calls object =
    refuse_if (nat_le (object_count calls) object) (UnknownObject (object_id object))

-- no epoch of isolation is open
abbrev pub not_isolating : List Shape → Option Refusal
not_isolating calls = refuse_if (not (isolating calls)) NotIsolating

-- an epoch of isolation is open
abbrev pub in_isolation : List Shape → Option Refusal
in_isolation calls = refuse_if (isolating calls) Isolating

-- the object may only be read
abbrev pub read_only : List Shape → ℕ → Option Refusal
read_only calls object = refuse_if (is_fixed calls object) (ReadOnly (object_id object))

-- an object is held to a first set, and a call has another
abbrev pub two_sets_if : ℕ → Option ℕ → ℕ → Option Refusal
two_sets_if object None second = None
two_sets_if object (Some first) second =
    refuse_if (not (first == second)) (TwoSets (object_id object) (set_id first) (set_id second))

-- this epoch holds the object to another set than this
abbrev pub two_sets : List Shape → ℕ → ℕ → Option Refusal
two_sets calls object set = two_sets_if object (held_set calls object) set

-- this epoch shares the object among readers
abbrev pub read_shared : List Shape → ℕ → Option Refusal
read_shared calls object = refuse_if (is_read_shared calls object) (Shared (object_id object))

-- the object read is the object delegated to
abbrev pub self_read : ℕ → ℕ → Option Refusal
self_read object read = refuse_if (read == object) (SelfRead (object_id read))

-- an object to be read is held to a set
abbrev pub private_if : ℕ → Option ℕ → Option Refusal
private_if object None = None
private_if object (Some set) = Some (Private (object_id object) (set_id set))

-- this epoch holds a writable object to a set, so that no operation may read it
abbrev pub private_object : List Shape → ℕ → Option Refusal
private_object calls object =
    if is_fixed calls object then None else private_if object (held_set calls object)

-- the limit of objects is reached
abbrev pub too_many_objects : ℕ → Option Refusal
too_many_objects objects = refuse_if (nat_le limits.OBJECTS objects) TooManyObjects

-- the limit of calls is reached
abbrev pub too_many_calls : ℕ → Option Refusal
too_many_calls calls = refuse_if (nat_le limits.CALLS calls) TooManyCalls

-- the refusal of a call after these calls, or none
abbrev pub breaks : List Shape → Shape → Option Refusal
breaks calls (make by) =
    first_of (too_many_objects (object_count calls)) (too_many_calls (length calls))
breaks calls make_fixed =
    first_of (too_many_objects (object_count calls)) (too_many_calls (length calls))
breaks calls begin = first_of (in_isolation calls) (too_many_calls (length calls))
breaks calls (delegate object own reading) =
    first_of (unknown_object calls object)
    (first_of (if_reading reading (unknown_object calls))
    (first_of (not_isolating calls)
    (first_of (read_only calls object)
    (first_of (two_sets calls object (set_of calls object own))
    (first_of (read_shared calls object)
    (first_of (if_reading reading (self_read object))
    (first_of (if_reading reading (private_object calls))
    (too_many_calls (length calls)))))))))
breaks calls (write object) =
    first_of (unknown_object calls object)
    (first_of (read_only calls object)
    (first_of (read_shared calls object) (too_many_calls (length calls))))
breaks calls (get object) =
    first_of (unknown_object calls object) (too_many_calls (length calls))
breaks calls end = first_of (not_isolating calls) (too_many_calls (length calls))
breaks calls total = first_of (in_isolation calls) (too_many_calls (length calls))
