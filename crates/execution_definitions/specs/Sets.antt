-- To which serialization set does a delegated operation go, and which lane runs a set?
--
-- The object's serializer maps the operation to its set (Allen, Sridharan and Sohi, PPoPP 2009).
-- Calls of one set run in one lane, in program order. Sets that share a lane are serialized too:
-- that costs time and changes no result.
use Rattle.std.specs.Prelude.{ℕ, zero, suc, ◌%◌, Option, Some, None, List, filter, length, take, count_by, slice_get}
use Rattle.execution_definitions.specs.declared.serializer.By.{By}
use Rattle.execution_definitions.specs.declared.serializer.By.TheVariants.{Object, Sequence, Own}
use Rattle.execution_definitions.specs.declared.serializer.Serializer.{Serializer}
use Rattle.execution_definitions.specs.declared.serializer.Serializer.TheVariants as serializer
use Rattle.execution_definitions.specs.Shapes.{Shape, make, makes_object, makes_by_sequence}

-- the serializer of an object made after so many objects by sequence
abbrev pub serializer_by : By → ℕ → Serializer
serializer_by Object sequence_objects = serializer.Object
serializer_by Sequence sequence_objects = serializer.Sequence sequence_objects
serializer_by Own sequence_objects = serializer.Own

-- the set of an operation on an object, where the operation names the number `own`
abbrev pub set_by : Serializer → ℕ → ℕ → ℕ
set_by serializer.Object object own = object
set_by (serializer.Sequence number) object own = number
set_by serializer.Own object own = own

-- the lane of a set among n delegates. With none there is one log, that of lane 0
abbrev pub lane_of_set : ℕ → ℕ → ℕ
lane_of_set set zero = 0
lane_of_set set (suc n) = set % suc n

-- the calls that made objects, by the objects' numbers
abbrev pub makers : List Shape → List Shape
makers calls = filter makes_object calls

-- how many objects were made
abbrev pub object_count : List Shape → ℕ
object_count calls = length (makers calls)

-- the serializer that a call gives the object that it makes: none to a read-only object
abbrev pub serializer_made : Option Shape → ℕ → Option Serializer
serializer_made (Some (make by)) sequence_objects = Some (serializer_by by sequence_objects)
serializer_made _ sequence_objects = None

-- an object's serializer. None for a read-only object and for a number that no object has
abbrev pub serializer_in : List Shape → ℕ → Option Serializer
serializer_in calls object =
    serializer_made (slice_get (makers calls) object)
    (count_by makes_by_sequence (take object (makers calls)))

-- the set under a serializer; where there is none, nothing is delegated, and the number is any
abbrev pub set_under : Option Serializer → ℕ → ℕ → ℕ
set_under None object own = object
set_under (Some s) object own = set_by s object own

-- the set to which a delegation to an object goes
abbrev pub set_of : List Shape → ℕ → ℕ → ℕ
set_of calls object own = set_under (serializer_in calls object) object own
