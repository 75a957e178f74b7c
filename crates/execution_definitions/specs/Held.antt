-- To what does an epoch hold an object?
--
-- A delegation holds its object to a set, until the program context writes or gets the object. A
-- delegation that reads a writable object shares it among readers, to the end of the epoch.
use Rattle.std.specs.Prelude.{ℕ, Bool, false, ◌&&◌, not, ◌==◌, if◌then◌else◌, Option, Some, None, List, fold, is_none}
use Rattle.std.specs.List.{list_any}
use Rattle.execution_definitions.specs.declared.serializer.Serializer.{Serializer}
use Rattle.execution_definitions.specs.Shapes.{Shape, delegate, write, get, reads}
use Rattle.execution_definitions.specs.Sets.{serializer_in, set_under}
use Rattle.execution_definitions.specs.Epochs.{since, this_epoch}

-- the object is read-only: it was made without a serializer
abbrev pub is_fixed : List Shape → ℕ → Bool
is_fixed calls object = is_none (serializer_in calls object)

-- a write or a get of the object
abbrev pub frees : ℕ → Shape → Bool
frees object (write o) = o == object
frees object (get o) = o == object
frees object _ = false

-- the set of a call that delegates to the object, and else the earlier set
abbrev pub later_set : Option Serializer → ℕ → Option ℕ → Shape → Option ℕ
later_set serializer object earlier (delegate o own reading) =
    if o == object then (Some (set_under serializer object own)) else earlier
later_set serializer object earlier _ = earlier

-- the set of the last of some calls that delegates to the object, by the object's serializer
abbrev pub last_set_among : Option Serializer → ℕ → List Shape → Option ℕ
last_set_among serializer object among = fold (later_set serializer object) None among

-- the set of the object's last delegation in this epoch
abbrev pub last_set : List Shape → ℕ → Option ℕ
last_set calls object = last_set_among (serializer_in calls object) object (this_epoch calls)

-- the set that the object is held to: that of its last delegation in this epoch, where no write or
-- get of it stands after that
abbrev pub held_set : List Shape → ℕ → Option ℕ
held_set calls object =
    last_set_among (serializer_in calls object) object (since (frees object) (this_epoch calls))

-- the object is writable, and some delegation of this epoch reads it
abbrev pub is_read_shared : List Shape → ℕ → Bool
is_read_shared calls object =
    not (is_fixed calls object) && list_any (reads object) (this_epoch calls)
