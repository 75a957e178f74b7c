-- What does the use of an object in one epoch say of it, and what is it after one use more?
use Rattle.std.specs.Prelude.{Bool, true, false}
use Rattle.partition_check.specs.declared.usage.Usage.{Usage}
use Rattle.partition_check.specs.declared.usage.Usage.TheVariants.{Held, Freed, Read, FreedAndRead}

-- the object is held to the set of its last delegation
abbrev pub holds : Usage → Bool
holds Held = true
holds _ = false

-- operations were delegated to it
abbrev pub was_delegated_to : Usage → Bool
was_delegated_to Held = true
was_delegated_to Freed = true
was_delegated_to FreedAndRead = true
was_delegated_to _ = false

-- operations read it
abbrev pub was_read : Usage → Bool
was_read Read = true
was_read FreedAndRead = true
was_read _ = false

-- with a write or a get
abbrev pub usage_freed : Usage → Usage
usage_freed Held = Freed
usage_freed usage = usage

-- with an operation that reads the object, which isn't held
abbrev pub usage_read : Usage → Usage
usage_read Freed = FreedAndRead
usage_read FreedAndRead = FreedAndRead
usage_read _ = Read
