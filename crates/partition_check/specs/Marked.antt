-- What do contracts see of marks?
--
-- As much of the calls so far as the partition rule asks for: a few counts, and one mark an object.
use Rattle.std.specs.Prelude.{ℕ, Bool, Option, Some, None, List, slice_get, option_and_then, if◌then◌else◌}
use Rattle.std.specs.Option.{option_map}
use Rattle.ss_base.specs.declared.ids.SetId.{SetId}
use Rattle.execution_definitions.specs.declared.serializer.Serializer.{Serializer}
use Rattle.execution_definitions.specs.Sets.{set_under}
use Rattle.partition_check.specs.declared.mark.Mark.{Mark}

-- what is known of all calls, and of each object
pub record Marked : Type 0 where
  -- how many calls were accepted
  pub calls : ℕ
  -- how many epochs were begun
  pub epochs : ℕ
  -- an epoch is open
  pub is_open : Bool
  -- how many objects by sequence were made
  pub sequence_objects : ℕ
  -- the objects' marks, by their numbers
  pub objects : List Mark

-- the mark of a number; none where no object has it
abbrev pub mark_at : Marked → ℕ → Option Mark
mark_at marked object = slice_get marked.objects object

-- the serializer in a mark
abbrev pub serializer_at : Option Mark → Option Serializer
serializer_at None = None
serializer_at (Some mark) = mark.serializer

-- the set of a delegation to an object with this mark
abbrev pub set_marked : Option Mark → ℕ → ℕ → ℕ
set_marked mark object own = set_under (serializer_at mark) object own

-- the set that an object with this mark is held to, by its number
abbrev pub held_in : Mark → Option ℕ
held_in mark = if mark.is_held then (option_map (λ set. set.0) mark.set) else None

-- the set of an object's last delegation in the open epoch, if there was one
abbrev pub set_delegated : Marked → ℕ → Option SetId
set_delegated marked object = option_and_then (λ mark. mark.set) (mark_at marked object)
