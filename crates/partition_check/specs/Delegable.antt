-- What does an accepted delegation find in the marks?
use Rattle.std.specs.Prelude.{◌≡◌, ℕ, ◌^◌, ◌<◌, ◌==◌, true, false, is_some, Option, Some, None, List, length, slice_get}
use Rattle.partition_check.specs.declared.mark.Mark.{Mark}
use Rattle.partition_check.specs.Marked.{Marked, mark_at, set_marked, held_in}
use Rattle.partition_check.specs.MarkedAfter.{HasMark}

-- an object may be read: it is read-only, or held to no set
abbrev pub IsFree : Mark → Type 0
IsFree mark = is_some mark.serializer ≡ true → held_in mark ≡ None

-- so may the object that is to be read, where there is one
abbrev pub IsReadFree : Option ℕ → List Mark → Type 0
IsReadFree None marks = Unit {0}
IsReadFree (Some read) marks = (mark : Mark) → slice_get marks read ≡ Some mark → IsFree mark

-- the object that is to be read, where there is one, is another than this one
abbrev pub IsReadOther : Option ℕ → ℕ → Type 0
IsReadOther None object = Unit {0}
IsReadOther (Some read) object = (read == object) ≡ false

-- no operation reads the object of this number
abbrev pub IsUnshared : Marked → ℕ → Type 0
IsUnshared marked object = (mark : Mark) → mark_at marked object ≡ Some mark → mark.shared ≡ false

-- a set is that of some operation on the object of this number
abbrev pub IsSetFor : Marked → ℕ → ℕ → Type 0
IsSetFor marked object set = (own : ℕ) × (set ≡ set_marked (mark_at marked object) object own)

-- what an accepted delegation to an object finds
pub record IsDelegable (marked : Marked) (object : ℕ) (reading : Option ℕ) : Type 0 where
  pub isolating : marked.is_open ≡ true
  -- the object has a mark, and no operation reads it
  pub known : object < length marked.objects
  pub unshared : IsUnshared marked object
  -- the object to be read has a mark, is another, and may be read
  pub read_known : HasMark reading marked.objects
  pub read_other : IsReadOther reading object
  pub read_free : IsReadFree reading marked.objects
  -- one call more can be counted
  pub room : marked.calls < 2 ^ 60
