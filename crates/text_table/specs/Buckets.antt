-- Where does a number stand under its tag?
use Rattle.std.specs.Prelude.{◌≢◌, ◌⊎◌, ℕ, ◌-◌, List, [], length, bit_and, slice_index_or}
use Rattle.std.specs.List.{All, Contains}
use Rattle.text_table.specs.declared.buckets.Slot.{Slot}
use Rattle.text_table.specs.declared.buckets.TheConstants.{NO_NUMBER}

-- which of so many buckets a tag picks
abbrev pub place_of : ℕ → ℕ → ℕ
place_of count tag = bit_and tag (count - 1)

-- the bucket that a tag picks
abbrev pub bucket_of : List (List Slot) → ℕ → List Slot
bucket_of buckets tag = slice_index_or buckets (place_of (length buckets) tag) []

-- a number with its tag
abbrev pub slot_of : ℕ → ℕ → Slot
slot_of tag number = record { tag = tag; number = number }

-- a number stands there
abbrev pub IsTaken : Slot → Type 0
IsTaken slot = slot.number ≢ NO_NUMBER

-- the bucket has no free place
abbrev pub IsFull : List Slot → Type 0
IsFull bucket = All IsTaken bucket

-- what is taken in the old bucket stands in the new one
abbrev pub KeepsTaken : List Slot → List Slot → Type 0
KeepsTaken old new = (slot : Slot) → IsTaken slot → Contains old slot → Contains new slot

-- the number stands under the tag
abbrev pub Holds : List (List Slot) → ℕ → ℕ → Type 0
Holds buckets tag number = Contains (bucket_of buckets tag) (slot_of tag number)

-- if a number stands there, it stands under its tag in the buckets
abbrev pub IsHeldBy : List (List Slot) → Slot → Type 0
IsHeldBy buckets slot = IsTaken slot → Holds buckets slot.tag slot.number

-- each number that stands under a tag in the first stands under it in the second
abbrev pub AreHeldBy : List (List Slot) → List (List Slot) → Type 0
AreHeldBy first second =
    (tag number : ℕ) → number ≢ NO_NUMBER → Holds first tag number → Holds second tag number

-- if it is a number, it stands under the tag, unless the tag's bucket is full
abbrev pub IsHeldOrFull : List (List Slot) → ℕ → ℕ → Type 0
IsHeldOrFull buckets tag number =
    number ≢ NO_NUMBER → Holds buckets tag number ⊎ IsFull (bucket_of buckets tag)

-- each bucket that is full in the first is full in the second
abbrev pub StayFull : List (List Slot) → List (List Slot) → Type 0
StayFull first second =
    (tag : ℕ) → IsFull (bucket_of first tag) → IsFull (bucket_of second tag)
