-- When does a look-up find the number of each text of a list, and no other?
use Rattle.std.specs.Prelude.{◌≡◌, ◌⊎◌, ℕ, ◌<◌, ◌^◌, List, length, Some, String}
use Rattle.std.specs.List.{slice_get}
use Rattle.std.specs.BTreeMap.{BTreeMap, get_by_text}
use Rattle.text_table.specs.Buckets.{bucket_of, Holds, IsFull}
use Rattle.text_table.specs.Tags.{tag_of}
use Rattle.text_table.specs.TextTables.{AreDistinct}
use Rattle.text_table.specs.declared.buckets.Slot.{Slot}

-- the number stands in the buckets under the text's tag, or else that bucket is full and the number
-- stands in the overflow under the text
abbrev pub IsFound : {A : Type 0} → List (List Slot) → BTreeMap (String A) ℕ → List ℕ → ℕ → Type 0
IsFound buckets overflow text number =
    Holds buckets (tag_of text) number
    ⊎ (IsFull (bucket_of buckets (tag_of text)) × (get_by_text overflow text ≡ Some number))

-- each text is found, and what the overflow has is the number of its text
pub record FindsTexts {A : Type 0} (texts : List (List ℕ)) (buckets : List (List Slot))
    (overflow : BTreeMap (String A) ℕ) : Type 0 where
  pub distinct : AreDistinct texts
  pub few : length texts < 2 ^ 32
  pub found : (text : List ℕ) (number : ℕ) → slice_get texts number ≡ Some text
      → IsFound buckets overflow text number
  pub overflow_sound : (text : List ℕ) (number : ℕ) → get_by_text overflow text ≡ Some number
      → slice_get texts number ≡ Some text
