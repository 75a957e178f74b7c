-- What does the rule say at a place of a text, and which words are left there?
--
-- This is what code that walks over the bytes keeps.
use Rattle.std.specs.Prelude.{◌≡◌, ℕ, ◌+◌, ◌-◌, ◌≤◌, Bool, false, nat_le, List, filter, length}
use Rattle.std.specs.Prelude.{slice_index, if◌then◌else◌}
use Rattle.unicode_segmentation.specs.Segments.{segments_between, has_alphanumeric}
use Rattle.ascii_words.specs.AsciiWords.{is_joined, is_ascii_break}

-- the byte n places before the place i, and 0 before the text
abbrev pub byte_before : List ℕ → ℕ → ℕ → ℕ
byte_before text i n = if nat_le n i then slice_index text (i - n) else 0

-- the byte at i is in the same piece as the one before it
abbrev pub is_joined_at : List ℕ → ℕ → Bool
is_joined_at text i =
    is_joined (byte_before text i 2) (byte_before text i 1)
    (slice_index text i) (slice_index text (i + 1))

-- the words from the place on, at which a piece begins
unfoldable pub words_left : List ℕ → ℕ → List (List ℕ)
words_left text from =
    filter has_alphanumeric (segments_between is_ascii_break text from (length text))

-- no piece reaches over the place
pub record IsCutAt (text : List ℕ) (i : ℕ) : Type 0 where
  pub within : i ≤ length text
  pub apart : is_joined_at text i ≡ false
