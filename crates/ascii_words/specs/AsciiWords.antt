-- What are the words of an ASCII text?
--
-- The word boundaries of Unicode Standard Annex 29 come down to a rule that reads four bytes: the
-- two before a place and the two after it. Letters, digits and '_' hold together, and one byte may
-- bridge two letters, or two digits. Blanks, and a carriage return with its line feed, are cut apart
-- here: no word has one.
use Rattle.std.specs.Prelude.{ℕ, Bool, not, ◌&&◌, ◌||◌, ◌==◌, List, [], filter, slice_index}
use Rattle.std.specs.Char.{is_ascii_alphabetic, is_ascii_digit, is_ascii_alphanumeric}
use Rattle.std.specs.List.{list_any}
use Rattle.unicode_segmentation.specs.Segments.{Rule, cut}

-- a letter, a digit or '_': two of these in a row are never cut apart
abbrev pub is_run : ℕ → Bool
is_run c = is_ascii_alphanumeric c || (c == 0x5F)

-- ':', '.' and '''
abbrev pub bridges_letters : ℕ → Bool
bridges_letters c = (c == 0x3A) || ((c == 0x2E) || (c == 0x27))

-- ',', ';', '.' and '''
abbrev pub bridges_digits : ℕ → Bool
bridges_digits c = (c == 0x2C) || ((c == 0x3B) || ((c == 0x2E) || (c == 0x27)))

-- `mid` stands between two bytes of one word
abbrev pub is_bridge : ℕ → ℕ → ℕ → Bool
is_bridge before mid after =
    (is_ascii_alphabetic before && bridges_letters mid && is_ascii_alphabetic after)
    || (is_ascii_digit before && bridges_digits mid && is_ascii_digit after)

-- of four bytes in a row, the two in the middle are not cut apart
abbrev pub is_joined : ℕ → ℕ → ℕ → ℕ → Bool
is_joined far_left left right far_right =
    (is_run left && is_run right)
    || (is_bridge left right far_right || is_bridge far_left left right)

-- the rule at a place: the bytes before it, nearest first, and those after it. Past an end stands 0
abbrev pub is_ascii_break : Rule
is_ascii_break before after =
    not (is_joined (slice_index before 1) (slice_index before 0)
    (slice_index after 0) (slice_index after 1))

-- the pieces that the rule cuts, where they have a letter or a digit
abbrev pub ascii_words : List ℕ → List (List ℕ)
ascii_words text = filter (list_any is_ascii_alphanumeric) (cut is_ascii_break [] text [])
