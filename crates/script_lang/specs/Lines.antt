-- What are the lines of a script, and the words of a line?
--
-- A line is ended by the byte 10; the last may lack it. Blanks are the bytes 32, 9 and 13.
use Rattle.std.specs.Prelude.{ℕ, Bool, true, false, ◌||◌, ◌==◌, nat_lt}
use Rattle.std.specs.Prelude.{List, [], ◌∷◌, length, filter}
use Rattle.std.specs.List.{slice_split}

-- the parts between line ends, without the last where it is empty
abbrev pub without_empty_end : List (List ℕ) → List (List ℕ)
without_empty_end [] = []
without_empty_end ([] ∷ []) = []
without_empty_end (line ∷ rest) = line ∷ without_empty_end rest

-- the byte ends a line
abbrev pub is_line_end : ℕ → Bool
is_line_end byte = byte == 10

-- the lines of a script
abbrev pub lines : List ℕ → List (List ℕ)
lines bytes = without_empty_end (slice_split is_line_end bytes)

-- the byte is a blank
abbrev pub is_blank : ℕ → Bool
is_blank byte = (byte == 32 || byte == 9) || byte == 13

-- there are bytes
abbrev pub is_some_word : List ℕ → Bool
is_some_word bytes = nat_lt 0 (length bytes)

-- the words of a line: its longest runs of bytes that aren't blanks
abbrev pub line_words : List ℕ → List (List ℕ)
line_words line = filter is_some_word (slice_split is_blank line)

-- the word begins with `#`
abbrev pub begins_comment : List ℕ → Bool
begins_comment [] = false
begins_comment (byte ∷ rest) = byte == 35

-- a line of these words is skipped: it has none, or is a comment
abbrev pub is_skipped : List (List ℕ) → Bool
is_skipped [] = true
is_skipped (first ∷ rest) = begins_comment first
