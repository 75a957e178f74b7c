-- Where does the cutting of a text begin anew, and what is cut where it is ASCII?
--
-- `words` are those of Unicode Standard Annex 29, as the kit's crate carries its rules.
use Rattle.std.specs.Prelude.{◌≡◌, ℕ, List, ◌∷◌, ◌++◌, IsAscii, IsUtf8}
use Rattle.std.specs.Str.Lossy.{utf8_lossy}
use Rattle.unicode_segmentation.specs.Word.{words}
use Rattle.ascii_words.specs.AsciiWords.{ascii_words}

-- the words of an ASCII text are those of the small rule
abbrev pub WordsOfAscii : Type 0
WordsOfAscii = (text : List ℕ) → IsAscii text → words text ≡ ascii_words text

-- no word reaches over the end of a line, and no line changes the words of the next
abbrev pub RestartAtLineEnd : Type 0
RestartAtLineEnd =
    (line rest : List ℕ) → IsUtf8 line → words (line ++ 0xA ∷ rest) ≡ words line ++ words rest

-- the same of any bytes, which are read as UTF-8 with U+FFFD for what is malformed
abbrev pub RestartInBytes : Type 0
RestartInBytes =
    (line rest : List ℕ)
    → words (utf8_lossy (line ++ 0xA ∷ rest)) ≡ words (utf8_lossy line) ++ words (utf8_lossy rest)
