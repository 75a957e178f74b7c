-- What are the words of a document?
--
-- Its bytes are read as UTF-8, with U+FFFD for what is malformed. The text is cut at the word
-- boundaries of Unicode Standard Annex 29, and each word is folded by the default full case folding
-- (Unicode Standard, section 3.13), by the tables that the crates of the kit carry.
use Rattle.std.specs.Prelude.{ℕ, List, map, filter, chars, encode_utf8_all}
use Rattle.std.specs.List.{enumerate_from}
use Rattle.std.specs.Str.{bytes_eq}
use Rattle.std.specs.Str.Lossy.{utf8_lossy}
use Rattle.unicode_segmentation.specs.Word.{words}
use Rattle.caseless.specs.Caseless.{default_case_fold}

-- the term of a word, both as bytes
abbrev pub term_of : List ℕ → List ℕ
term_of word = encode_utf8_all (default_case_fold (chars word))

-- the terms of the words of a text, in order
abbrev pub terms_of_text : List ℕ → List (List ℕ)
terms_of_text text = map term_of (words text)

-- those of the text that bytes are read as
abbrev pub terms_in : List ℕ → List (List ℕ)
terms_in bytes = terms_of_text (utf8_lossy bytes)

-- a word: its position and its term
abbrev pub Word : Type 0
Word = ℕ × List ℕ

-- the words of a document, whose positions count from 1
abbrev pub words_in : List ℕ → List Word
words_in document = enumerate_from 1 (terms_in document)

-- the terms of words, one for each
abbrev pub word_terms : List Word → List (List ℕ)
word_terms words = map (λ word. word.1) words

-- the positions of a term among words
abbrev pub positions_of : List ℕ → List Word → List ℕ
positions_of term words = map (λ word. word.0) (filter (λ word. bytes_eq term word.1) words)
