-- What do contracts see of the words of a document by number?
--
-- A number is the place of a distinct term in their list. In which order terms are numbered is not
-- said.
use Rattle.std.specs.Prelude.{ℕ, List}
use Rattle.text_table.specs.TextTables.{AreDistinct}
use Rattle.index_definitions.specs.Words.{Word, word_terms}
use Rattle.index_definitions.specs.Terms.{HaveSameTerms}

-- the terms are those of the words, each once
pub record AreTermsOf (terms : List (List ℕ)) (words : List Word) : Type 0 where
  pub distinct : AreDistinct terms
  pub members : HaveSameTerms terms (word_terms words)

-- the distinct terms by their numbers, and the counted words
pub record Counted : Type 0 where
  pub terms : List (List ℕ)
  pub words : List Word
