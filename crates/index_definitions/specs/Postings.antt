-- Which postings does an index hold?
--
-- A posting says that a term stands in a document at a position. Documents and positions count from
-- 1. A word whose term is stopped takes its position and is not counted.
use Rattle.std.specs.Prelude.{ℕ, not, List, map, filter}
use Rattle.std.specs.List.{enumerate_from, flat_map}
use Rattle.std.specs.Str.{bytes_eq}
use Rattle.index_definitions.specs.Words.{Word, words_in}
use Rattle.index_definitions.specs.Terms.{has_term, rising_terms}

pub record Posting : Type 0 where
  pub term : List ℕ
  pub document : ℕ
  pub position : ℕ

-- the counted words of a document, where these terms are stopped
abbrev pub counted_words : List (List ℕ) → List ℕ → List Word
counted_words stopped document = filter (λ word. not (has_term stopped word.1)) (words_in document)

-- a word of the document with this number, as a posting
abbrev pub posting_at : ℕ → Word → Posting
posting_at document word = record { term = word.1; document = document; position = word.0 }

-- all postings of documents, each once, in reading order
abbrev pub postings : List (List ℕ) → List (List ℕ) → List Posting
postings documents stopped =
    flat_map (λ e. map (posting_at e.0) (counted_words stopped e.1)) (enumerate_from 1 documents)

-- those of one term
abbrev pub postings_of : List ℕ → List Posting → List Posting
postings_of term ps = filter (λ p. bytes_eq term p.term) ps

-- their terms, each once, in the order of their bytes
abbrev pub terms_of : List Posting → List (List ℕ)
terms_of ps = rising_terms (map (λ p. p.term) ps)
