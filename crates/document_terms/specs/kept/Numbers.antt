-- Which counted words do distinct terms and one number for each word stand for?
--
-- A stopped word has the number 0, and a counted word 1 more than the place of its term.
use Rattle.std.specs.Prelude.{◌≡◌, ℕ, ◌-◌, ◌*◌, ◌≤◌, nat_lt, List, [], map, filter, length}
use Rattle.std.specs.List.{enumerate_from, slice_index_or, All}
use Rattle.ss_base.specs.declared.limits.TheConstants.{DOCUMENT_BYTES}
use Rattle.index_definitions.specs.Words.{Word, word_terms}
use Rattle.index_definitions.specs.Terms.{longest_of}
use Rattle.document_terms.specs.Shards.{shard_of}
use Rattle.document_terms.specs.Counted.{Counted, AreTermsOf}
use Rattle.document_terms.specs.kept.Groups.{AreGrouped}

-- the most words of a document: a malformed byte is read as three, and a word has one at least
abbrev pub most_words : ℕ
most_words = 3 * DOCUMENT_BYTES

-- a word with the term of its number
abbrev pub word_at : List (List ℕ) → ℕ × ℕ → Word
word_at terms numbered = (numbered.0, slice_index_or terms (numbered.1 - 1) [])

-- the counted words
abbrev pub words_from : List (List ℕ) → List ℕ → List Word
words_from terms numbers =
    map (word_at terms) (filter (λ numbered. nat_lt 0 numbered.1) (enumerate_from 1 numbers))

-- the terms and the words of numbers
abbrev pub counted_from : List (List ℕ) → List ℕ → Counted
counted_from terms numbers = record { terms = terms; words = words_from terms numbers }

-- what a split document keeps fits together
pub record IsCounted (terms : List (List ℕ)) (numbers positions ends shards : List ℕ) (longest : ℕ)
    : Type 0 where
  pub terms_are : AreTermsOf terms (words_from terms numbers)
  pub within : All (λ number. number ≤ length terms) numbers
  pub grouped : AreGrouped (length terms) numbers positions ends
  pub shards_are : shards ≡ map shard_of terms
  pub longest_is : longest ≡ longest_of (word_terms (words_from terms numbers))
