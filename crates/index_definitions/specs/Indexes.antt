-- Which postings does an index say, and which records are indexes?
--
-- An index of documents has a form that can be told without them: terms rise, and its counts are
-- those of the postings that it says.
use Rattle.std.specs.Prelude.{◌≡◌, ℕ, ◌<◌, ◌≤◌, List, map, length}
use Rattle.std.specs.List.{All, flat_map}
use Rattle.std.specs.List.Sorted.{IsPermutation, IsStrictlySortedBy}
use Rattle.std.specs.Ordering.{nat_cmp}
use Rattle.std.specs.Cmp.Lexicographic.{slice_cmp}
use Rattle.index_definitions.specs.Terms.{longest_of}
use Rattle.index_definitions.specs.Postings.{Posting, postings}
use Rattle.index_definitions.specs.PostingLists.{ListsPostings, last_document, pairs_of}
use Rattle.index_definitions.specs.Index.{TermRecord, IndexRecord, index_of, index_without}

-- the posting of a term at a pair of document and position
abbrev pub posting_of_pair : List ℕ → ℕ × ℕ → Posting
posting_of_pair term pair = record { term = term; document = pair.0; position = pair.1 }

-- the postings that a term's record says
abbrev pub postings_said : TermRecord → List Posting
postings_said term = map (posting_of_pair term.text) (pairs_of term.postings)

-- all postings that an index says, term by term
abbrev pub postings_in : IndexRecord → List Posting
postings_in index = flat_map postings_said index.terms

-- the texts of terms
abbrev pub texts_of : List TermRecord → List (List ℕ)
texts_of terms = map (λ term. term.text) terms

-- a term of an index of so many documents
pub record IsTermRecord (documents : ℕ) (term : TermRecord) : Type 0 where
  pub lists : ListsPostings term.postings
  pub some : 0 < length term.postings
  pub within : last_document term.postings ≤ documents
  pub total_is : term.total ≡ length (pairs_of term.postings)

-- an index of documents
pub record IsIndex (index : IndexRecord) : Type 0 where
  pub rises : IsStrictlySortedBy (slice_cmp nat_cmp) (texts_of index.terms)
  pub each : All (IsTermRecord index.documents) index.terms
  pub words_are : index.words ≡ length (postings_in index)
  pub longest_is : index.longest ≡ longest_of (texts_of index.terms)

-- the index of documents is one
abbrev pub IndexIsWellFormed : Type 0
IndexIsWellFormed =
    (documents stopped : List (List ℕ)) → IsIndex (index_without documents stopped)

-- it says just the postings of the documents, each once
abbrev pub IndexSaysItsPostings : Type 0
IndexSaysItsPostings =
    (documents stopped : List (List ℕ))
    → IsPermutation (postings documents stopped) (postings_in (index_without documents stopped))

-- a record with this form is the index of the postings that it says
abbrev pub IndexIsThatOfItsPostings : Type 0
IndexIsThatOfItsPostings =
    (index : IndexRecord) → IsIndex index → index ≡ index_of index.documents (postings_in index)
