-- What is the index of documents?
use Rattle.std.specs.Prelude.{ℕ, ◌==◌, nat_lt, List, map, filter, length}
use Rattle.std.specs.List.{range_with_len}
use Rattle.index_definitions.specs.Words.{terms_in}
use Rattle.index_definitions.specs.Terms.{longest_of}
use Rattle.index_definitions.specs.Postings.{Posting, postings, postings_of, terms_of}
use Rattle.index_definitions.specs.PostingLists.{PostingList}

-- a term, how often it is counted, and its documents
pub record TermRecord : Type 0 where
  pub text : List ℕ
  pub total : ℕ
  pub postings : PostingList

-- the numbers of documents and of counted words, the most characters of a term, and the terms
pub record IndexRecord : Type 0 where
  pub documents : ℕ
  pub words : ℕ
  pub longest : ℕ
  pub terms : List TermRecord

-- the positions in one document
abbrev pub positions_in : List Posting → ℕ → List ℕ
positions_in ps document = map (λ p. p.position) (filter (λ p. p.document == document) ps)

-- of the first n documents those that have some, each with its positions
abbrev pub by_document : ℕ → List Posting → PostingList
by_document n ps =
    filter (λ e. nat_lt 0 (length e.1)) (map (λ d. (d, positions_in ps d)) (range_with_len 1 n))

-- what the postings of n documents say of a term
abbrev pub term_record : ℕ → List Posting → List ℕ → TermRecord
term_record n ps term = record {
  text = term;
  total = length (postings_of term ps);
  postings = by_document n (postings_of term ps);
}

-- what the postings of n documents come to
abbrev pub index_of : ℕ → List Posting → IndexRecord
index_of n ps = record {
  documents = n;
  words = length ps;
  longest = longest_of (map (λ p. p.term) ps);
  terms = map (term_record n ps) (terms_of ps);
}

-- the index of documents, where these terms are stopped
abbrev pub index_without : List (List ℕ) → List (List ℕ) → IndexRecord
index_without documents stopped = index_of (length documents) (postings documents stopped)

-- the index of documents under a stop list, which stops the terms of its words
abbrev pub index : List (List ℕ) → List ℕ → IndexRecord
index documents stop = index_without documents (terms_in stop)
