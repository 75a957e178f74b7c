-- How do the postings of a term stand in one list of numbers?
--
-- Document by document: its number, how many positions it has, and those positions.
use Rattle.std.specs.Prelude.{ℕ, zero, suc, ◌≡◌, List, [], ◌∷◌, take, length}
use Rattle.std.specs.List.{flat_map}
use Rattle.index_definitions.specs.PostingLists.{DocumentPositions, PostingList, ListsPostings}

-- the numbers of one document
abbrev pub numbers_in : DocumentPositions → List ℕ
numbers_in e = e.0 ∷ length e.1 ∷ e.1

-- the numbers of all documents
abbrev pub numbers_of : PostingList → List ℕ
numbers_of es = flat_map numbers_in es

-- the documents read off the numbers that follow the first `skipped`
abbrev pub lists_after : ℕ → List ℕ → PostingList
lists_after (suc skipped) (n ∷ ns) = lists_after skipped ns
lists_after zero (document ∷ count ∷ ns) = (document, take count ns) ∷ lists_after count ns
lists_after _ _ = []

-- the documents read off the numbers
abbrev pub lists_of : List ℕ → PostingList
lists_of ns = lists_after 0 ns

-- numbers that are those of a term's postings, with nothing missing and nothing left over
pub record HoldPostings (ns : List ℕ) : Type 0 where
  pub whole : numbers_of (lists_of ns) ≡ ns
  pub postings : ListsPostings (lists_of ns)
