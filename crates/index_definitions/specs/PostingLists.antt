-- What are the postings of one term, as a list of documents?
--
-- Documents rise, each has at least one position, and positions rise within a document. All numbers
-- are at least 1.
use Rattle.std.specs.Prelude.{ℕ, ◌<◌, List, [], ◌∷◌, map, length}
use Rattle.std.specs.List.{flat_map}

-- a document of a term, with the term's positions in it
abbrev pub DocumentPositions : Type 0
DocumentPositions = ℕ × List ℕ

-- the documents of one term
abbrev pub PostingList : Type 0
PostingList = List DocumentPositions

-- numbers that rise, each above the one before, the first above `low`
abbrev pub RisesAbove : ℕ → List ℕ → Type 0
RisesAbove low [] = Unit {0}
RisesAbove low (n ∷ ns) = (low < n) × RisesAbove n ns

-- positions of one document
pub record ArePositions (positions : List ℕ) : Type 0 where
  pub some : 0 < length positions
  pub rise : RisesAbove 0 positions

-- documents that rise above `low`, each with its positions
abbrev pub ListsPostingsAbove : ℕ → PostingList → Type 0
ListsPostingsAbove low [] = Unit {0}
ListsPostingsAbove low (e ∷ es) = (low < e.0) × ArePositions e.1 × ListsPostingsAbove e.0 es

-- postings of a term
abbrev pub ListsPostings : PostingList → Type 0
ListsPostings es = ListsPostingsAbove 0 es

-- the last document, or 0
abbrev pub last_document : PostingList → ℕ
last_document [] = 0
last_document (e ∷ []) = e.0
last_document (e ∷ f ∷ es) = last_document (f ∷ es)

-- the positions of one document as pairs with it
abbrev pub pairs_in : DocumentPositions → List (ℕ × ℕ)
pairs_in e = map (λ position. (e.0, position)) e.1

-- all pairs of document and position, in order
abbrev pub pairs_of : PostingList → List (ℕ × ℕ)
pairs_of es = flat_map pairs_in es
