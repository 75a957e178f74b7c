-- Lists of postings: one document more, the first taken off, and how long they can be.
use Rattle.std.proofs.Common.{ℕ, suc, ◌<◌, ◌≤◌, ◌+◌, List, [], ◌∷◌, ◌++◌, length, get_or, arith, ◌≡◌, refl}
use Rattle.index_definitions.specs.PostingLists.{ArePositions, RisesAbove}
use Rattle.index_definitions.specs.PostingLists.{ListsPostings, ListsPostingsAbove}
use Rattle.index_definitions.specs.PostingLists.{DocumentPositions, PostingList, last_document}

ListsPostingsAbove-append :
    (low : ℕ) (e : DocumentPositions) (es : PostingList) (document : ℕ) (positions : List ℕ)
    → ListsPostingsAbove low (e ∷ es) → last_document (e ∷ es) < document → ArePositions positions
    → ListsPostingsAbove low (e ∷ (es ++ (document, positions) ∷ []))
ListsPostingsAbove-append low e [] document positions lists above are =
    (lists.0, lists.1, (above, are, tt))
ListsPostingsAbove-append low e (f ∷ es) document positions lists above are =
    (lists.0, lists.1, ListsPostingsAbove-append e.0 f es document positions lists.2 above are)

pub ListsPostings-append :
    (es : PostingList) (document : ℕ) (positions : List ℕ)
    → ListsPostings es → last_document es < document → ArePositions positions
    → ListsPostings (es ++ (document, positions) ∷ [])
ListsPostings-append [] document positions lists above are = (above, are, tt)
ListsPostings-append (e ∷ es) document positions lists above are =
    ListsPostingsAbove-append 0 e es document positions lists above are

pub ListsPostings-of_above :
    (low : ℕ) (es : PostingList) → ListsPostingsAbove low es → ListsPostings es
ListsPostings-of_above low [] lists = tt
ListsPostings-of_above low (e ∷ es) lists = (omega (arith, lists.0), lists.1, lists.2)

-- numbers that rise are fewer than what bounds them
pub length-RisesAbove-lt :
    (bound low : ℕ) (ns : List ℕ) → low < bound → RisesAbove low ns
    → ((k : ℕ) → get_or ns k 0 < bound) → low + length ns < bound
length-RisesAbove-lt bound low [] below rises all = omega arith
length-RisesAbove-lt bound low (n ∷ ns) below rises all =
    let rest = length-RisesAbove-lt bound n ns (all 0) rises.1 (λ k. all (suc k)) in
    omega (arith, rest, rises.0)

length-ListsPostingsAbove-le :
    (low : ℕ) (e : DocumentPositions) (es : PostingList) → ListsPostingsAbove low (e ∷ es)
    → low + length (e ∷ es) ≤ last_document (e ∷ es)
length-ListsPostingsAbove-le low e [] lists = omega (arith, lists.0)
length-ListsPostingsAbove-le low e (f ∷ es) lists =
    let rest = length-ListsPostingsAbove-le e.0 f es lists.2 in
    omega (arith, rest, lists.0)

-- documents rise, so that there are no more than the last one's number
pub length-ListsPostings-le :
    (es : PostingList) → ListsPostings es → length es ≤ last_document es
length-ListsPostings-le [] lists = omega arith
length-ListsPostings-le (e ∷ es) lists = omega (arith, length-ListsPostingsAbove-le 0 e es lists)

-- a document more is the last
pub last_document-push : (es : PostingList) (document : ℕ) (positions : List ℕ)
    → last_document (es ++ (document, positions) ∷ []) ≡ document
last_document-push [] document positions = refl
last_document-push (e ∷ []) document positions = refl
last_document-push (e ∷ f ∷ es) document positions = last_document-push (f ∷ es) document positions
