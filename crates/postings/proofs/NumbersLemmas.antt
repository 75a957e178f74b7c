-- Postings as numbers, and read off them again.
use Rattle.std.proofs.Common.{ℕ, zero, suc, ◌≡◌, ◌<◌, ◌∙◌, List, [], ◌∷◌, ◌++◌, length}
use Rattle.std.proofs.Common.{◌≤◌, ◌-◌, get_or, take, drop, sym, ap, refl, arith}
use Rattle.std.proofs.Math.Seq.{take-append_seam, drop-append_seam}
use Rattle.std.proofs.lemmas.List.{append-nil, take_all}
use Rattle.std.proofs.lemmas.Grind.{flat_map-append}
use Rattle.postings.specs.Numbers.{numbers_in, numbers_of, lists_after, lists_of, HoldPostings}
use Rattle.index_definitions.specs.PostingLists.{DocumentPositions, PostingList, ArePositions, last_document}
use Rattle.postings.proofs.PostingListsLemmas.{ListsPostings-append, ListsPostings-of_above}

-- what is skipped doesn't count
pub lists_after-drop : (n : ℕ) (ns : List ℕ) → lists_after n ns ≡ lists_of (drop n ns)
lists_after-drop zero ns = refl
lists_after-drop (suc n) [] = refl
lists_after-drop (suc n) (x ∷ ns) = lists_after-drop n ns

-- the numbers of documents are read as those documents
pub lists_of-numbers : (es : PostingList) → lists_of (numbers_of es) ≡ es
lists_of-numbers [] = refl
lists_of-numbers (e ∷ es) =
    let rest = numbers_of es in
    let others : lists_after (length e.1) (e.1 ++ rest) ≡ es =
    lists_after-drop (length e.1) (e.1 ++ rest)
    ∙ ap lists_of (drop-append_seam e.1 rest)
    ∙ lists_of-numbers es
    in
    ap (λ positions. (e.0, positions) ∷ lists_after (length e.1) (e.1 ++ rest))
    (take-append_seam e.1 rest)
    ∙ ap (λ fs. e ∷ fs) others

-- a document more has its numbers at the end
numbers_of-append :
    (es : PostingList) (e : DocumentPositions)
    → numbers_of (es ++ e ∷ []) ≡ numbers_of es ++ numbers_in e
numbers_of-append es e =
    flat_map-append numbers_in es (e ∷ [])
    ∙ ap (λ ns. numbers_of es ++ ns) (append-nil (numbers_in e))

-- numbers of a document at the end are read as that document
pub lists_of-append :
    (ns : List ℕ) (e : DocumentPositions) → HoldPostings ns
    → lists_of (ns ++ numbers_in e) ≡ lists_of ns ++ e ∷ []
lists_of-append ns e holds =
    let es = lists_of ns in
    ap (λ ms. lists_of (ms ++ numbers_in e)) (sym holds.whole)
    ∙ ap lists_of (sym (numbers_of-append es e))
    ∙ lists_of-numbers (es ++ e ∷ [])

-- and they are again numbers of postings
pub HoldPostings-append :
    (ns : List ℕ) (document : ℕ) (positions : List ℕ) → HoldPostings ns
    → last_document (lists_of ns) < document → ArePositions positions
    → HoldPostings (ns ++ numbers_in (document, positions))
HoldPostings-append ns document positions holds above are =
    let e : ℕ × List ℕ = (document, positions) in
    let es = lists_of ns in
    let read = lists_of-append ns e holds in
    record {
      whole =
          ap numbers_of read
          ∙ numbers_of-append es e
          ∙ ap (λ ms. ms ++ numbers_in e) holds.whole;
      postings =
          rw read (ListsPostings-append es document positions holds.postings above are);
    }

-- what follows the first two numbers, as a pattern on them gives it
tail-is :
    (document count : ℕ) (ns : List ℕ) → take (length (document ∷ count ∷ ns) - 2) ns ≡ ns
tail-is document count ns =
    let enough : length ns ≤ length (document ∷ count ∷ ns) - 2 = omega arith in
    take_all (length (document ∷ count ∷ ns) - 2) ns enough

-- the first document, and those behind it
pub lists_of-first :
    (ns positions rest : List ℕ) → 2 ≤ length ns
    → positions ≡ take (get_or ns 1 0) (take (length ns - 2) (drop 2 ns))
    → rest ≡ drop (get_or ns 1 0) (take (length ns - 2) (drop 2 ns))
    → lists_of ns ≡ (get_or ns 0 0, positions) ∷ lists_of rest
lists_of-first [] positions rest some front back = absurd (omega (arith, some))
lists_of-first (document ∷ []) positions rest some front back = absurd (omega (arith, some))
lists_of-first (document ∷ count ∷ ns) positions rest some front back =
    let front_is : positions ≡ take count ns =
    front ∙ ap (take count) (tail-is document count ns) in
    let back_is : rest ≡ drop count ns = back ∙ ap (drop count) (tail-is document count ns) in
    rw (front_is, back_is) (ap (λ es. (document, take count ns) ∷ es) (lists_after-drop count ns))

-- what is behind the first document are again numbers of postings
pub HoldPostings-rest :
    (ns rest : List ℕ) → 2 ≤ length ns
    → rest ≡ drop (get_or ns 1 0) (take (length ns - 2) (drop 2 ns))
    → HoldPostings ns → HoldPostings rest
HoldPostings-rest [] rest some back holds = absurd (omega (arith, some))
HoldPostings-rest (document ∷ []) rest some back holds = absurd (omega (arith, some))
HoldPostings-rest (document ∷ count ∷ ns) rest some back holds =
    let es = lists_after count ns in
    let back_is : rest ≡ drop count ns = back ∙ ap (drop count) (tail-is document count ns) in
    let read : es ≡ lists_of (drop count ns) = lists_after-drop count ns in
    let length_is : length (take count ns) ≡ count = cc holds.whole in
    let parts : take count ns ++ numbers_of es ≡ ns = cc holds.whole in
    let behind = drop-append_seam (take count ns) (numbers_of es) in
    let left : drop count ns ≡ numbers_of es = cc (behind, length_is, parts) in
    rw back_is (record {
      whole = ap numbers_of (sym read) ∙ sym left;
      postings = rw (← read) (ListsPostings-of_above document es holds.postings.2);
    })
