-- Postings that are printed pair by pair come out document by document.
use Rattle.std.proofs.Common.{◌≡◌, ℕ, ◌<◌, true, false, List, [], ◌∷◌, ◌++◌, map, length}
use Rattle.std.proofs.Common.{refl, sym, ap, ◌∙◌, arith, append_assoc, append-nil, cond}
use Rattle.std.specs.Prelude.{◌==◌, codes, decimal}
use Rattle.std.specs.List.{flat_map, join_with_byte}
use Rattle.index_definitions.specs.PostingLists.{PostingList, ListsPostings, ListsPostingsAbove, pairs_of}
use Rattle.index_definitions.specs.IndexText.{document_text, postings_text}
use Rattle.report.specs.Printing.{separator, lead_text, pairs_text}

-- what is joined is the first, and each other behind the byte
join_with_byte-map :
    {X : Type 0} (c : ℕ) (f : X → List ℕ) (x : X) (xs : List X)
    → join_with_byte c (map f (x ∷ xs)) ≡ f x ++ flat_map (λ y. c ∷ f y) xs
join_with_byte-map c f x [] = sym (append-nil (f x))
join_with_byte-map c f x (y ∷ ys) = ap (λ t. f x ++ (c ∷ t)) (join_with_byte-map c f y ys)

same_number : (n : ℕ) → (n == n) ≡ true
same_number n = grind arith

-- behind the first position of a document
pairs_text-positions :
    (document : ℕ) (positions : List ℕ) (rest : List (ℕ × ℕ))
    → pairs_text document (map (λ position. (document, position)) positions ++ rest)
    ≡ flat_map (λ position. 0x2C ∷ decimal position) positions ++ pairs_text document rest
pairs_text-positions document [] rest = refl
pairs_text-positions document (p ∷ ps) rest =
    ap (λ b. cond b (codes ",") (separator document ++ decimal document ++ codes ":") ++ decimal p
    ++ pairs_text document (map (λ position. (document, position)) ps ++ rest)) (same_number document)
    ∙ ap (λ t. 0x2C ∷ (decimal p ++ t)) (pairs_text-positions document ps rest)
    ∙ ap (λ t. 0x2C ∷ t) (sym (append_assoc (decimal p)
    (flat_map (λ position. 0x2C ∷ decimal position) ps) (pairs_text document rest)))

-- a document behind another, and what follows it
pairs_text-document :
    (last document : ℕ) (positions : List ℕ) (rest : List (ℕ × ℕ))
    → last < document → 0 < length positions
    → pairs_text last (map (λ position. (document, position)) positions ++ rest)
    ≡ separator last ++ document_text (document, positions) ++ pairs_text document rest
pairs_text-document last document [] rest above some = absurd (omega (arith, some))
pairs_text-document last document (p ∷ ps) rest above some =
    let others : (document == last) ≡ false = grind arith in
    let lead : lead_text last document ≡ separator last ++ decimal document ++ codes ":" =
    ap (λ b. cond b (codes ",") (separator last ++ decimal document ++ codes ":")) others in
    let joined = join_with_byte-map 0x2C decimal p ps in
    rw (lead, joined, pairs_text-positions document ps rest) (simp append_assoc)

-- documents behind another
pairs_text-others :
    (last : ℕ) (es : PostingList) → 0 < last → ListsPostingsAbove last es
    → pairs_text last (pairs_of es) ≡ flat_map (λ e. 0x3B ∷ document_text e) es
pairs_text-others last [] some lists = refl
pairs_text-others last (e ∷ es) some lists =
    let not_first : (last == 0) ≡ false = grind arith in
    let before : 0 < e.0 = omega (arith, lists.0) in
    pairs_text-document last e.0 e.1 (pairs_of es) lists.0 lists.1.some
    ∙ ap (λ b. cond b [] (codes ";") ++ document_text e ++ pairs_text e.0 (pairs_of es)) not_first
    ∙ ap (λ t. 0x3B ∷ (document_text e ++ t)) (pairs_text-others e.0 es before lists.2)

pub pairs_text-postings :
    (es : PostingList) → ListsPostings es → pairs_text 0 (pairs_of es) ≡ postings_text es
pairs_text-postings [] lists = refl
pairs_text-postings (e ∷ es) lists =
    pairs_text-document 0 e.0 e.1 (pairs_of es) lists.0 lists.1.some
    ∙ ap (λ t. document_text e ++ t) (pairs_text-others e.0 es lists.0 lists.2)
    ∙ sym (join_with_byte-map 0x3B document_text e es)
