-- A record that has the form of an index is the index of the postings that it says.
use Rattle.std.proofs.Common.{◌≡◌, ℕ, zero, suc, ◌+◌, ◌<◌, ◌≤◌, List, [], ◌∷◌, ◌++◌, length, map}
use Rattle.std.proofs.Common.{filter, flat_map, Bool, true, false, cond, refl, sym, ap, ap₂, ◌∙◌}
use Rattle.std.proofs.Common.{subst, arith, append_assoc, append-nil, ⊎_elim}
use Rattle.std.specs.Prelude.{◌||◌, ◌==◌, nat_lt}
use Rattle.std.specs.List.{AllByRecursion, range_with_len}
use Rattle.std.specs.Str.{bytes_eq}
use Rattle.std.proofs.Math.Nat.{eq-or-lt_of_le}
use Rattle.std.proofs.lemmas.Cmp.{nat_list_eq_equiv}
use Rattle.std.proofs.lemmas.Grind.{common_steps}
use Rattle.std.proofs.lemmas.List.{map-append, length-map}
use Rattle.std.proofs.lemmas.List.Elements.{filter-append, recursion_from_All}
use Rattle.std.proofs.lemmas.List.Folds.{list_any-append}
use Rattle.std.proofs.lemmas.Slice.Eq.{bytes_eq-Decides}
use Rattle.index_definitions.specs.Terms.{has_term, HaveSameTerms}
use Rattle.index_definitions.specs.Postings.{Posting, postings_of, terms_of}
use Rattle.index_definitions.specs.PostingLists.{DocumentPositions, PostingList, last_document}
use Rattle.index_definitions.specs.PostingLists.{ListsPostingsAbove, pairs_in, pairs_of}
use Rattle.index_definitions.specs.Index.{TermRecord, IndexRecord, positions_in, by_document}
use Rattle.index_definitions.specs.Index.{term_record, index_of}
use Rattle.index_definitions.specs.Indexes.{posting_of_pair, postings_said, postings_in, texts_of}
use Rattle.index_definitions.specs.Indexes.{IsTermRecord, IsIndex}
use Rattle.index_definitions.proofs.ListsLemmas.{filter-map, filter-same, list_any-map, list_any-same}
use Rattle.index_definitions.proofs.TermsLemmas.{longest_of-same, rising_terms-unique}
use Rattle.index_definitions.proofs.PostingsLemmas.{term_records}
use Rattle.index_definitions.proofs.GroupingLemmas.{AreOnce, AreOnce-rising}

-- ---- the postings of one term, where each term stands once

-- of what one record says, all or nothing
postings_of-said : (q : List ℕ) (r : TermRecord)
    → postings_of q (postings_said r) ≡ cond (bytes_eq q r.text) (postings_said r) []
postings_of-said q r =
    let pairs = pairs_of r.postings in
    filter-map (λ (p : Posting). bytes_eq q p.term) (posting_of_pair r.text) pairs
    ∙ ap (map (posting_of_pair r.text)) (filter-same (bytes_eq q r.text) pairs)
    ∙ elim (bytes_eq q r.text) as (λ b. map (posting_of_pair r.text) (cond b pairs [])
    ≡ cond b (postings_said r) [])
    [ true ↦ refl | false ↦ refl ]

postings_of-itself : (r : TermRecord) → postings_of r.text (postings_said r) ≡ postings_said r
postings_of-itself r =
    postings_of-said r.text r
    ∙ ap (λ b. cond b (postings_said r) []) ((bytes_eq-Decides r.text r.text).1 refl)

postings_of-other : (q : List ℕ) (r : TermRecord) → bytes_eq q r.text ≡ false
    → postings_of q (postings_said r) ≡ []
postings_of-other q r other =
    postings_of-said q r ∙ ap (λ b. cond b (postings_said r) []) other

first_false : (a b : Bool) → (a || b) ≡ false → a ≡ false
first_false true b neither = absurd cc
first_false false b neither = refl

second_false : (a b : Bool) → (a || b) ≡ false → b ≡ false
second_false true b neither = absurd cc
second_false false b neither = neither

-- records without the term say nothing of it
postings_of-none : (q : List ℕ) (rs : List TermRecord) → has_term (texts_of rs) q ≡ false
    → postings_of q (flat_map postings_said rs) ≡ []
postings_of-none q [] none = refl
postings_of-none q (r ∷ rs) none =
    filter-append (λ (p : Posting). bytes_eq q p.term) (postings_said r) (flat_map postings_said rs)
    ∙ ap₂ (λ ps qs. ps ++ qs) (postings_of-other q r (first_false _ _ none))
    (postings_of-none q rs (second_false _ _ none))

-- no posting of the records' terms is one of these
abbrev AreNotIn : List Posting → List TermRecord → Type 0
AreNotIn ps rs = AllByRecursion (λ r. postings_of r.text ps ≡ []) rs

AreNotIn-more : (before : List Posting) (r : TermRecord) (rs : List TermRecord)
    → has_term (texts_of rs) r.text ≡ false → AreNotIn before rs
    → AreNotIn (before ++ postings_said r) rs
AreNotIn-more before r [] none others = tt
AreNotIn-more before r (s ∷ rs) none others = (
  filter-append (λ (p : Posting). bytes_eq s.text p.term) before (postings_said r)
      ∙ ap₂ (λ ps qs. ps ++ qs) others.0
      (postings_of-other s.text r
      (nat_list_eq_equiv.symm s.text r.text ∙ first_false _ _ none)),
  AreNotIn-more before r rs (second_false _ _ none) others.1,
)

-- each record says the postings of its term
said_each : (before : List Posting) (rs : List TermRecord) → AreOnce (texts_of rs)
    → AreNotIn before rs
    → AllByRecursion (λ r. postings_of r.text (before ++ flat_map postings_said rs)
    ≡ postings_said r) rs
said_each before [] once others = tt
said_each before (r ∷ rs) once others =
    let later = flat_map postings_said rs in (
      filter-append (λ (p : Posting). bytes_eq r.text p.term) before (postings_said r ++ later)
          ∙ ap₂ (λ ps qs. ps ++ qs) others.0
          (filter-append (λ (p : Posting). bytes_eq r.text p.term) (postings_said r) later
          ∙ ap₂ (λ ps qs. ps ++ qs) (postings_of-itself r) (postings_of-none r.text rs once.0)
          ∙ append-nil (postings_said r)),
      subst (λ ps. AllByRecursion (λ s. postings_of s.text ps ≡ postings_said s) rs)
          (append_assoc before (postings_said r) later)
          (said_each (before ++ postings_said r) rs once.1
          (AreNotIn-more before r rs once.0 others.1)),
    )

-- ---- the documents of the pairs of a posting list

-- the positions of a document among these pairs
abbrev positions_at : List ℕ → PostingList → ℕ → List ℕ
positions_at t es d = positions_in (map (posting_of_pair t) (pairs_of es)) d

positions_at-one : (t : List ℕ) (k d : ℕ) (positions : List ℕ)
    → positions_in (map (posting_of_pair t) (pairs_in (k, positions))) d
    ≡ cond (k == d) positions []
positions_at-one t k d [] =
    let nil : List ℕ = [] in
    elim (k == d) as (λ b. nil ≡ cond b nil nil) [ true ↦ refl | false ↦ refl ]
positions_at-one t k d (p ∷ ps) =
    let here = posting_of_pair t (k, p) in
    let rest =
    filter (λ (q : Posting). q.document == d) (map (posting_of_pair t) (pairs_in (k, ps))) in
    elim (k == d) as (λ b. map (λ (q : Posting). q.position) rest ≡ cond b ps []
    → map (λ (q : Posting). q.position) (cond b (here ∷ rest) rest) ≡ cond b (p ∷ ps) []) [
      | true ↦ λ same. ap (λ ns. p ∷ ns) same
      | false ↦ λ none. none
    ] (positions_at-one t k d ps)

positions_at-cons : (t : List ℕ) (e : DocumentPositions) (es : PostingList) (d : ℕ)
    → positions_at t (e ∷ es) d ≡ cond (e.0 == d) e.1 [] ++ positions_at t es d
positions_at-cons t e es d =
    let first = map (posting_of_pair t) (pairs_in e) in
    let others = map (posting_of_pair t) (pairs_of es) in
    ap (λ ps. positions_in ps d) (map-append (posting_of_pair t) (pairs_in e) (pairs_of es))
    ∙ ap (map (λ p. p.position)) (filter-append (λ (p : Posting). p.document == d) first others)
    ∙ map-append (λ (p : Posting). p.position)
    (filter (λ p. p.document == d) first) (filter (λ p. p.document == d) others)
    ∙ ap (λ ns. ns ++ positions_at t es d) (positions_at-one t e.0 d e.1)

positions_at-behind : (t : List ℕ) (e : DocumentPositions) (es : PostingList) (d : ℕ) → e.0 < d
    → positions_at t (e ∷ es) d ≡ positions_at t es d
positions_at-behind t e es d less =
    let no : (e.0 == d) ≡ false = grind (arith, common_steps) in
    positions_at-cons t e es d ∙ ap (λ b. cond b e.1 [] ++ positions_at t es d) no

-- a document before all of the list's
positions_at-before : (t : List ℕ) (low : ℕ) (es : PostingList) (d : ℕ)
    → ListsPostingsAbove low es → d ≤ low → positions_at t es d ≡ []
positions_at-before t low [] d lists before = refl
positions_at-before t low (e ∷ es) d lists before =
    let above : low < e.0 = lists.0 in
    let no : (e.0 == d) ≡ false = grind (arith, common_steps) in
    positions_at-cons t e es d
    ∙ ap₂ (λ b ns. cond b e.1 [] ++ ns) no
    (positions_at-before t e.0 es d lists.2 (omega (arith, above, before)))

-- the first document
positions_at-first : (t : List ℕ) (e : DocumentPositions) (es : PostingList) (d : ℕ)
    → ListsPostingsAbove e.0 es → e.0 ≡ d → positions_at t (e ∷ es) d ≡ e.1
positions_at-first t e es d lists same =
    let yes : (e.0 == d) ≡ true = grind (arith, common_steps) in
    positions_at-cons t e es d
    ∙ ap₂ (λ b ns. cond b e.1 [] ++ ns) yes
    (positions_at-before t e.0 es d lists (omega (arith, same)))
    ∙ append-nil e.1

first-last : (low : ℕ) (e : DocumentPositions) (es : PostingList)
    → ListsPostingsAbove low (e ∷ es) → e.0 ≤ last_document (e ∷ es)
first-last low e [] lists = omega arith
first-last low e (f ∷ es) lists =
    let above : e.0 < f.0 = lists.2.0 in
    omega (arith, above, first-last e.0 f es lists.2)

-- of the documents from low + 1 on, those that have positions, each with them
abbrev documents_from : (ℕ → List ℕ) → ℕ → ℕ → PostingList
documents_from f low n =
    filter (λ e. nat_lt 0 (length e.1)) (map (λ d. (d, f d)) (range_with_len (low + 1) n))

-- they are the list again
documents_from-same : (t : List ℕ) (f : ℕ → List ℕ) (low n : ℕ) (es : PostingList)
    → ListsPostingsAbove low es → last_document es < low + 1 + n
    → ((d : ℕ) → low < d → f d ≡ positions_at t es d)
    → documents_from f low n ≡ es
documents_from-same t f low zero [] lists within same = refl
documents_from-same t f low zero (e ∷ es) lists within same =
    let above : low < e.0 = lists.0 in
    absurd (omega (arith, above, within, first-last low e es lists))
documents_from-same t f low (suc n) [] lists within same =
    let rest = documents_from f (low + 1) n in
    ap (λ (ns : List ℕ). cond (nat_lt 0 (length ns)) ((low + 1, ns) ∷ rest) rest)
    (same (low + 1) (omega arith))
    ∙ documents_from-same t f (low + 1) n [] tt (omega arith)
    (λ d after. same d (omega (arith, after)))
documents_from-same t f low (suc n) (e ∷ es) lists within same =
    let rest = documents_from f (low + 1) n in
    let above : low < e.0 = lists.0 in
    let step = λ (ns : List ℕ).
    cond (nat_lt 0 (length ns)) ((low + 1, ns) ∷ rest) rest in
    let at_least : low + 1 ≤ e.0 = omega (arith, above) in
    ⊎_elim
    (λ (first : low + 1 ≡ e.0).
    let some : nat_lt 0 (length e.1) ≡ true = grind (arith, common_steps, lists.1.some) in
    ap step (same (low + 1) (omega arith)
    ∙ positions_at-first t e es (low + 1) lists.2 (sym first))
    ∙ ap (λ b. cond b ((low + 1, e.1) ∷ rest) rest) some
    ∙ ap₂ (λ k ds. (k, e.1) ∷ ds) first
    (documents_from-same t f (low + 1) n es
    (subst (λ k. ListsPostingsAbove k es) (sym first) lists.2)
    (last-behind e es first within)
    (λ d after. same d (omega (arith, after))
    ∙ positions_at-behind t e es d (omega (arith, after, first)))))
    (λ (later : low + 1 < e.0).
    ap step (same (low + 1) (omega arith)
    ∙ positions_at-before t (low + 1) (e ∷ es) (low + 1) (later, lists.1, lists.2) (omega arith))
    ∙ documents_from-same t f (low + 1) n (e ∷ es) (later, lists.1, lists.2)
    (omega (arith, within))
    (λ d after. same d (omega (arith, after))))
    (eq-or-lt_of_le at_least)
  where
    last-behind : (e : DocumentPositions) (es : PostingList) → low + 1 ≡ e.0
        → last_document (e ∷ es) < low + 1 + suc n → last_document es < low + 1 + 1 + n
    last-behind e [] first within = omega arith
    last-behind e (g ∷ es) first within = omega (arith, within)

by_document-said : (t : List ℕ) (n : ℕ) (es : PostingList)
    → ListsPostingsAbove 0 es → last_document es ≤ n
    → by_document n (map (posting_of_pair t) (pairs_of es)) ≡ es
by_document-said t n es lists within =
    documents_from-same t (positions_at t es) 0 n es lists (omega (arith, within))
    (λ d after. refl)

-- ---- the terms

length-pairs_of : (low : ℕ) (es : PostingList) → ListsPostingsAbove low es → 0 < length es
    → 0 < length (pairs_of es)
length-pairs_of low [] lists some = absurd (omega (arith, some))
length-pairs_of low ((k, []) ∷ es) lists some = absurd (omega (arith, lists.1.some))
length-pairs_of low ((k, p ∷ ps) ∷ es) lists some = omega arith

-- a record says something, all of its term
has_term-said : (n : ℕ) (q : List ℕ) (r : TermRecord) → IsTermRecord n r
    → has_term (map (λ p. p.term) (postings_said r)) q ≡ bytes_eq q r.text
has_term-said n q r is =
    list_any-map (bytes_eq q) (λ (p : Posting). p.term) (postings_said r)
    ∙ list_any-map (λ (p : Posting). bytes_eq q p.term) (posting_of_pair r.text)
    (pairs_of r.postings)
    ∙ list_any-same (bytes_eq q r.text) (pairs_of r.postings)
    (length-pairs_of 0 r.postings is.lists is.some)

texts_of-said : (n : ℕ) (rs : List TermRecord) → AllByRecursion (IsTermRecord n) rs
    → HaveSameTerms (texts_of rs) (map (λ p. p.term) (flat_map postings_said rs))
texts_of-said n [] each q = refl
texts_of-said n (r ∷ rs) each q =
    let others = flat_map postings_said rs in
    ap₂ (λ a b. a || b) (sym (has_term-said n q r each.0)) (texts_of-said n rs each.1 q)
    ∙ sym (list_any-append (bytes_eq q) (map (λ p. p.term) (postings_said r))
    (map (λ p. p.term) others))
    ∙ ap (λ ts. has_term ts q) (sym (map-append (λ (p : Posting). p.term) (postings_said r) others))

-- ---- the index

-- a record is what postings say of its term, where they say of it what the record says
record_said : (n : ℕ) (ps : List Posting) (r : TermRecord) → IsTermRecord n r
    → postings_of r.text ps ≡ postings_said r → r ≡ term_record n ps r.text
record_said n ps r is said =
    let total : r.total ≡ length (postings_of r.text ps) =
    is.total_is
    ∙ sym (ap length said ∙ length-map (pairs_of r.postings) (posting_of_pair r.text)) in
    let documents : r.postings ≡ by_document n (postings_of r.text ps) =
    sym (ap (by_document n) said ∙ by_document-said r.text n r.postings is.lists is.within) in
    λ i. record { text = r.text; total = total i; postings = documents i }

records_said : (n : ℕ) (ps : List Posting) (rs : List TermRecord)
    → AllByRecursion (IsTermRecord n) rs
    → AllByRecursion (λ r. postings_of r.text ps ≡ postings_said r) rs
    → AllByRecursion (λ r. r ≡ term_record n ps r.text) rs
records_said n ps [] each said = tt
records_said n ps (r ∷ rs) each said =
    (record_said n ps r each.0 said.0, records_said n ps rs each.1 said.1)

none_before : (rs : List TermRecord) → AreNotIn [] rs
none_before [] = tt
none_before (r ∷ rs) = (refl, none_before rs)

pub is_index_of-said : (index : IndexRecord) → IsIndex index
    → index ≡ index_of index.documents (postings_in index)
is_index_of-said index is =
    let n = index.documents in
    let rs = index.terms in
    let ps = postings_in index in
    let each = recursion_from_All (IsTermRecord n) rs is.each in
    let same = texts_of-said n rs each in
    let longest = is.longest_is ∙ longest_of-same (texts_of rs) (map (λ p. p.term) ps) same in
    let said = said_each [] rs (AreOnce-rising (texts_of rs) is.rises) (none_before rs) in
    let terms : rs ≡ map (term_record n ps) (terms_of ps) =
    term_records n ps rs (records_said n ps rs each said)
    ∙ ap (map (term_record n ps))
    (rising_terms-unique (map (λ p. p.term) ps) (texts_of rs) is.rises same) in
    λ i. record {
      documents = n;
      words = is.words_are i;
      longest = longest i;
      terms = terms i;
    }
