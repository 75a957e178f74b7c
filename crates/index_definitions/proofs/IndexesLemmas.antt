-- The index of documents is an index, and says just their postings.
use Rattle.std.proofs.Common.{◌≡◌, ℕ, ◌+◌, ◌<◌, List, [], ◌∷◌, ◌++◌, length, get_or, map}
use Rattle.std.proofs.Common.{filter, flat_map, Bool, true, false, cond, refl, sym, ap, ap₂, ◌∙◌}
use Rattle.std.proofs.Common.{subst, arith, not}
use Rattle.std.specs.Prelude.{nat_lt}
use Rattle.std.specs.List.{AllByRecursion, enumerate_from}
use Rattle.std.specs.List.Sorted.{IsPermutation}
use Rattle.std.specs.Str.{bytes_eq}
use Rattle.std.proofs.lemmas.Grind.{common_steps}
use Rattle.std.proofs.lemmas.List.{map-append, length-map}
use Rattle.std.proofs.lemmas.List.Elements.{filter-append, All-map}
use Rattle.std.proofs.lemmas.List.Folds.{list_any_at}
use Rattle.std.proofs.lemmas.List.Sorted.{length_permutation}
use Rattle.std.proofs.lemmas.Slice.Eq.{bytes_eq-Decides}
use Rattle.index_definitions.specs.Words.{Word, positions_of}
use Rattle.index_definitions.specs.Terms.{has_term}
use Rattle.index_definitions.specs.Postings.{Posting, counted_words, posting_at, postings}
use Rattle.index_definitions.specs.Postings.{postings_of, terms_of}
use Rattle.index_definitions.specs.PostingLists.{DocumentPositions, PostingList, RisesAbove}
use Rattle.index_definitions.specs.PostingLists.{ListsPostingsAbove, ListsPostings, last_document}
use Rattle.index_definitions.specs.PostingLists.{pairs_in, pairs_of}
use Rattle.index_definitions.specs.Index.{TermRecord, term_record, index_without}
use Rattle.index_definitions.specs.Indexes.{posting_of_pair, postings_said, postings_in, texts_of}
use Rattle.index_definitions.specs.Indexes.{IsTermRecord, IsIndex}
use Rattle.index_definitions.proofs.ListsLemmas.{list_any-map, length-filter-some}
use Rattle.index_definitions.proofs.TermsLemmas.{longest_of-same}
use Rattle.index_definitions.proofs.PostingsLemmas.{counted_all, postings_from, postings-from}
use Rattle.index_definitions.proofs.PostingsLemmas.{posting_list, by_document-documents}
use Rattle.index_definitions.proofs.GroupingLemmas.{terms_of-members, terms_of-rise}
use Rattle.index_definitions.proofs.GroupingLemmas.{IsPermutation-grouped}

-- ---- the postings that a posting list says

-- those of one document
said-document : (t : List ℕ) (k : ℕ) (w : List Word)
    → map (posting_of_pair t) (pairs_in (k, positions_of t w))
    ≡ postings_of t (map (posting_at k) w)
said-document t k [] = refl
said-document t k (v ∷ w) =
    let rest = said-document t k w in
    let mine = filter (λ (u : Word). bytes_eq t u.1) w in
    let others = postings_of t (map (posting_at k) w) in
    elim (bytes_eq t v.1) as (λ b. bytes_eq t v.1 ≡ b
    → map (posting_of_pair t) (pairs_in (k, map (λ (u : Word). u.0) (cond b (v ∷ mine) mine)))
    ≡ cond b (posting_at k v ∷ others) others) [
      | true ↦ λ same.
          let is : t ≡ v.1 = (bytes_eq-Decides t v.1).0 same in
          ap₂ (λ p ps. p ∷ ps) (ap (λ term. posting_of_pair term (k, v.0)) is) rest
      | false ↦ λ _. rest
    ] refl

-- a document without positions says none
pairs_of-first : (k : ℕ) (positions : List ℕ) (es : PostingList)
    → pairs_of (cond (nat_lt 0 (length positions)) ((k, positions) ∷ es) es)
    ≡ pairs_in (k, positions) ++ pairs_of es
pairs_of-first k [] es = refl
pairs_of-first k (p ∷ ps) es =
    let some : nat_lt 0 (length (p ∷ ps)) ≡ true = grind (arith, common_steps) in
    ap (λ b. pairs_of (cond b ((k, p ∷ ps) ∷ es) es)) some

-- those of all documents from one on
said-all : (t : List ℕ) (k : ℕ) (ws : List (List Word))
    → map (posting_of_pair t) (pairs_of (posting_list t k ws)) ≡ postings_of t (postings_from k ws)
said-all t k [] = refl
said-all t k (w ∷ ws) =
    ap (map (posting_of_pair t))
    (pairs_of-first k (positions_of t w) (posting_list t (k + 1) ws))
    ∙ map-append (posting_of_pair t) (pairs_in (k, positions_of t w))
    (pairs_of (posting_list t (k + 1) ws))
    ∙ ap₂ (λ ps qs. ps ++ qs) (said-document t k w) (said-all t (k + 1) ws)
    ∙ sym (filter-append (λ (p : Posting). bytes_eq t p.term) (map (posting_at k) w)
    (postings_from (k + 1) ws))

-- ---- a posting list rises

-- positions of counted words
positions-rise : (p q : ℕ × List ℕ → Bool) (low k : ℕ) (terms : List (List ℕ)) → low < k
    → RisesAbove low (map (λ w. w.0) (filter q (filter p (enumerate_from k terms))))
positions-rise p q low k [] below = tt
positions-rise p q low k (t ∷ ts) below =
    let rest = filter p (enumerate_from (k + 1) ts) in
    elim (p (k, t)) as (λ b.
    RisesAbove low (map (λ (w : Word). w.0) (filter q (cond b ((k, t) ∷ rest) rest)))) [
      | true ↦
          elim (q (k, t)) as (λ b.
          RisesAbove low (map (λ (w : Word). w.0)
          (cond b ((k, t) ∷ filter q rest) (filter q rest)))) [
            | true ↦ (below, positions-rise p q k (k + 1) ts (omega arith))
            | false ↦ positions-rise p q low (k + 1) ts (omega arith)
          ]
      | false ↦ positions-rise p q low (k + 1) ts (omega arith)
    ]

-- words whose terms have positions that rise
abbrev AreInOrder : List Word → Type 0
AreInOrder w = (t : List ℕ) → RisesAbove 0 (positions_of t w)

counted-in_order : (stopped documents : List (List ℕ))
    → AllByRecursion AreInOrder (counted_all stopped documents)
counted-in_order stopped [] = tt
counted-in_order stopped (d ∷ ds) = (
  λ t. positions-rise (λ word. not (has_term stopped word.1)) (λ word. bytes_eq t word.1) 0 1 _
      (omega arith),
  counted-in_order stopped ds,
)

list-rises : (t : List ℕ) (low k : ℕ) (ws : List (List Word)) → low < k
    → AllByRecursion AreInOrder ws → ListsPostingsAbove low (posting_list t k ws)
list-rises t low k [] below each = tt
list-rises t low k (w ∷ ws) below each =
    let positions = positions_of t w in
    let rest = posting_list t (k + 1) ws in
    elim (nat_lt 0 (length positions)) as (λ b. nat_lt 0 (length positions) ≡ b
    → ListsPostingsAbove low (cond b ((k, positions) ∷ rest) rest)) [
      | true ↦ λ is. (
        below,
        record { some = grind (arith, common_steps); rise = each.0 t },
        list-rises t k (k + 1) ws (omega arith) each.1,
      )
      | false ↦ λ _. list-rises t low (k + 1) ws (omega arith) each.1
    ] refl

last_document-below : (e : DocumentPositions) (es : PostingList) (n : ℕ)
    → e.0 < n → last_document es < n → last_document (e ∷ es) < n
last_document-below e [] n first others = first
last_document-below e (f ∷ es) n first others = others

list-within : (t : List ℕ) (k : ℕ) (ws : List (List Word)) → 0 < k
    → last_document (posting_list t k ws) < k + length ws
list-within t k [] some = omega arith
list-within t k (w ∷ ws) some =
    let positions = positions_of t w in
    let rest = posting_list t (k + 1) ws in
    let later = list-within t (k + 1) ws (omega arith) in
    let same : k + 1 + length ws ≡ k + length (w ∷ ws) = omega arith in
    elim (nat_lt 0 (length positions)) as (λ b.
    last_document (cond b ((k, positions) ∷ rest) rest) < k + length (w ∷ ws)) [
      | true ↦ last_document-below (k, positions) rest _ (omega arith) (rw (← same) later)
      | false ↦ rw (← same) later
    ]

-- a list that says something isn't empty
pairs_of-some : (es : PostingList) → 0 < length (pairs_of es) → 0 < length es
pairs_of-some [] some = some
pairs_of-some (e ∷ es) some = omega arith

-- ---- the index of documents

module _ (documents stopped : List (List ℕ)) where
  abbrev all_postings : List Posting
  all_postings = postings documents stopped

  abbrev record_of : List ℕ → TermRecord
  record_of t = term_record (length documents) all_postings t

  abbrev words_lists : List (List Word)
  words_lists = counted_all stopped documents

  -- a record says just the postings of its term
  said-record : (t : List ℕ) → postings_said (record_of t) ≡ postings_of t all_postings
  said-record t =
      ap (λ es. map (posting_of_pair t) (pairs_of es)) (by_document-documents stopped documents t)
      ∙ said-all t 1 words_lists
      ∙ ap (postings_of t) (sym (postings-from stopped documents))

  flat_map-said : (ts : List (List ℕ))
      → flat_map postings_said (map record_of ts) ≡ flat_map (λ t. postings_of t all_postings) ts
  flat_map-said [] = refl
  flat_map-said (t ∷ ts) = ap₂ (λ ps qs. ps ++ qs) (said-record t) (flat_map-said ts)

  pub says_its_postings :
      IsPermutation all_postings (postings_in (index_without documents stopped))
  says_its_postings =
      subst (IsPermutation all_postings) (sym (flat_map-said (terms_of all_postings)))
      (IsPermutation-grouped all_postings)

  texts_of-records : (ts : List (List ℕ)) → texts_of (map record_of ts) ≡ ts
  texts_of-records [] = refl
  texts_of-records (t ∷ ts) = ap (λ us. t ∷ us) (texts_of-records ts)

  -- the record of a term that some posting has
  IsTermRecord-of : (t : List ℕ) → has_term (terms_of all_postings) t ≡ true
      → IsTermRecord (length documents) (record_of t)
  IsTermRecord-of t has =
      let es = (record_of t).postings in
      let is = by_document-documents stopped documents t in
      let long = length-map documents (counted_words stopped) in
      let last = list-within t 1 words_lists (omega arith) in
      let total : length (postings_of t all_postings) ≡ length (pairs_of es) =
      sym (ap length (said-record t)) ∙ length-map (pairs_of es) (posting_of_pair t) in
      let some = length-filter-some (λ (p : Posting). bytes_eq t p.term) all_postings
      (sym (list_any-map (bytes_eq t) (λ (p : Posting). p.term) all_postings)
      ∙ sym (terms_of-members all_postings t) ∙ has) in
      record {
        lists = subst ListsPostings (sym is)
            (list-rises t 0 1 words_lists (omega arith) (counted-in_order stopped documents));
        some = pairs_of-some es (omega (arith, total, some));
        within = omega (arith, ap last_document is, last, long);
        total_is = total;
      }

  pub is_index : IsIndex (index_without documents stopped)
  is_index =
      let ts = terms_of all_postings in
      let texts = texts_of-records ts in
      record {
        rises = rw texts (terms_of-rise all_postings);
        each = All-map (IsTermRecord (length documents)) record_of ts (λ i d within.
            let t = get_or ts i d in
            IsTermRecord-of t (list_any_at (bytes_eq t) ts i d within
            ((bytes_eq-Decides t t).1 refl)));
        words_are = sym (length_permutation _ _ says_its_postings);
        longest_is = rw texts
            (sym (longest_of-same ts (map (λ p. p.term) all_postings)
            (terms_of-members all_postings)));
      }
