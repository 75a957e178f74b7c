-- The postings of documents: their words, and what they say of a term.
use Rattle.std.proofs.Common.{◌≡◌, ℕ, ◌+◌, ◌<◌, ◌≤◌, List, [], ◌∷◌, ◌++◌, length, map, filter}
use Rattle.std.proofs.Common.{true, false, cond, refl, sym, ap, ap₂, ◌∙◌, arith}
use Rattle.std.proofs.Common.{append_assoc, append-nil, not}
use Rattle.std.specs.Prelude.{◌==◌, nat_lt}
use Rattle.std.specs.List.{All, AllByRecursion, enumerate_from, flat_map, range_with_len}
use Rattle.std.specs.List.Sorted.{IsStrictlySortedBy}
use Rattle.std.specs.Ordering.{nat_cmp}
use Rattle.std.specs.Cmp.Lexicographic.{slice_cmp}
use Rattle.std.specs.Str.{bytes_eq}
use Rattle.std.proofs.lemmas.Grind.{common_steps}
use Rattle.std.proofs.lemmas.List.{map-append, map-id, length-map}
use Rattle.std.proofs.lemmas.Simd.{map-map}
use Rattle.std.proofs.lemmas.List.Elements.{filter-append, recursion_from_All}
use Rattle.index_definitions.specs.Words.{Word, words_in, word_terms, positions_of}
use Rattle.index_definitions.specs.Terms.{HaveSameTerms}
use Rattle.index_definitions.specs.Postings.{Posting, counted_words, posting_at, postings}
use Rattle.index_definitions.specs.Postings.{postings_of, terms_of}
use Rattle.index_definitions.specs.PostingLists.{PostingList}
use Rattle.index_definitions.specs.Index.{TermRecord, positions_in, by_document, term_record}
use Rattle.index_definitions.specs.Index.{index_of, index_without}
use Rattle.index_definitions.specs.Indexes.{texts_of}
use Rattle.index_definitions.proofs.ListsLemmas.{filter-map, filter-same}
use Rattle.index_definitions.proofs.TermsLemmas.{rising_terms-unique}

-- the counted words of each document, where these terms are stopped
abbrev pub counted_all : List (List ℕ) → List (List ℕ) → List (List Word)
counted_all stopped documents = map (counted_words stopped) documents

-- ---- the postings, word list by word list

-- the postings of documents with these words, from document k on
abbrev pub postings_from : ℕ → List (List Word) → List Posting
postings_from k ws = flat_map (λ e. map (posting_at e.0) e.1) (enumerate_from k ws)

counted_from : (stopped documents : List (List ℕ)) (k : ℕ)
    → flat_map (λ e. map (posting_at e.0) (counted_words stopped e.1)) (enumerate_from k documents)
    ≡ postings_from k (counted_all stopped documents)
counted_from stopped [] k = refl
counted_from stopped (d ∷ ds) k =
    ap (λ ps. map (posting_at k) (counted_words stopped d) ++ ps) (counted_from stopped ds (k + 1))

pub postings-from : (stopped documents : List (List ℕ))
    → postings documents stopped ≡ postings_from 1 (counted_all stopped documents)
postings-from stopped documents = counted_from stopped documents 1

-- the word of a posting
abbrev pub word_of : Posting → Word
word_of p = (p.position, p.term)

words_from-postings : (k : ℕ) (ws : List (List Word))
    → map word_of (postings_from k ws) ≡ flat_map (λ w. w) ws
words_from-postings k [] = refl
words_from-postings k (w ∷ ws) =
    map-append word_of (map (posting_at k) w) (postings_from (k + 1) ws)
    ∙ ap₂ (λ us vs. us ++ vs) (map-map word_of (posting_at k) w ∙ map-id w)
    (words_from-postings (k + 1) ws)

module _ (stopped documents : List (List ℕ)) where
  -- all counted words, in order
  abbrev pub all_words : List Word
  all_words = flat_map (λ w. w) (counted_all stopped documents)

  -- the words of the postings are the counted words
  pub words_of-postings : map word_of (postings documents stopped) ≡ all_words
  words_of-postings =
      ap (map word_of) (postings-from stopped documents)
      ∙ words_from-postings 1 (counted_all stopped documents)

  pub length-postings : length (postings documents stopped) ≡ length all_words
  length-postings =
      sym (length-map (postings documents stopped) word_of) ∙ ap length words_of-postings

  pub terms-postings :
      map (λ p. p.term) (postings documents stopped) ≡ word_terms all_words
  terms-postings =
      sym (map-map (λ (w : Word). w.1) word_of (postings documents stopped))
      ∙ ap word_terms words_of-postings

  pub length-postings_of : (t : List ℕ)
      → length (postings_of t (postings documents stopped))
      ≡ length (positions_of t all_words)
  length-postings_of t =
      let mine = postings_of t (postings documents stopped) in
      sym (length-map (map word_of mine) (λ (w : Word). w.0) ∙ length-map mine word_of)
      ∙ ap (λ ws. length (map (λ (w : Word). w.0) ws))
      (sym (filter-map (λ (w : Word). bytes_eq t w.1) word_of (postings documents stopped)))
      ∙ ap (λ ws. length (positions_of t ws)) words_of-postings

-- ---- a term's documents

-- where a term stands in a document
abbrev spots : List ℕ → ℕ → List Posting → List ℕ
spots t d ps = positions_in (postings_of t ps) d

spots-append : (t : List ℕ) (d : ℕ) (ps qs : List Posting)
    → spots t d (ps ++ qs) ≡ spots t d ps ++ spots t d qs
spots-append t d ps qs =
    ap (λ rs. positions_in rs d) (filter-append (λ (p : Posting). bytes_eq t p.term) ps qs)
    ∙ ap (map (λ p. p.position))
    (filter-append (λ (p : Posting). p.document == d) (postings_of t ps) (postings_of t qs))
    ∙ map-append (λ (p : Posting). p.position)
    (filter (λ p. p.document == d) (postings_of t ps))
    (filter (λ p. p.document == d) (postings_of t qs))

spots-one : (t : List ℕ) (d k : ℕ) (w : List Word)
    → spots t d (map (posting_at k) w) ≡ cond (k == d) (positions_of t w) []
spots-one t d k w =
    let mine = filter (λ (v : Word). bytes_eq t v.1) w in
    ap (λ rs. positions_in rs d) (filter-map (λ (p : Posting). bytes_eq t p.term) (posting_at k) w)
    ∙ ap (map (λ p. p.position)) (filter-map (λ (p : Posting). p.document == d) (posting_at k) mine)
    ∙ map-map (λ (p : Posting). p.position) (posting_at k) (filter (λ _. k == d) mine)
    ∙ ap (map (λ (v : Word). v.0)) (filter-same (k == d) mine)
    ∙ elim (k == d) as (λ b.
    map (λ (v : Word). v.0) (cond b mine []) ≡ cond b (positions_of t w) [])
    [ true ↦ refl | false ↦ refl ]

spots-same : (t : List ℕ) (d k : ℕ) (w : List Word) → k ≡ d
    → spots t d (map (posting_at k) w) ≡ positions_of t w
spots-same t d k w same =
    let yes : (k == d) ≡ true = grind (arith, common_steps) in
    spots-one t d k w ∙ ap (λ b. cond b (positions_of t w) []) yes

spots-other : (t : List ℕ) (d k : ℕ) (w : List Word) → k < d → spots t d (map (posting_at k) w) ≡ []
spots-other t d k w less =
    let no : (k == d) ≡ false = grind (arith, common_steps) in
    spots-one t d k w ∙ ap (λ b. cond b (positions_of t w) []) no

spots-later : (t : List ℕ) (d k : ℕ) (ws : List (List Word)) → d < k
    → spots t d (postings_from k ws) ≡ []
spots-later t d k [] less = refl
spots-later t d k (w ∷ ws) less =
    let no : (k == d) ≡ false = grind (arith, common_steps) in
    spots-append t d (map (posting_at k) w) (postings_from (k + 1) ws)
    ∙ ap₂ (λ ms ns. ms ++ ns)
    (spots-one t d k w ∙ ap (λ b. cond b (positions_of t w) []) no)
    (spots-later t d (k + 1) ws (omega arith))

-- the documents of a term, from document k on
abbrev pub posting_list : List ℕ → ℕ → List (List Word) → PostingList
posting_list t k ws =
    filter (λ e. nat_lt 0 (length e.1)) (map (λ e. (e.0, positions_of t e.1)) (enumerate_from k ws))

spots-first : (t : List ℕ) (k : ℕ) (w : List Word) (ws : List (List Word)) (ps : List Posting)
    → spots t k ps ≡ []
    → spots t k (ps ++ (map (posting_at k) w ++ postings_from (k + 1) ws)) ≡ positions_of t w
spots-first t k w ws ps none =
    let later = postings_from (k + 1) ws in
    spots-append t k ps (map (posting_at k) w ++ later)
    ∙ ap₂ (λ ms ns. ms ++ ns) none
    (spots-append t k (map (posting_at k) w) later
    ∙ ap₂ (λ ms ns. ms ++ ns) (spots-same t k k w refl) (spots-later t k (k + 1) ws (omega arith)))
    ∙ append-nil (positions_of t w)

-- after postings of earlier documents
spots-each : (t : List ℕ) (k : ℕ) (ws : List (List Word)) (ps : List Posting)
    → ((d : ℕ) → k ≤ d → spots t d ps ≡ [])
    → map {B = ℕ × List ℕ} (λ d. (d, spots t d (ps ++ postings_from k ws)))
    (range_with_len k (length ws))
    ≡ map (λ e. (e.0, positions_of t e.1)) (enumerate_from k ws)
spots-each t k [] ps none = refl
spots-each t k (w ∷ ws) ps none =
    let mine = map (posting_at k) w in
    let later = postings_from (k + 1) ws in
    let rest = spots-each t (k + 1) ws (ps ++ mine) (λ d after.
    spots-append t d ps mine
    ∙ ap₂ (λ ms ns. ms ++ ns) (none d (omega (arith, after)))
    (spots-other t d k w (omega (arith, after)))) in
    ap₂ (λ ns es. (k, ns) ∷ es) (spots-first t k w ws ps (none k (omega arith)))
    (ap (λ qs. map {B = ℕ × List ℕ} (λ d. (d, spots t d qs)) (range_with_len (k + 1) (length ws)))
    (sym (append_assoc ps mine later))
    ∙ rest)

by_document-list : (t : List ℕ) (ws : List (List Word))
    → by_document (length ws) (postings_of t (postings_from 1 ws)) ≡ posting_list t 1 ws
by_document-list t ws =
    ap (filter (λ e. nat_lt 0 (length e.1))) (spots-each t 1 ws [] (λ d after. refl))

-- in all documents
pub by_document-documents : (stopped documents : List (List ℕ)) (t : List ℕ)
    → by_document (length documents) (postings_of t (postings documents stopped))
    ≡ posting_list t 1 (counted_all stopped documents)
by_document-documents stopped documents t =
    sym (ap₂ (λ n ps. by_document n (postings_of t ps))
    (length-map documents (counted_words stopped)) (sym (postings-from stopped documents)))
    ∙ by_document-list t (counted_all stopped documents)

-- ---- the index

-- it counts by what is stopped alone
pub index_without-same : (documents stopped others : List (List ℕ))
    → HaveSameTerms stopped others
    → index_without documents stopped ≡ index_without documents others
index_without-same documents stopped others same =
    λ i. index_of (length documents) (flat_map (λ e. map (posting_at e.0)
    (filter (λ word. not (same word.1 i)) (words_in e.1))) (enumerate_from 1 documents))

-- terms that are one by one what postings say of them
pub term_records : (n : ℕ) (ps : List Posting) (terms : List TermRecord)
    → AllByRecursion (λ term. term ≡ term_record n ps term.text) terms
    → terms ≡ map (term_record n ps) (texts_of terms)
term_records n ps [] each = refl
term_records n ps (r ∷ rs) each =
    ap₂ (λ x xs. x ∷ xs) each.0 (term_records n ps rs each.1)

-- in their order and with no other, they are the terms of the index
pub term_records-all : (n : ℕ) (ps : List Posting) (terms : List TermRecord)
    → IsStrictlySortedBy (slice_cmp nat_cmp) (texts_of terms)
    → HaveSameTerms (texts_of terms) (map (λ p. p.term) ps)
    → All (λ term. term ≡ term_record n ps term.text) terms
    → terms ≡ map (term_record n ps) (terms_of ps)
term_records-all n ps terms rising members each =
    term_records n ps terms (recursion_from_All _ terms each)
    ∙ ap (map (term_record n ps))
    (rising_terms-unique (map (λ p. p.term) ps) (texts_of terms) rising members)
