-- The words and the positions of terms by their numbers.
use Rattle.std.proofs.Common.{◌≡◌, ◌≢◌, ℕ, suc, ◌+◌, ◌-◌, ◌<◌, ◌≤◌, List, [], ◌∷◌, length}
use Rattle.std.proofs.Common.{true, false, cond, map, get_or, refl, sym, ap, ap₂, ◌∙◌, arith}
use Rattle.std.proofs.Common.{filter, subst, ⊎_elim}
use Rattle.std.specs.Prelude.{◌&&◌, ◌==◌, nat_lt, nat_le}
use Rattle.std.specs.List.{enumerate_from, All}
use Rattle.std.specs.Str.{bytes_eq}
use Rattle.std.proofs.lemmas.Bool.{cases_eq, cases_lt, false_from_ne_true}
use Rattle.std.proofs.lemmas.Grind.{common_steps}
use Rattle.std.proofs.lemmas.List.{length-map}
use Rattle.std.proofs.lemmas.List.Folds.{list_any_at}
use Rattle.std.proofs.lemmas.List.Sums.{sum_by-cons}
use Rattle.std.proofs.lemmas.Slice.Eq.{bytes_eq-Decides}
use Rattle.index_definitions.specs.PostingLists.{RisesAbove, ArePositions}
use Rattle.index_definitions.proofs.ListsLemmas.{list_any-map, length-filter-some}
use Rattle.text_table.specs.TextTables.{AreDistinct}
use Rattle.index_definitions.specs.Words.{Word, positions_of}
use Rattle.document_terms.specs.kept.Numbers.{word_at, words_from}
use Rattle.document_terms.specs.kept.Groups.{positions_at, count_through}
use Rattle.document_terms.specs.Counted.{AreTermsOf}
use Rattle.document_terms.proofs.NumberingLemmas.{is_counted}
use Rattle.document_terms.proofs.GroupsLemmas.{position_of}

-- ---- how many words there are

counted_one : (k n : ℕ) → n ≤ k → (nat_lt 0 n && nat_le n k) ≡ nat_lt 0 n
counted_one k n within = grind (arith, common_steps)

length_counted :
    (k m : ℕ) (ns : List ℕ) → All (λ n. n ≤ k) ns
    → count_through k ns ≡ length (filter is_counted (enumerate_from m ns))
length_counted k m [] within = refl
length_counted k m (n ∷ ns) within =
    let rest = length_counted k (m + 1) ns (λ i d below. within (suc i) d (omega arith)) in
    sum_by-cons (λ n. cond (nat_lt 0 n && nat_le n k) 1 0) n ns
    ∙ ap₂ (λ b c. cond b 1 0 + c) (counted_one k n (within 0 n (omega arith))) rest
    ∙ elim (nat_lt 0 n) as (λ b.
    cond b 1 0 + length (filter is_counted (enumerate_from (m + 1) ns))
    ≡ length (cond b ((m, n) ∷ filter is_counted (enumerate_from (m + 1) ns))
    (filter is_counted (enumerate_from (m + 1) ns)))) [
      | true ↦ omega arith
      | false ↦ omega arith
    ]

pub length-words_from :
    (ts : List (List ℕ)) (ns : List ℕ) → All (λ n. n ≤ length ts) ns
    → count_through (length ts) ns ≡ length (words_from ts ns)
length-words_from ts ns within =
    length_counted (length ts) 1 ns within
    ∙ sym (length-map (filter is_counted (enumerate_from 1 ns)) (word_at ts))

-- ---- the positions of a term are those of its number

module _ (ts : List (List ℕ)) (distinct : AreDistinct ts) (k : ℕ) (has : k < length ts) where
  -- a number is a term's where the texts are equal
  same_number : (n : ℕ) → 0 < n → n ≤ length ts
      → bytes_eq (get_or ts k []) (get_or ts (n - 1) []) ≡ (n == k + 1)
  same_number n some within =
      ⊎_elim
      (λ (here : n ≡ k + 1).
      let place : n - 1 ≡ k = omega arith in
      let yes : (n == k + 1) ≡ true = grind (arith, common_steps) in
      ap (λ i. bytes_eq (get_or ts k []) (get_or ts i [])) place
      ∙ (bytes_eq-Decides (get_or ts k []) (get_or ts k [])).1 refl
      ∙ sym yes)
      (λ (other : n ≢ k + 1).
      let no : (n == k + 1) ≡ false = grind (arith, common_steps) in
      false_from_ne_true (bytes_eq (get_or ts k []) (get_or ts (n - 1) [])) (λ equal.
      let same = (bytes_eq-Decides (get_or ts k []) (get_or ts (n - 1) [])).0 equal in
      ⊎_elim
      (λ (before : k < n - 1). distinct k (n - 1) [] before (omega arith) same)
      (λ (after : n - 1 ≤ k). distinct (n - 1) k [] (omega arith) has (sym same))
      (cases_lt k (n - 1)))
      ∙ sym no)
      (cases_eq n (k + 1))

  positions_same : (m : ℕ) (ns : List ℕ) → All (λ n. n ≤ length ts) ns
      → map position_of (filter (λ e. e.1 == k + 1) (enumerate_from m ns))
      ≡ positions_of (get_or ts k [])
      (map (word_at ts) (filter is_counted (enumerate_from m ns)))
  positions_same m [] within = refl
  positions_same m (n ∷ ns) within =
      let rest = positions_same (m + 1) ns (λ i d below. within (suc i) d (omega arith)) in
      let es = enumerate_from (m + 1) ns in
      let t = get_or ts k [] in
      elim (nat_lt 0 n) as (λ b. nat_lt 0 n ≡ b
      → map position_of (cond (n == k + 1) ((m, n) ∷ filter (λ (e : ℕ × ℕ). e.1 == k + 1) es)
      (filter (λ (e : ℕ × ℕ). e.1 == k + 1) es))
      ≡ positions_of t (map (word_at ts) (cond b ((m, n) ∷ filter is_counted es)
      (filter is_counted es)))) [
        | true ↦ λ yes.
            let some : 0 < n = grind (arith, common_steps) in
            let number = same_number n some (within 0 n (omega arith)) in
            elim (n == k + 1) as (λ b. (n == k + 1) ≡ b
            → map position_of (cond b ((m, n) ∷ filter (λ (e : ℕ × ℕ). e.1 == k + 1) es)
            (filter (λ (e : ℕ × ℕ). e.1 == k + 1) es))
            ≡ map (λ (w : Word). w.0) (cond (bytes_eq t (get_or ts (n - 1) []))
            (word_at ts (m, n) ∷ filter (λ (w : Word). bytes_eq t w.1)
            (map (word_at ts) (filter is_counted es)))
            (filter (λ (w : Word). bytes_eq t w.1) (map (word_at ts) (filter is_counted es))))) [
              | true ↦ λ is.
                  ap (λ ps. m ∷ ps) rest
                  ∙ ap (λ b. map (λ (w : Word). w.0) (cond b
                  (word_at ts (m, n) ∷ filter (λ (w : Word). bytes_eq t w.1)
                  (map (word_at ts) (filter is_counted es)))
                  (filter (λ (w : Word). bytes_eq t w.1)
                  (map (word_at ts) (filter is_counted es)))))
                  (sym (number ∙ is))
              | false ↦ λ is.
                  rest
                  ∙ ap (λ b. map (λ (w : Word). w.0) (cond b
                  (word_at ts (m, n) ∷ filter (λ (w : Word). bytes_eq t w.1)
                  (map (word_at ts) (filter is_counted es)))
                  (filter (λ (w : Word). bytes_eq t w.1)
                  (map (word_at ts) (filter is_counted es)))))
                  (sym (number ∙ is))
            ] refl
        | false ↦ λ no.
            let none : (n == k + 1) ≡ false = grind (arith, common_steps) in
            ap (λ b. map position_of (cond b ((m, n) ∷ filter (λ (e : ℕ × ℕ). e.1 == k + 1) es)
            (filter (λ (e : ℕ × ℕ). e.1 == k + 1) es))) none
            ∙ rest
      ] refl

  pub positions_of-number : (ns : List ℕ) → All (λ n. n ≤ length ts) ns
      → positions_at (k + 1) ns ≡ positions_of (get_or ts k []) (words_from ts ns)
  positions_of-number ns within = positions_same 1 ns within

-- ---- positions rise

positions_rise :
    (k low m : ℕ) (ns : List ℕ) → low < m
    → RisesAbove low (map position_of (filter (λ e. e.1 == k) (enumerate_from m ns)))
positions_rise k low m [] below = tt
positions_rise k low m (n ∷ ns) below =
    let es = enumerate_from (m + 1) ns in
    elim (n == k) as (λ b.
    RisesAbove low (map position_of (cond b ((m, n) ∷ filter (λ (e : ℕ × ℕ). e.1 == k) es)
    (filter (λ (e : ℕ × ℕ). e.1 == k) es)))) [
      | true ↦ (below, positions_rise k m (m + 1) ns (omega arith))
      | false ↦ positions_rise k low (m + 1) ns (omega arith)
    ]

-- each term has some
pub ArePositions-of :
    (ts : List (List ℕ)) (ns : List ℕ) (k : ℕ)
    → AreTermsOf ts (words_from ts ns) → All (λ n. n ≤ length ts) ns → k < length ts
    → ArePositions (positions_of (get_or ts k []) (words_from ts ns))
ArePositions-of ts ns k are within has =
    let t = get_or ts k [] in
    let itself = list_any_at (bytes_eq t) ts k [] has ((bytes_eq-Decides t t).1 refl) in
    let some = length-filter-some (λ (w : Word). bytes_eq t w.1) (words_from ts ns)
    (sym (list_any-map (bytes_eq t) (λ (w : Word). w.1) (words_from ts ns))
    ∙ sym (are.members t) ∙ itself) in
    record {
      some = rw (length-map (filter (λ (w : Word). bytes_eq t w.1) (words_from ts ns))
          (λ (w : Word). w.0)) some;
      rise = subst (RisesAbove 0) (positions_of-number ts are.distinct k has ns within)
          (positions_rise (k + 1) 0 1 ns (omega arith));
    }
