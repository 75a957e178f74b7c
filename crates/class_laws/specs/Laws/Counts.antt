-- Why do counts have the laws? Since each key's count does, and counts are equal where their
-- look-ups are.
use Rattle.std.specs.Prelude.{◌≡◌, ℕ, List, [], ◌∷◌, ◌++◌, map, ◌+◌, ◌%◌, ◌^◌, Some, None, refl}
use Rattle.std.specs.Prelude.{true, false, cond, ◌||◌, Option, is_some}
use Rattle.std.specs.FinMap as finite
use Rattle.std.specs.FinMap.{find}
use Rattle.std.specs.List.{list_any}
use Rattle.std.specs.Option.{unwrap_or}
use Rattle.std.specs.Ordering.{eq_by_cmp}
use Rattle.std.proofs.Common.{sym, ◌∙◌, ap, ap₂, arith}
use Rattle.std.proofs.lemmas.List.Folds.{list_any-append}
use Rattle.std.proofs.lemmas.Map.Views.{tells_apart}
pub use Rattle.text_table.proofs.TextMapsLemmas.{text_order_total, text_order_exact}
use Rattle.class_laws.specs.Laws.{ReducibleLaws}
use Rattle.class_laws.specs.Counts.{Counts, text_order, count_of, sum_of_counts, counts_join}

-- ---- look-ups

-- counts with the same look-ups are equal
pub same_counts : (a b : Counts) → ((q : List ℕ) → finite.get a q ≡ finite.get b q) → a ≡ b
same_counts a b is = finite.same_map text_order_total text_order_exact a b is

-- what a key has after a join, from what it has in each map
abbrev pub count_after_join : Option ℕ → Option ℕ → Option ℕ
count_after_join None None = None
count_after_join None (Some b) = Some (b % (2 ^ 64))
count_after_join (Some a) None = Some (a % (2 ^ 64))
count_after_join (Some a) (Some b) = Some ((a + b) % (2 ^ 64))

-- a look-up among keys that have what f gives them
find-map : (f : List ℕ → ℕ) (q : List ℕ) (ks : List (List ℕ))
    → find text_order q (map (λ k. (k, f k)) ks)
    ≡ cond (list_any (eq_by_cmp text_order q) ks) (Some (f q)) None
find-map f q [] = refl
find-map f q (k ∷ ks) =
    let others = list_any (eq_by_cmp text_order q) ks in
    elim (eq_by_cmp text_order q k) as (λ b. eq_by_cmp text_order q k ≡ b
    → cond b (Some (f k)) (find text_order q (map (λ x. (x, f x)) ks))
    ≡ cond (b || others) (Some (f q)) None) [
      | true ↦ λ same. ap (λ x. Some (f x)) (sym (tells_apart text_order_exact q k same))
      | false ↦ λ _. find-map f q ks
    ] refl

count_by_cases : (x y : Option ℕ)
    → cond (is_some x || is_some y) (Some ((unwrap_or x 0 + unwrap_or y 0) % (2 ^ 64))) None
    ≡ count_after_join x y
count_by_cases None None = refl
count_by_cases None (Some b) = ap (λ n. Some (n % (2 ^ 64))) (omega arith)
count_by_cases (Some a) None = ap (λ n. Some (n % (2 ^ 64))) (omega arith)
count_by_cases (Some a) (Some b) = refl

pub get-counts_join : (a b : Counts) (q : List ℕ)
    → finite.get (counts_join a b) q ≡ count_after_join (finite.get a q) (finite.get b q)
unfolding counts_join
get-counts_join a b q =
    let ks = finite.keys a ++ finite.keys b in
    let is_key = eq_by_cmp text_order q in
    finite.get-from_entries text_order_total (map (λ k. (k, sum_of_counts a b k)) ks) q
    ∙ find-map (sum_of_counts a b) q ks
    ∙ ap (λ t. cond t (Some (sum_of_counts a b q)) None)
    (list_any-append is_key (finite.keys a) (finite.keys b)
    ∙ ap₂ (λ s t. s || t)
    (sym (finite.contains_key-keys a q)) (sym (finite.contains_key-keys b q)))
    ∙ count_by_cases (finite.get a q) (finite.get b q)

-- ---- what a join has at a key

unwrap_or-count_after_join : (x y : Option ℕ)
    → unwrap_or (count_after_join x y) 0 ≡ (unwrap_or x 0 + unwrap_or y 0) % (2 ^ 64)
unwrap_or-count_after_join None None = refl
unwrap_or-count_after_join None (Some b) = omega arith
unwrap_or-count_after_join (Some a) None = omega arith
unwrap_or-count_after_join (Some a) (Some b) = refl

is_some-count_after_join : (x y : Option ℕ)
    → is_some (count_after_join x y) ≡ (is_some x || is_some y)
is_some-count_after_join None None = refl
is_some-count_after_join None (Some b) = refl
is_some-count_after_join (Some a) None = refl
is_some-count_after_join (Some a) (Some b) = refl

-- the sum of its two counts
pub count_of-counts_join : (a b : Counts) (q : List ℕ)
    → count_of (counts_join a b) q ≡ sum_of_counts a b q
count_of-counts_join a b q =
    ap (λ x. unwrap_or x 0) (get-counts_join a b q)
    ∙ unwrap_or-count_after_join (finite.get a q) (finite.get b q)

-- a key that either map has
pub contains_key-counts_join : (a b : Counts) (q : List ℕ)
    → finite.contains_key (counts_join a b) q
    ≡ (finite.contains_key a q || finite.contains_key b q)
contains_key-counts_join a b q =
    ap is_some (get-counts_join a b q)
    ∙ is_some-count_after_join (finite.get a q) (finite.get b q)

-- ---- the laws, of a key and of the map

count_commutative : (x y : Option ℕ) → count_after_join x y ≡ count_after_join y x
count_commutative None None = refl
count_commutative None (Some b) = refl
count_commutative (Some a) None = refl
count_commutative (Some a) (Some b) = ap (λ n. Some (n % (2 ^ 64))) (omega arith)

count_associative : (x y z : Option ℕ)
    → count_after_join x (count_after_join y z) ≡ count_after_join (count_after_join x y) z
count_associative None None None = refl
count_associative None None (Some c) = ap Some (omega arith)
count_associative None (Some b) None = refl
count_associative None (Some b) (Some c) = ap Some (omega arith)
count_associative (Some a) None None = ap Some (omega arith)
count_associative (Some a) None (Some c) = ap Some (omega arith)
count_associative (Some a) (Some b) None = ap Some (omega arith)
count_associative (Some a) (Some b) (Some c) = ap Some (omega arith)

nothing_joined : (x y : Option ℕ)
    → count_after_join (count_after_join x y) None ≡ count_after_join x y
nothing_joined None None = refl
nothing_joined None (Some b) = ap Some (omega arith)
nothing_joined (Some a) None = ap Some (omega arith)
nothing_joined (Some a) (Some b) = ap Some (omega arith)

get-empty : (q : List ℕ) → finite.get (finite.empty {X = ℕ} {R = text_order}) q ≡ None
get-empty q = finite.get-empty text_order q

pub counts_laws : ReducibleLaws (finite.empty {X = ℕ} {R = text_order}) counts_join
counts_laws = record {
  associative = λ a b c. same_counts _ _ (λ q.
      get-counts_join a (counts_join b c) q
      ∙ ap (count_after_join (finite.get a q)) (get-counts_join b c q)
      ∙ count_associative (finite.get a q) (finite.get b q) (finite.get c q)
      ∙ sym (get-counts_join (counts_join a b) c q
      ∙ ap (λ x. count_after_join x (finite.get c q)) (get-counts_join a b q)));
  commutative = λ a b. same_counts _ _ (λ q.
      get-counts_join a b q
      ∙ count_commutative (finite.get a q) (finite.get b q)
      ∙ sym (get-counts_join b a q));
  unit_of_unit = same_counts _ _ (λ q.
      get-counts_join finite.empty finite.empty q
      ∙ ap₂ count_after_join (get-empty q) (get-empty q)
      ∙ sym (get-empty q));
  unit_of_join = λ a b. same_counts _ _ (λ q.
      get-counts_join (counts_join a b) finite.empty q
      ∙ ap₂ count_after_join (get-counts_join a b q) (get-empty q)
      ∙ nothing_joined (finite.get a q) (finite.get b q)
      ∙ sym (get-counts_join a b q));
}
