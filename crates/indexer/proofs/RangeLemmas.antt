-- Lists of calls number by number, up to one of them.
use Rattle.std.proofs.Common.{◌≡◌, ℕ, zero, suc, ◌+◌, ◌-◌, ◌<◌, List, [], ◌∷◌, ◌++◌, length, map, refl}
use Rattle.std.proofs.Common.{ap, ◌∙◌, arith, append-nil}
use Rattle.std.specs.List.{flat_map, range_with_len}
use Rattle.std.proofs.lemmas.Grind.{flat_map-append}
use Rattle.std.proofs.lemmas.List.{map-append}
use Rattle.indexer.specs.BuildCalls.{shard_numbers}

pub shard_numbers-is : shard_numbers ≡ range_with_len 0 16
unfolding shard_numbers
shard_numbers-is = refl

pub length-shard_numbers : length shard_numbers ≡ 16
unfolding shard_numbers
length-shard_numbers = refl

-- some numbers, and those behind them
range-parts : (a k m : ℕ)
    → range_with_len a (k + m) ≡ range_with_len a k ++ range_with_len (a + k) m
range-parts a zero m =
    let none : 0 + m ≡ m = omega arith in
    let same : a ≡ a + 0 = omega arith in
    ap (range_with_len a) none ∙ ap (λ b. range_with_len b m) same
range-parts a (suc k) m =
    let count : suc k + m ≡ suc (k + m) = omega arith in
    let place : a + 1 + k ≡ a + suc k = omega arith in
    ap (range_with_len a) count
    ∙ ap (λ ks. a ∷ ks) (range-parts (a + 1) k m
    ∙ ap (λ b. range_with_len (a + 1) k ++ range_with_len b m) place)

-- the numbers behind one of the first n
abbrev pub behind : ℕ → ℕ → List ℕ
behind k n = range_with_len (k + 1) (n - (k + 1))

-- the first n are those before one of them, this one, and those behind it
pub range-at : (k n : ℕ) → k < n → range_with_len 0 n ≡ range_with_len 0 k ++ k ∷ behind k n
range-at k n within =
    let count : n ≡ k + suc (n - (k + 1)) = omega arith in
    let place : 0 + k ≡ k = omega arith in
    ap (range_with_len 0) count
    ∙ range-parts 0 k (suc (n - (k + 1)))
    ∙ ap (λ b. range_with_len 0 k ++ range_with_len b (suc (n - (k + 1)))) place

pub range-more : (k : ℕ) → range_with_len 0 (k + 1) ≡ range_with_len 0 k ++ k ∷ []
range-more k =
    let place : 0 + k ≡ k = omega arith in
    range-parts 0 k 1 ∙ ap (λ b. range_with_len 0 k ++ b ∷ []) place

module _ {A : Type 0} (f : ℕ → A) where
  pub map-range-at : (k n : ℕ) → k < n
      → map f (range_with_len 0 n) ≡ map f (range_with_len 0 k) ++ f k ∷ map f (behind k n)
  map-range-at k n within =
      ap (map f) (range-at k n within) ∙ map-append f (range_with_len 0 k) (k ∷ behind k n)

  pub map-range-more : (k : ℕ)
      → map f (range_with_len 0 (k + 1)) ≡ map f (range_with_len 0 k) ++ f k ∷ []
  map-range-more k = ap (map f) (range-more k) ∙ map-append f (range_with_len 0 k) (k ∷ [])

module _ {A : Type 0} (f : ℕ → List A) where
  pub flat_map-range-at : (k n : ℕ) → k < n
      → flat_map f (range_with_len 0 n)
      ≡ flat_map f (range_with_len 0 k) ++ (f k ++ flat_map f (behind k n))
  flat_map-range-at k n within =
      ap (flat_map f) (range-at k n within) ∙ flat_map-append f (range_with_len 0 k) (k ∷ behind k n)

  pub flat_map-range-more : (k : ℕ)
      → flat_map f (range_with_len 0 (k + 1)) ≡ flat_map f (range_with_len 0 k) ++ f k
  flat_map-range-more k =
      ap (flat_map f) (range-more k)
      ∙ flat_map-append f (range_with_len 0 k) (k ∷ [])
      ∙ ap (λ more. flat_map f (range_with_len 0 k) ++ more) (append-nil (f k))
