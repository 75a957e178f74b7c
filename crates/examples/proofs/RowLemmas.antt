-- Sums of rows, cell by cell.
use Rattle.std.proofs.Common.{◌≡◌, ℕ, zero, suc, ◌+◌, ◌%◌, ◌^◌, ◌<◌, ◌≤◌, ◌⊎◌, ⊎_elim, inl, inr}
use Rattle.std.proofs.Common.{List, [], ◌∷◌, length, get_or, take, min}
use Rattle.std.proofs.Common.{refl, sym, ap, ◌∙◌, arith}
use Rattle.std.specs.Prelude.{slice_set}
use Rattle.std.proofs.lemmas.Bool.{cases_lt}
use Rattle.examples.specs.Grids.{row_sum}

pub row_sum-nothing : (row : List ℕ) → row_sum row [] ≡ row
row_sum-nothing [] = refl
row_sum-nothing (cell ∷ row) = refl

-- one cell more is added
pub row_sum-more : (row other : List ℕ) (i : ℕ) → i < length row → i < length other
    → slice_set (row_sum row (take i other)) i
    ((get_or (row_sum row (take i other)) i 0 + get_or other i 0) % 2 ^ 64)
    ≡ row_sum row (take (i + 1) other)
row_sum-more [] other i there more = absurd (omega arith)
row_sum-more (c ∷ row) [] i there more = absurd (omega arith)
row_sum-more (c ∷ row) (m ∷ other) zero there more =
    ap (λ rest. (c + m) % 2 ^ 64 ∷ rest) (sym (row_sum-nothing row))
row_sum-more (c ∷ row) (m ∷ other) (suc i) there more =
    let same : suc i + 1 ≡ suc (i + 1) = omega arith in
    ap (λ rest. (c + m) % 2 ^ 64 ∷ rest)
    (row_sum-more row other i (omega arith) (omega arith))
    ∙ ap (λ k. row_sum (c ∷ row) (take k (m ∷ other))) (sym same)

-- all are
pub row_sum-all : (row other : List ℕ) (i : ℕ) → (length row ≤ i) ⊎ (length other ≤ i)
    → row_sum row (take i other) ≡ row_sum row other
row_sum-all [] other i all = refl
row_sum-all (c ∷ row) [] zero all = refl
row_sum-all (c ∷ row) [] (suc i) all = refl
row_sum-all (c ∷ row) (m ∷ other) zero all =
    ⊎_elim (λ h. absurd (omega arith)) (λ h. absurd (omega arith)) all
row_sum-all (c ∷ row) (m ∷ other) (suc i) all =
    ap (λ rest. (c + m) % 2 ^ 64 ∷ rest)
    (row_sum-all row other i (⊎_elim (λ h. inl (omega arith)) (λ h. inr (omega arith)) all))

-- one of two numbers is reached where the least of them is
pub either_reached : (a b i : ℕ) → min a b ≤ i → (a ≤ i) ⊎ (b ≤ i)
either_reached a b i reached = ⊎_elim
    (λ before. inl (omega arith)) (λ behind. inr (omega arith)) (cases_lt a b)
