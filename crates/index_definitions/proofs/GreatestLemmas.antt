-- The greatest of what items come to.
use Rattle.std.proofs.Common.{◌≡◌, ℕ, zero, suc, ◌<◌, ◌≤◌, List, [], ◌∷◌, ◌++◌, length, max, fold}
use Rattle.std.proofs.Common.{Bool, true, false, get_or, set, refl, ap, ◌∙◌, arith}
use Rattle.std.specs.Prelude.{◌||◌}
use Rattle.std.specs.List.{list_any, All}

-- the greatest, or m if that is greater
abbrev pub greatest : {A : Type 0} → (A → ℕ) → ℕ → List A → ℕ
greatest f m xs = fold (λ n x. max n (f x)) m xs

pub greatest-le :
    {A : Type 0} (f : A → ℕ) (m b : ℕ) (xs : List A)
    → m ≤ b → All (λ x. f x ≤ b) xs → greatest f m xs ≤ b
greatest-le f m b [] within all = within
greatest-le f m b (x ∷ xs) within all =
    let first : f x ≤ b = all 0 x (omega arith) in
    greatest-le f (max m (f x)) b xs (omega arith) (λ i d below. all (suc i) d (omega arith))

pub from-le : {A : Type 0} (f : A → ℕ) (v m : ℕ) (xs : List A) → v ≤ m → v ≤ greatest f m xs
from-le f v m [] within = within
from-le f v m (x ∷ xs) within = from-le f v (max m (f x)) xs (omega arith)

-- an item that passes the test is no greater
pub le-greatest :
    {A : Type 0} (f : A → ℕ) (p : A → Bool) (v m : ℕ) (xs : List A)
    → ((x : A) → p x ≡ true → v ≤ f x) → list_any p xs ≡ true → v ≤ greatest f m xs
le-greatest f p v m [] each some = cc
le-greatest f p v m (x ∷ xs) each some =
    elim (p x) as (λ b. p x ≡ b → (b || list_any p xs) ≡ true → v ≤ greatest f m (x ∷ xs)) [
      | true ↦ λ yes _.
          let least = each x yes in
          from-le f v (max m (f x)) xs (omega arith)
      | false ↦ λ no rest. le-greatest f p v (max m (f x)) xs each rest
    ] refl some

-- one item more
pub greatest-push :
    {A : Type 0} (f : A → ℕ) (m : ℕ) (xs : List A) (x : A)
    → greatest f m (xs ++ x ∷ []) ≡ max (greatest f m xs) (f x)
greatest-push f m [] x = refl
greatest-push f m (y ∷ xs) x = greatest-push f (max m (f y)) xs x

pub greatest-max : {A : Type 0} (f : A → ℕ) (a b : ℕ) (xs : List A)
    → greatest f (max a b) xs ≡ max (greatest f a xs) b
greatest-max f a b [] = refl
greatest-max f a b (x ∷ xs) =
    let turned : max (max a b) (f x) ≡ max (max a (f x)) b = omega arith in
    ap (λ m. greatest f m xs) turned ∙ greatest-max f (max a (f x)) b xs

greater : (a b c : ℕ) → b ≤ c → max a c ≡ max (max a b) c
greater a b c within = omega arith

pub greatest-set : {A : Type 0} (f : A → ℕ) (m : ℕ) (xs : List A) (n : ℕ) (y d : A)
    → n < length xs → f (get_or xs n d) ≤ f y
    → greatest f m (set xs n y) ≡ max (greatest f m xs) (f y)
greatest-set f m [] n y d within more = absurd (omega arith)
greatest-set f m (x ∷ xs) zero y d within more =
    ap (λ k. greatest f k xs) (greater m (f x) (f y) more) ∙ greatest-max f (max m (f x)) (f y) xs
greatest-set f m (x ∷ xs) (suc n) y d within more =
    greatest-set f (max m (f x)) xs n y d (omega arith) more
