-- Lists that are filtered, mapped and searched.
use Rattle.std.proofs.Common.{◌≡◌, ◌<◌, Bool, true, false, cond, List, [], ◌∷◌, map, filter, refl}
use Rattle.std.proofs.Common.{ap, length, arith}
use Rattle.std.specs.Prelude.{◌||◌}
use Rattle.std.specs.List.{list_any}

pub filter-map : {A B : Type 0} (p : B → Bool) (f : A → B) (xs : List A)
    → filter p (map f xs) ≡ map f (filter (λ x. p (f x)) xs)
filter-map p f [] = refl
filter-map p f (x ∷ xs) =
    elim (p (f x)) as (λ b. cond b (f x ∷ filter p (map f xs)) (filter p (map f xs))
    ≡ map f (cond b (x ∷ filter (λ y. p (f y)) xs) (filter (λ y. p (f y)) xs)))
    [ true ↦ ap (λ ys. f x ∷ ys) (filter-map p f xs) | false ↦ filter-map p f xs ]

-- a test that doesn't look
pub filter-same : {A : Type 0} (b : Bool) (xs : List A) → filter (λ _. b) xs ≡ cond b xs []
filter-same true [] = refl
filter-same true (x ∷ xs) = ap (λ ys. x ∷ ys) (filter-same true xs)
filter-same false [] = refl
filter-same false (x ∷ xs) = filter-same false xs

pub list_any-map : {A B : Type 0} (p : B → Bool) (f : A → B) (xs : List A)
    → list_any p (map f xs) ≡ list_any (λ x. p (f x)) xs
list_any-map p f [] = refl
list_any-map p f (x ∷ xs) = ap (λ b. p (f x) || b) (list_any-map p f xs)

-- a test that doesn't look, of some items
pub list_any-same : {A : Type 0} (b : Bool) (xs : List A) → 0 < length xs → list_any (λ _. b) xs ≡ b
list_any-same true [] some = absurd (omega (arith, some))
list_any-same true (x ∷ xs) some = refl
list_any-same false [] some = refl
list_any-same false (x ∷ []) some = refl
list_any-same false (x ∷ y ∷ xs) some = list_any-same false (y ∷ xs) (omega arith)

-- where one passes, some are left
pub length-filter-some : {A : Type 0} (p : A → Bool) (xs : List A) → list_any p xs ≡ true
    → 0 < length (filter p xs)
length-filter-some p [] any = cc
length-filter-some p (x ∷ xs) any =
    elim (p x) as (λ b. (b || list_any p xs) ≡ true
    → 0 < length (cond b (x ∷ filter p xs) (filter p xs))) [
      | true ↦ λ _. omega arith
      | false ↦ λ rest. length-filter-some p xs rest
    ] any
