-- Lists of calls number by number, and values at their places.
use Rattle.std.proofs.Common.{◌≡◌, ℕ, zero, suc, ◌+◌, List, [], ◌∷◌, ◌++◌, length, map, refl, ap, ◌∙◌}
use Rattle.std.proofs.Common.{arith, sym, append-nil, append_assoc, Some}
use Rattle.std.specs.Prelude.{slice_get, slice_set, fold}
use Rattle.std.specs.List.{AllByRecursion, range_with_len}
use Rattle.std.proofs.lemmas.List.{map-append}
use Rattle.execution_definitions.specs.declared.serializer.By.{By}
use Rattle.execution_definitions.specs.declared.call.Call.TheVariants.{Make}
use Rattle.execution_definitions.specs.Meanings.{Meaning}
use Rattle.execution_definitions.specs.Sequential.{State, state_after}
use Rattle.execution_definitions.proofs.lists.ListLemmas.{slice_get-append_seam}

-- ---- numbers

-- some numbers, and those behind them
range-parts : (a k m : ℕ)
    → range_with_len a (k + m) ≡ range_with_len a k ++ range_with_len (a + k) m
range-parts a zero m =
    let none : 0 + m ≡ m = omega arith in
    let same : a ≡ a + 0 = omega arith in
    ap (range_with_len a) none ∙ ap (λ b. range_with_len b m) same
range-parts a (suc k) m =
    let count : suc k + m ≡ suc (k + m) = omega arith in
    let place : a + 1 + k ≡ a + suc k = omega arith in
    ap (range_with_len a) count
    ∙ ap (λ ks. a ∷ ks) (range-parts (a + 1) k m
    ∙ ap (λ b. range_with_len (a + 1) k ++ range_with_len b m) place)

pub range-more : (k : ℕ) → range_with_len 0 (k + 1) ≡ range_with_len 0 k ++ k ∷ []
range-more k =
    let place : 0 + k ≡ k = omega arith in
    range-parts 0 k 1 ∙ ap (λ b. range_with_len 0 k ++ b ∷ []) place

pub map-range-more : {A : Type 0} (f : ℕ → A) (k : ℕ)
    → map f (range_with_len 0 (k + 1)) ≡ map f (range_with_len 0 k) ++ f k ∷ []
map-range-more f k = ap (map f) (range-more k) ∙ map-append f (range_with_len 0 k) (k ∷ [])

-- ---- what holds of each item

pub all-map : {A B : Type 0} (P : B → Type 0) (f : A → B) (xs : List A)
    → AllByRecursion (λ x. P (f x)) xs → AllByRecursion P (map f xs)
all-map P f [] all = tt
all-map P f (x ∷ xs) all = (all.0, all-map P f xs all.1)

pub all-append : {A : Type 0} (P : A → Type 0) (xs ys : List A)
    → AllByRecursion P xs → AllByRecursion P ys → AllByRecursion P (xs ++ ys)
all-append P [] ys first second = second
all-append P (x ∷ xs) ys first second = (first.0, all-append P xs ys first.1 second)

pub all-any : {A : Type 0} (P : A → Type 0) (xs : List A) → ((x : A) → P x) → AllByRecursion P xs
all-any P [] each = tt
all-any P (x ∷ xs) each = (each x, all-any P xs each)

-- ---- values

slice_set-append_seam : {A : Type 0} (xs : List A) (x y : A) (ys : List A)
    → slice_set (xs ++ x ∷ ys) (length xs) y ≡ xs ++ y ∷ ys
slice_set-append_seam [] x y ys = refl
slice_set-append_seam (w ∷ xs) x y ys = ap (λ zs. w ∷ zs) (slice_set-append_seam xs x y ys)

-- the value of an object, and a new one in its place, where so many stand before it
module _ {A : Type 0} (before later : List A) (object : ℕ) (here : length before ≡ object) where
  pub value_at : (value : A) → slice_get (before ++ value ∷ later) object ≡ Some value
  value_at value = rw (← here) (slice_get-append_seam before value later)

  pub put_at : (old new : A)
      → slice_set (before ++ old ∷ later) object new ≡ before ++ new ∷ later
  put_at old new = rw (← here) (slice_set-append_seam before old new later)

-- ---- objects are made

-- the state with these values and this total
abbrev pub state_of : {C R : Type 0} → List C → R → State C R
state_of values total = record { values = values; total = total }

pub left-made : {A C O R : Type 0} (m : Meaning C O R) (f : A → C) (by : By) (xs : List A)
    (values : List C) (total : R)
    → fold (state_after m) (state_of values total) (map (λ x. Make (f x) by) xs)
    ≡ state_of (values ++ map f xs) total
left-made m f by [] values total = ap (λ vs. state_of vs total) (sym (append-nil values))
left-made m f by (x ∷ xs) values total =
    left-made m f by xs (values ++ f x ∷ []) total
    ∙ ap (λ vs. state_of vs total) (append_assoc values (f x ∷ []) (map f xs))
