-- Elements of lists, and of two lists one behind the other.
use Rattle.std.proofs.Common.{◌≡◌, ℕ, ◌+◌, ◌<◌, ◌≤◌, Some, None, List, [], ◌∷◌, ◌++◌, map, length, take, zero, suc, refl, sym, ap, ◌∙◌, ⊎_elim, arith}
use Rattle.std.specs.Prelude.{slice_get, slice_set}
use Rattle.std.specs.List.{range_with_len}
use Rattle.std.proofs.Math.Seq.{set-append_seam}
use Rattle.std.proofs.lemmas.List.{take_more}
use Rattle.std.proofs.lemmas.Option.{slice_get_cases, slice_get_within, get_or_from_slice_get}

-- a number at which a list has no element is past its end
pub past_none : {X : Type 0} (xs : List X) (i : ℕ) → slice_get xs i ≡ None → length xs ≤ i
past_none xs i none = ⊎_elim (λ w. let some : None ≡ Some w.0 = sym none ∙ w.2 in absurd (cc))
    (λ w. w.0) (slice_get_cases xs i).1

-- an element of the front of a list
pub slice_get-front : {A : Type 0} (xs ys : List A) (i : ℕ) → i < length xs →
    slice_get (xs ++ ys) i ≡ slice_get xs i
slice_get-front [] ys i inside = absurd (omega arith)
slice_get-front (x ∷ xs) ys zero inside = refl
slice_get-front (x ∷ xs) ys (suc i) inside = slice_get-front xs ys i (omega arith)

-- the element behind the front
pub slice_get-append_seam : {A : Type 0} (xs : List A) (y : A) (ys : List A) →
    slice_get (xs ++ y ∷ ys) (length xs) ≡ Some y
slice_get-append_seam [] y ys = refl
slice_get-append_seam (x ∷ xs) y ys = slice_get-append_seam xs y ys

-- the first of a list stands at the end of a front before it
pub seam_get : {A : Type 0} (xs ys : List A) (y : A) → slice_get ys 0 ≡ Some y →
    slice_get (xs ++ ys) (length xs) ≡ Some y
seam_get xs [] y some = absurd cc
seam_get xs (first ∷ rest) y some = slice_get-append_seam xs first rest ∙ some

-- and is changed there
pub seam_set : {A : Type 0} (xs ys : List A) (y new : A) → slice_get ys 0 ≡ Some y →
    slice_set (xs ++ ys) (length xs) new ≡ xs ++ slice_set ys 0 new
seam_set xs [] y new some = absurd cc
seam_set xs (first ∷ rest) y new some = set-append_seam xs first rest new

-- a front and the element behind it
pub take-next : {A : Type 0} (xs : List A) (k : ℕ) (x : A) → slice_get xs k ≡ Some x →
    take (k + 1) xs ≡ take k xs ++ x ∷ []
take-next xs k x is =
    take_more xs k x (slice_get_within xs k x is)
    ∙ ap (λ y. take k xs ++ y ∷ []) (get_or_from_slice_get xs k x x is)

-- functions that agree from a number on, over a range from there
pub map_range-pointwise : {A : Type 0} (f g : ℕ → A) (start count : ℕ) →
    ((i : ℕ) → start ≤ i → f i ≡ g i) →
    map f (range_with_len start count) ≡ map g (range_with_len start count)
map_range-pointwise f g start zero same = refl
map_range-pointwise f g start (suc n) same =
    rw (
      same start (omega arith),
      map_range-pointwise f g (start + 1) n (λ i above. same i (omega arith)),
    ) refl
