-- One element of a list is changed.
use Rattle.std.proofs.Common.{◌≡◌, ℕ, zero, suc, Some, List, [], ◌∷◌, map, length, refl, sym, ap, ◌∙◌, arith}
use Rattle.std.specs.Prelude.{slice_get, slice_set}
use Rattle.std.proofs.lemmas.List.{set-get_or}
use Rattle.std.proofs.lemmas.Option.{same_Some, get_or_from_slice_get}

module _ {A : Type 0} where
  pub get-set : (xs : List A) (i : ℕ) (x y : A) → slice_get xs i ≡ Some x →
      slice_get (slice_set xs i y) i ≡ Some y
  get-set [] i x y here = absurd cc
  get-set (first ∷ xs) zero x y here = refl
  get-set (first ∷ xs) (suc i) x y here = get-set xs i x y here

  pub get-set_other : (xs : List A) (i n : ℕ) (y : A) → (n ≡ i → ⊥) →
      slice_get (slice_set xs i y) n ≡ slice_get xs n
  get-set_other [] i n y differs = refl
  get-set_other (x ∷ xs) zero zero y differs = absurd (differs refl)
  get-set_other (x ∷ xs) zero (suc n) y differs = refl
  get-set_other (x ∷ xs) (suc i) zero y differs = refl
  get-set_other (x ∷ xs) (suc i) (suc n) y differs =
      get-set_other xs i n y (λ e. differs (omega (arith, e)))

  pub set_same : (xs : List A) (i : ℕ) (x : A) → slice_get xs i ≡ Some x →
      slice_set xs i x ≡ xs
  set_same xs i x here =
      ap (slice_set xs i) (sym (get_or_from_slice_get xs i x x here)) ∙ set-get_or xs i x

module _ {A B : Type 0} (f g : A → B) where
  pub map_same : (xs : List A) → ((n : ℕ) (x : A) → slice_get xs n ≡ Some x → g x ≡ f x) →
      map g xs ≡ map f xs
  map_same [] same = refl
  map_same (x ∷ xs) same =
      rw (same 0 x refl) (ap (λ rest. f x ∷ rest) (map_same xs (λ n y is. same (suc n) y is)))

  -- a map of a list with one element changed, where all others are mapped alike
  pub map_one : (xs : List A) (o : ℕ) (new : A) →
      ((n : ℕ) (x : A) → slice_get xs n ≡ Some x → (n ≡ o → ⊥) → g x ≡ f x) →
      map g (slice_set xs o new) ≡ slice_set (map f xs) o (g new)
  map_one [] o new same = refl
  map_one (x ∷ xs) zero new same =
      ap (λ rest. g new ∷ rest)
      (map_same xs (λ n y is. same (suc n) y is (λ e. omega (arith, e))))
  map_one (x ∷ xs) (suc o) new same =
      rw (same 0 x refl (λ e. omega (arith, e))) (ap (λ rest. f x ∷ rest)
      (map_one xs o new (λ n y is differs. same (suc n) y is (λ e. differs (omega (arith, e))))))

-- two lists that are mapped alike, place by place
pub map_both : {A B : Type 0} (f g : A → B) (xs ys : List A) → length ys ≡ length xs →
    ((n : ℕ) (x y : A) → slice_get xs n ≡ Some x → slice_get ys n ≡ Some y → g y ≡ f x) →
    map g ys ≡ map f xs
map_both f g [] [] count same = refl
map_both f g [] (y ∷ ys) count same = absurd (omega (arith, count))
map_both f g (x ∷ xs) [] count same = absurd (omega (arith, count))
map_both f g (x ∷ xs) (y ∷ ys) count same =
    rw (same 0 x y refl refl) (ap (λ rest. f x ∷ rest)
    (map_both f g xs ys (omega (arith, count)) (λ n a b here there. same (suc n) a b here there)))
