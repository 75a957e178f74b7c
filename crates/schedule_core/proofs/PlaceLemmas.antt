-- The calls around a place of a list.
use Rattle.std.proofs.Common.{◌≡◌, ℕ, zero, suc, Some, None, List, [], ◌∷◌, drop, refl, sym, ap}
use Rattle.std.specs.Prelude.{slice_get}

module _ {A : Type 0} where
  -- what comes behind a place
  pub record IsNextAt (xs : List A) (k : ℕ) (x : A) (rest : List A) : Type 0 where
    pub here : slice_get xs k ≡ Some x
    pub behind : rest ≡ drop (suc k) xs

  pub next_at : (xs : List A) (k : ℕ) (x : A) (rest : List A) → drop k xs ≡ x ∷ rest →
      IsNextAt xs k x rest
  next_at [] zero x rest is = absurd cc
  next_at [] (suc k) x rest is = absurd cc
  next_at (y ∷ ys) zero x rest is =
      let same : y ≡ x = cc in
      let left : ys ≡ rest = cc in record { here = ap Some same; behind = sym left }
  next_at (y ∷ ys) (suc k) x rest is =
      let later = next_at ys k x rest is in
      record { here = later.here; behind = later.behind }

  -- nothing is left behind the last place
  pub none_at : (xs : List A) (k : ℕ) → drop k xs ≡ [] → slice_get xs k ≡ None
  none_at [] k is = refl
  none_at (y ∷ ys) zero is = absurd cc
  none_at (y ∷ ys) (suc k) is = none_at ys k is

  pub none_left : (xs : List A) (k : ℕ) → slice_get xs k ≡ None → drop k xs ≡ []
  none_left [] zero is = refl
  none_left [] (suc k) is = refl
  none_left (y ∷ ys) zero is = absurd cc
  none_left (y ∷ ys) (suc k) is = none_left ys k is
