-- All values, where those that aren't at home are given by a function.
use Rattle.std.proofs.Common.{◌≡◌, ℕ, zero, suc, Option, Some, None, List, [], ◌∷◌, ◌++◌, length, map, true, refl, ap, ◌∙◌, arith}
use Rattle.std.specs.Prelude.{slice_get, slice_set, is_some, option_to_list}
use Rattle.std.proofs.lemmas.Option.{same_Some}
use Rattle.lane_core.specs.Cores.{filled}

module _ {C : Type 0} where
  -- each object that isn't at home is given a value
  abbrev pub Covers : (ℕ → Option C) → List (Option C) → Type 0
  Covers away values = (n : ℕ) → slice_get values n ≡ Some None → is_some (away n) ≡ true

  -- functions that give the same
  pub filled-same : (away after : ℕ → Option C) (values : List (Option C)) →
      ((n : ℕ) → after n ≡ away n) → filled after values ≡ filled away values
  filled-same away after [] same = refl
  filled-same away after (Some value ∷ rest) same =
      ap (λ xs. value ∷ xs)
      (filled-same (λ n. away (suc n)) (λ n. after (suc n)) rest (λ n. same (suc n)))
  filled-same away after (None ∷ rest) same =
      rw (same 0, filled-same (λ n. away (suc n)) (λ n. after (suc n)) rest (λ n. same (suc n)))
      refl

  -- a value in front
  set_front : (o : Option C) (value : C) (xs : List C) → is_some o ≡ true →
      value ∷ xs ≡ slice_set (option_to_list o ++ xs) 0 value
  set_front None value xs some = absurd cc
  set_front (Some old) value xs some = refl

  set_behind : (o : Option C) (i : ℕ) (value : C) (xs : List C) → is_some o ≡ true →
      option_to_list o ++ slice_set xs i value
      ≡ slice_set (option_to_list o ++ xs) (suc i) value
  set_behind None i value xs some = absurd cc
  set_behind (Some first) i value xs some = refl

  get_front : (o : Option C) (value : C) (xs : List C) → o ≡ Some value →
      slice_get (option_to_list o ++ xs) 0 ≡ Some value
  get_front o value xs is = rw is refl

  get_behind : (o : Option C) (i : ℕ) (xs : List C) → is_some o ≡ true →
      slice_get (option_to_list o ++ xs) (suc i) ≡ slice_get xs i
  get_behind None i xs some = absurd cc
  get_behind (Some first) i xs some = refl

  -- the value of an object that isn't at home
  pub get-filled : (away : ℕ → Option C) (values : List (Option C)) (i : ℕ) (value : C) →
      Covers away values → slice_get values i ≡ Some None → away i ≡ Some value →
      slice_get (filled away values) i ≡ Some value
  get-filled away [] i value covers here is = absurd cc
  get-filled away (Some first ∷ rest) zero value covers here is = absurd cc
  get-filled away (Some first ∷ rest) (suc i) value covers here is =
      get-filled (λ n. away (suc n)) rest i value (λ n. covers (suc n)) here is
  get-filled away (None ∷ rest) zero value covers here is =
      get_front (away 0) value (filled (λ n. away (suc n)) rest) is
  get-filled away (None ∷ rest) (suc i) value covers here is =
      get_behind (away 0) i (filled (λ n. away (suc n)) rest) (covers 0 refl)
      ∙ get-filled (λ n. away (suc n)) rest i value (λ n. covers (suc n)) here is

  -- another value of one object that isn't at home
  pub filled-put : (away after : ℕ → Option C) (values : List (Option C)) (i : ℕ) (value : C) →
      Covers away values → slice_get values i ≡ Some None → after i ≡ Some value →
      ((n : ℕ) → (n ≡ i → ⊥) → after n ≡ away n) →
      filled after values ≡ slice_set (filled away values) i value
  filled-put away after [] i value covers here is others = absurd cc
  filled-put away after (Some first ∷ rest) zero value covers here is others = absurd cc
  filled-put away after (Some first ∷ rest) (suc i) value covers here is others =
      ap (λ xs. first ∷ xs)
      (filled-put (λ n. away (suc n)) (λ n. after (suc n)) rest i value (λ n. covers (suc n)) here
      is (λ n differs. others (suc n) (λ e. differs (omega (arith, e)))))
  filled-put away after (None ∷ rest) zero value covers here is others =
      let tail = filled-same (λ n. away (suc n)) (λ n. after (suc n)) rest
      (λ n. others (suc n) (λ e. omega (arith, e))) in
      rw (is, tail) (set_front (away 0) value (filled (λ n. away (suc n)) rest) (covers 0 refl))
  filled-put away after (None ∷ rest) (suc i) value covers here is others =
      let same = others 0 (λ e. omega (arith, e)) in
      let tail = filled-put (λ n. away (suc n)) (λ n. after (suc n)) rest i value
      (λ n. covers (suc n)) here is
      (λ n differs. others (suc n) (λ e. differs (omega (arith, e)))) in
      rw (same, tail)
      (set_behind (away 0) i value (filled (λ n. away (suc n)) rest) (covers 0 refl))

  -- a value is at home, or given
  abbrev pub IsGiven : Option C → Option C → C → Type 0
  IsGiven (Some here) away value = here ≡ value
  IsGiven None away value = away ≡ Some value

  filled-first : (away : ℕ → Option C) (here : Option C) (value : C) (values : List (Option C))
      (all : List C) → IsGiven here (away 0) value → filled (λ n. away (suc n)) values ≡ all →
      filled away (here ∷ values) ≡ value ∷ all
  filled-first away (Some here) value values all is rest = rw (is, rest) refl
  filled-first away None value values all is rest = rw (is, rest) refl

  -- the values of objects, each of which is at home or given
  pub filled-all : {A : Type 0} (home : A → Option C) (value : A → C) (away : ℕ → Option C)
      (objects : List A) →
      ((n : ℕ) (object : A) → slice_get objects n ≡ Some object →
      IsGiven (home object) (away n) (value object)) →
      filled away (map home objects) ≡ map value objects
  filled-all home value away [] given = refl
  filled-all home value away (object ∷ objects) given =
      filled-first away (home object) (value object) (map home objects) (map value objects)
      (given 0 object refl)
      (filled-all home value (λ n. away (suc n)) objects (λ n. given (suc n)))

  -- how many values there are
  pub length-filled : (away : ℕ → Option C) (values : List (Option C)) → Covers away values →
      length (filled away values) ≡ length values
  length-filled away [] covers = refl
  length-filled away (Some value ∷ rest) covers =
      ap suc (length-filled (λ n. away (suc n)) rest (λ n. covers (suc n)))
  length-filled away (None ∷ rest) covers =
      one_more (away 0) (filled (λ n. away (suc n)) rest) (covers 0 refl)
      ∙ ap suc (length-filled (λ n. away (suc n)) rest (λ n. covers (suc n)))
    where
      one_more : (o : Option C) (xs : List C) → is_some o ≡ true →
          length (option_to_list o ++ xs) ≡ suc (length xs)
      one_more None xs some = absurd cc
      one_more (Some value) xs some = refl

  -- the value of an object at home
  pub get-filled-home : (away : ℕ → Option C) (values : List (Option C)) (i : ℕ) (value : C) →
      Covers away values → slice_get values i ≡ Some (Some value) →
      slice_get (filled away values) i ≡ Some value
  get-filled-home away [] i value covers here = absurd cc
  get-filled-home away (Some first ∷ rest) zero value covers here = same_Some (Some first) (Some value) here
  get-filled-home away (Some first ∷ rest) (suc i) value covers here =
      get-filled-home (λ n. away (suc n)) rest i value (λ n. covers (suc n)) here
  get-filled-home away (None ∷ rest) zero value covers here = absurd cc
  get-filled-home away (None ∷ rest) (suc i) value covers here =
      get_behind (away 0) i (filled (λ n. away (suc n)) rest) (covers 0 refl)
      ∙ get-filled-home (λ n. away (suc n)) rest i value (λ n. covers (suc n)) here

  -- there are no others
  pub get-filled-none : (away : ℕ → Option C) (values : List (Option C)) (i : ℕ) →
      Covers away values → slice_get values i ≡ None → slice_get (filled away values) i ≡ None
  get-filled-none away [] i covers none = refl
  get-filled-none away (Some first ∷ rest) zero covers none = absurd cc
  get-filled-none away (Some first ∷ rest) (suc i) covers none =
      get-filled-none (λ n. away (suc n)) rest i (λ n. covers (suc n)) none
  get-filled-none away (None ∷ rest) zero covers none = absurd cc
  get-filled-none away (None ∷ rest) (suc i) covers none =
      get_behind (away 0) i (filled (λ n. away (suc n)) rest) (covers 0 refl)
      ∙ get-filled-none (λ n. away (suc n)) rest i (λ n. covers (suc n)) none
