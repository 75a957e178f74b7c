-- What do objects come to, once a lane comes home?
use Rattle.std.proofs.Common.{◌≡◌, ◌⊎◌, inl, inr, ⊎_elim, ℕ, zero, suc, ◌<◌, Bool, true, false, cond, Option, Some, None, List, [], ◌∷◌, ◌++◌, map, length, refl, sym, ap, ◌∙◌, subst, arith}
use Rattle.std.specs.Prelude.{is_some, slice_get, slice_set, All}
use Rattle.std.specs.Option.{unwrap_or, option_map}
use Rattle.std.specs.Ordering.{nat_cmp}
use Rattle.std.specs.Map.{keys_of, lookup}
use Rattle.std.specs.BTreeMap.{is_at}
use Rattle.std.proofs.lemmas.Map.Entries.{lookup_head, lookup_tail}
use Rattle.std.proofs.lemmas.Bool.Decides.{nat_tests}
use Rattle.std.proofs.lemmas.Option.{none-some, same_Some, some_pair_parts}
use Rattle.std.proofs.lemmas.Bool.{cases_eq}
use Rattle.execution_definitions.specs.Meanings.{Meaning}
use Rattle.delegates.specs.Stores.{Stored, value_of, numbers_of, with_first, empty_store}
use Rattle.lane_core.proofs.StoreLemmas.{other_number}
use Rattle.lane_objects.specs.declared.object.Object.{Object}
use Rattle.lane_objects.specs.declared.object.Object.TheVariants.{Here, Shared, Away}
use Rattle.lane_objects.specs.Objects.{lane_and_number, found_in, found_at, NoneSent, come_with, come_back, without_values}
use Rattle.lane_objects.specs.Outcomes.{value_in, value_after, AreApart}
use Rattle.lane_objects.proofs.ListLemmas.{get-set, get-set_other, map_both}
use Rattle.lane_objects.proofs.OutcomeLemmas.{not_none, is_there, value_away, in_here, in_now, in_other}

-- an object that is there, or isn't
found_or_not : {A : Type 0} (found : Option A) → ((a : A) × (found ≡ Some a)) ⊎ (found ≡ None)
found_or_not None = inr refl
found_or_not (Some a) = inl (a, refl)

set_absent : {A : Type 0} (xs : List A) (i : ℕ) (x : A) → slice_get xs i ≡ None →
    slice_set xs i x ≡ xs
set_absent [] i x none = refl
set_absent (first ∷ xs) zero x none = absurd cc
set_absent (first ∷ xs) (suc i) x none = ap (λ rest. first ∷ rest) (set_absent xs i x none)

number_here : (n : ℕ) → is_at (nat_cmp n) n ≡ true
number_here n = grind (arith, nat_tests)

none_below : {C : Type 0} (entries : List (ℕ × C)) (k : ℕ) →
    All (λ n. k < n) (keys_of entries) → lookup (is_at (nat_cmp k)) entries ≡ None
none_below [] k above = refl
none_below (e ∷ entries) k above =
    let first : k < e.0 = above 0 0 (omega arith) in
    lookup_tail (is_at (nat_cmp k)) e entries
    (other_number k e.0 (λ same. omega (arith, first, same)))
    ∙ none_below entries k (λ i d below. above (suc i) d (omega (arith, below)))

module _ {C R : Type 0} where
  -- ---- values come home one by one, the least number first

  first_here : (s : Stored C R) (k : ℕ) (value : C) →
      value_of (with_first s k value) k ≡ Some value
  first_here s k value = lookup_head (is_at (nat_cmp k)) (k, value) s.values (number_here k)

  first_other : (s : Stored C R) (k : ℕ) (value : C) (n : ℕ) → (n ≡ k → ⊥) →
      value_of (with_first s k value) n ≡ value_of s n
  first_other s k value n differs =
      lookup_tail (is_at (nat_cmp n)) (k, value) s.values (other_number n k differs)

  module _ (s t : Stored C R) (k : ℕ) (value : C) (first : s ≡ with_first t k value)
      (least : All (λ n. k < n) (numbers_of t)) (objects objects_now : List (Object C)) where
    -- an object's place is as before, but for that whose value came
    abbrev Places : Type 0
    Places = (n : ℕ) → option_map (come_back t n) (slice_get objects_now n)
        ≡ option_map (come_back s n) (slice_get objects n)

    came_other : (n : ℕ) → (n ≡ k → ⊥) → slice_get objects_now n ≡ slice_get objects n →
        option_map (come_back t n) (slice_get objects_now n)
        ≡ option_map (come_back s n) (slice_get objects n)
    came_other n differs same =
        ap (λ found. option_map (come_back t n) found) same
        ∙ ap (λ found. option_map (come_with found) (slice_get objects n))
        (sym (ap (λ (r : Stored C R). value_of r n) first ∙ first_other t k value n differs))

    came_here : (object : Object C) → slice_get objects k ≡ Some object →
        objects_now ≡ slice_set objects k (Here value) → Places
    came_here object at is n =
        ⊎_elim
        (λ e. subst (λ j. option_map (come_back t j) (slice_get objects_now j)
        ≡ option_map (come_back s j) (slice_get objects j)) (sym e)
        (ap (λ found. option_map (come_back t k) found)
        (ap (λ xs. slice_get xs k) is ∙ get-set objects k object (Here value) at)
        ∙ ap (λ found. Some (come_with found (Here value))) (none_below t.values k least)
        ∙ sym (ap (λ found. option_map (come_back s k) found) at
        ∙ ap (λ found. Some (come_with found object))
        (ap (λ (r : Stored C R). value_of r k) first ∙ first_here t k value))))
        (λ differs. came_other n differs
        (ap (λ xs. slice_get xs n) is ∙ get-set_other objects k n (Here value) differs))
        (cases_eq n k)

    came_nowhere : slice_get objects k ≡ None → objects_now ≡ objects → Places
    came_nowhere none is n =
        ⊎_elim
        (λ e. subst (λ j. option_map (come_back t j) (slice_get objects_now j)
        ≡ option_map (come_back s j) (slice_get objects j)) (sym e)
        (ap (λ found. option_map (come_back t k) found) (ap (λ xs. slice_get xs k) is ∙ none)
        ∙ sym (ap (λ found. option_map (come_back s k) found) none)))
        (λ differs. came_other n differs (ap (λ xs. slice_get xs n) is))
        (cases_eq n k)

    pub came_home : objects_now ≡ slice_set objects k (Here value) → Places
    came_home is =
        ⊎_elim
        (λ found. came_here found.0 found.1 is)
        (λ none. came_nowhere none (is ∙ set_absent objects k (Here value) none))
        (found_or_not (slice_get objects k))

  -- nothing is left to come
  pub none_left : (s : Stored C R) → s.values ≡ [] → (n : ℕ) (found : Option (Object C)) →
      option_map (come_back s n) found ≡ found
  none_left s none n None = refl
  none_left s none n (Some object) =
      ap (λ value. Some (come_with value object))
      (ap (λ entries. lookup (is_at (nat_cmp n)) entries) none)

  pub has_none : (s : Stored C R) → s.values ≡ [] → s ≡ without_values s
  has_none s none = ap (λ entries. record s { values = entries }) none

  -- ---- a lane comes home

  module _ (objects objects_now : List (Object C)) (lanes : List (Stored C R)) (l : ℕ)
      (old new : Stored C R) (apart : AreApart objects lanes)
      (here : slice_get lanes l ≡ Some old) (empty : new.values ≡ [])
      (home : (n : ℕ) → slice_get objects_now n
      ≡ option_map (come_back old n) (slice_get objects n))
      (count : length objects_now ≡ length objects) where
    abbrev lanes_now : List (Stored C R)
    lanes_now = slice_set lanes l new

    in_none : (n : ℕ) → value_in lanes_now l n ≡ None
    in_none n =
        in_now lanes l old new here n
        ∙ ap (λ entries. lookup (is_at (nat_cmp n)) entries) empty

    -- an object that isn't in the lane stays as it is
    stayed : (n : ℕ) → value_of old n ≡ None → slice_get objects_now n ≡ slice_get objects n
    stayed n none = home n ∙ by (slice_get objects n) where
      by : (found : Option (Object C)) → option_map (come_back old n) found ≡ found
      by None = refl
      by (Some object) = ap (λ value. Some (come_with value object)) none

    -- one that is comes home
    came : (n : ℕ) (value : C) (object : Object C) → value_of old n ≡ Some value →
        slice_get objects n ≡ Some object → slice_get objects_now n ≡ Some (Here value)
    came n value object has at =
        home n ∙ ap (λ found. option_map (come_back old n) found) at
        ∙ ap (λ found. Some (come_with found object)) has

    found_here : (n : ℕ) (value : C) → value_of old n ≡ Some value →
        found_at objects n ≡ Some (l, n)
    found_here n value has =
        apart.only n l (is_there (value_in lanes l n) value (in_here lanes l old new here n ∙ has))

    none_here : (n k : ℕ) → found_at objects n ≡ Some (k, n) → (k ≡ l → ⊥) →
        value_of old n ≡ None
    none_here n k found differs =
        ⊎_elim
        (λ some. absurd (differs (some_pair_parts _ _ _ _
        (sym found ∙ found_here n some.0 some.1)).0))
        (λ none. none)
        (found_or_not (value_of old n))

    value_same : (n : ℕ) (object object_now : Object C) → slice_get objects n ≡ Some object →
        slice_get objects_now n ≡ Some object_now →
        value_after lanes_now object_now ≡ value_after lanes object
    value_same n object object_now at now =
        ⊎_elim
        (λ some.
        ap (value_after lanes_now) (same_Some _ _ (sym now ∙ came n some.0 object some.1 at))
        ∙ sym (value_away lanes object l n some.0 (sym (ap found_in at) ∙ found_here n some.0 some.1)
        (in_here lanes l old new here n ∙ some.1)))
        (λ none.
        ap (value_after lanes_now) (same_Some _ _ (sym now ∙ stayed n none ∙ at))
        ∙ stays object at none)
        (found_or_not (value_of old n))
      where
        stays : (object : Object C) → slice_get objects n ≡ Some object →
            value_of old n ≡ None → value_after lanes_now object ≡ value_after lanes object
        stays (Here value) at none = refl
        stays (Shared shared) at none = refl
        stays (Away lane number was) at none =
            let same : number.0 ≡ n = apart.number n lane number.0 (ap found_in at) in
            ap (λ found. unwrap_or found was.value)
            (in_other lanes l old new here lane number.0
            (λ e. not_none (value_in lanes lane n)
            (ap (λ j. value_in lanes j n) e ∙ in_here lanes l old new here n ∙ none)
            (apart.there n lane number.0 (ap found_in at))))

    -- the objects' values stay
    pub values_homed : map (value_after lanes_now) objects_now ≡ map (value_after lanes) objects
    values_homed =
        map_both (value_after lanes) (value_after lanes_now) objects objects_now count value_same

    -- an object that is in a lane afterwards was there before, and in another lane
    pub still_there : (n k p : ℕ) → found_at objects_now n ≡ Some (k, p) →
        (found_at objects n ≡ Some (k, p)) × (value_of old n ≡ None)
    still_there n k p found =
        ⊎_elim
        (λ some. absurd (by some.0 some.1))
        (λ none. (sym (ap found_in (stayed n none)) ∙ found, none))
        (found_or_not (value_of old n))
      where
        by : (value : C) → value_of old n ≡ Some value → ⊥
        by value has =
            ⊎_elim
            (λ object. none-some _
            (sym (ap found_in (came n value object.0 has object.1)) ∙ found))
            (λ none. none-some _ (sym (ap found_in none) ∙ found_here n value has))
            (found_or_not (slice_get objects n))

    pub apart_homed : AreApart objects_now lanes_now
    apart_homed = record {
      number = λ n k p found. apart.number n k p (still_there n k p found).0;
      there = λ n k p found.
          let was = still_there n k p found in
          ap (λ v. is_some v) (in_other lanes l old new here k n
          (λ e. not_none (value_in lanes k n)
          (ap (λ j. value_in lanes j n) e ∙ in_here lanes l old new here n ∙ was.1)
          (apart.there n k p was.0)))
          ∙ apart.there n k p was.0;
      only = λ n k is.
          ⊎_elim
          (λ e. absurd (not_none (value_in lanes_now k n)
          (ap (λ j. value_in lanes_now j n) e ∙ in_none n) is))
          (λ differs.
          let was : found_at objects n ≡ Some (k, n) =
          apart.only n k (sym (ap (λ v. is_some v) (in_other lanes l old new here k n differs)) ∙ is) in
          ap found_in (stayed n (none_here n k was differs)) ∙ was)
          (cases_eq k l);
    }

    pub none_sent : NoneSent objects objects_now
    none_sent n k p found = (still_there n k p found).0
