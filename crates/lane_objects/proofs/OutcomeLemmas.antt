-- What do objects, totals and logs come to, where one lane comes to another store?
use Rattle.std.proofs.Common.{◌≡◌, ◌⊎◌, inl, inr, ⊎_elim, ℕ, zero, suc, Bool, true, false, Option, Some, None, List, [], ◌∷◌, ◌++◌, map, length, refl, sym, ap, ◌∙◌, subst, append_assoc, append-nil, drop, arith}
use Rattle.std.specs.Prelude.{is_none, is_some, slice_get, slice_set, option_and_then}
use Rattle.std.specs.Option.{unwrap_or, option_map}
use Rattle.std.proofs.lemmas.List.{map-set}
use Rattle.std.proofs.lemmas.Option.{none-some, same_Some, some_pair_parts, slice_get-map}
use Rattle.std.proofs.lemmas.Bool.{cases_eq}
use Rattle.ss_base.specs.declared.ids.Run.{Run}
use Rattle.class_laws.specs.Laws.{ReducibleLaws}
use Rattle.execution_definitions.specs.Meanings.{Meaning}
use Rattle.delegation.specs.Answers.{with_run}
use Rattle.delegation.specs.PlainParts.{state_of}
use Rattle.delegates.specs.Stores.{Stored, value_of}
use Rattle.lane_objects.specs.declared.object.Object.{Object}
use Rattle.lane_objects.specs.declared.object.Object.TheVariants.{Here, Shared, Away}
use Rattle.lane_objects.specs.Objects.{lane_and_number, value_at_home, found_in, found_at}
use Rattle.lane_objects.specs.Outcomes.{value_in, value_after, sent_runs, AreApart, with_lane, total_after, state_from}
use Rattle.lane_objects.proofs.ListLemmas.{get-set, get-set_other, set_same, map_one}

pub not_none : {A : Type 0} (found : Option A) → found ≡ None → is_some found ≡ true → ⊥
not_none None is some = absurd cc
not_none (Some x) is some = none-some x (sym is)

pub is_there : {A : Type 0} (found : Option A) (x : A) → found ≡ Some x → is_some found ≡ true
is_there found x is = rw is refl

module _ {C : Type 0} where
  -- ---- where objects are found

  pub found_set : (objects : List (Object C)) (o : ℕ) (old new : Object C) →
      slice_get objects o ≡ Some old → lane_and_number new ≡ lane_and_number old → (n : ℕ) →
      found_at (slice_set objects o new) n ≡ found_at objects n
  found_set objects o old new here same n =
      ⊎_elim
      (λ e. subst (λ k. found_at (slice_set objects o new) k ≡ found_at objects k) (sym e)
      (ap found_in (get-set objects o old new here) ∙ same ∙ sym (ap found_in here)))
      (λ differs. ap found_in (get-set_other objects o n new differs))
      (cases_eq n o)

  pub found_push : (objects : List (Object C)) (new : Object C) → lane_and_number new ≡ None →
      (n : ℕ) → found_at (objects ++ new ∷ []) n ≡ found_at objects n
  found_push [] new home zero = home
  found_push [] new home (suc n) = refl
  found_push (object ∷ objects) new home zero = refl
  found_push (object ∷ objects) new home (suc n) = found_push objects new home n

  -- the object of a number that is found in a lane
  pub found_object : (objects : List (Object C)) (o : ℕ) (found : Option (Object C))
      (place : ℕ × ℕ) → slice_get objects o ≡ found → found_in found ≡ Some place →
      (object : Object C) × (slice_get objects o ≡ Some object)
      × (lane_and_number object ≡ Some place)
  found_object objects o None place at is = absurd cc
  found_object objects o (Some object) place at is = (object, at, is)

module _ {C R : Type 0} where
  -- objects count where they are found
  pub apart_by_found : (objects others : List (Object C)) (lanes : List (Stored C R)) →
      AreApart objects lanes → ((n : ℕ) → found_at others n ≡ found_at objects n) →
      AreApart others lanes
  apart_by_found objects others lanes apart same = record {
    number = λ object lane number found.
        apart.number object lane number (sym (same object) ∙ found);
    there = λ object lane number found.
        apart.there object lane number (sym (same object) ∙ found);
    only = λ object lane is. same object ∙ apart.only object lane is;
  }

  -- ---- values

  -- the value of an object at home
  pub value_home : (lanes : List (Stored C R)) (object : Object C) (value : C) →
      value_at_home object ≡ Some value → value_after lanes object ≡ value
  value_home lanes (Here v) value is = same_Some _ _ is
  value_home lanes (Shared shared) value is = same_Some _ _ is
  value_home lanes (Away lane number was) value is = absurd cc

  pub home_value : (lanes : List (Stored C R)) (object : Object C) →
      lane_and_number object ≡ None → value_at_home object ≡ Some (value_after lanes object)
  home_value lanes (Here value) home = refl
  home_value lanes (Shared shared) home = refl
  home_value lanes (Away lane number was) home = absurd cc

  -- the value of an object that is in a lane
  pub value_away : (lanes : List (Stored C R)) (object : Object C) (l o : ℕ) (value : C) →
      lane_and_number object ≡ Some (l, o) → value_in lanes l o ≡ Some value →
      value_after lanes object ≡ value
  value_away lanes (Here v) l o value sent at = absurd cc
  value_away lanes (Shared shared) l o value sent at = absurd cc
  value_away lanes (Away lane number was) l o value sent at =
      let same = some_pair_parts _ _ _ _ sent in
      ap (λ found. unwrap_or found was.value)
      (ap (λ k. value_in lanes k number.0) same.0 ∙ ap (λ n. value_in lanes l n) same.1 ∙ at)

  -- the value of an object, by its number
  pub value_here : (objects : List (Object C)) (lanes : List (Stored C R)) (o : ℕ)
      (object : Object C) → slice_get objects o ≡ Some object →
      slice_get (map (value_after lanes) objects) o ≡ Some (value_after lanes object)
  value_here objects lanes o object at =
      slice_get-map (value_after lanes) objects o ∙ ap (option_map (value_after lanes)) at

  -- the values with one of an object at home
  pub values_set : (objects : List (Object C)) (lanes : List (Stored C R)) (o : ℕ)
      (new : Object C) (value : C) → value_at_home new ≡ Some value →
      map (value_after lanes) (slice_set objects o new)
      ≡ slice_set (map (value_after lanes) objects) o value
  values_set objects lanes o new value is =
      map-set (value_after lanes) objects o new
      ∙ ap (λ v. slice_set (map (value_after lanes) objects) o v) (value_home lanes new value is)

  -- the values of objects that are all at home
  pub values_out : (lanes : List (Stored C R)) (objects : List (Object C)) (values : List C) →
      ((n : ℕ) → found_at objects n ≡ None) → map Some values ≡ map value_at_home objects →
      values ≡ map (value_after lanes) objects
  values_out lanes [] [] home is = refl
  values_out lanes [] (value ∷ values) home is = absurd cc
  values_out lanes (object ∷ objects) [] home is = absurd cc
  values_out lanes (object ∷ objects) (value ∷ values) home is =
      let first = same_Some _ _ (ap (λ xs. slice_get xs 0) is) in
      let rest = values_out lanes objects values (λ n. home (suc n)) (ap (drop 1) is) in
      let same : value ≡ value_after lanes object =
      same_Some _ _ (first ∙ home_value lanes object (home 0)) in
      rw (same, rest) refl

  -- another keeper of the same value
  pub values_kept : (objects : List (Object C)) (lanes : List (Stored C R)) (o : ℕ)
      (old new : Object C) → slice_get objects o ≡ Some old → lane_and_number old ≡ None →
      value_at_home new ≡ value_at_home old →
      map (value_after lanes) (slice_set objects o new) ≡ map (value_after lanes) objects
  values_kept objects lanes o old new at home same =
      values_set objects lanes o new (value_after lanes old)
      (same ∙ home_value lanes old home)
      ∙ set_same (map (value_after lanes) objects) o (value_after lanes old)
      (value_here objects lanes o old at)

  -- ---- a lane that comes to another store

  module _ (lanes : List (Stored C R)) (l : ℕ) (old new : Stored C R)
      (here : slice_get lanes l ≡ Some old) where
    pub in_here : (n : ℕ) → value_in lanes l n ≡ value_of old n
    in_here n = ap (option_and_then (λ (s : Stored C R). value_of s n)) here

    pub in_now : (n : ℕ) → value_in (slice_set lanes l new) l n ≡ value_of new n
    in_now n =
        ap (option_and_then (λ (s : Stored C R). value_of s n)) (get-set lanes l old new here)

    pub in_other : (k n : ℕ) → (k ≡ l → ⊥) →
        value_in (slice_set lanes l new) k n ≡ value_in lanes k n
    in_other k n differs =
        ap (option_and_then (λ (s : Stored C R). value_of s n)) (get-set_other lanes l k new differs)

  -- an object at home is in no lane
  pub not_in_lane : (objects : List (Object C)) (lanes : List (Stored C R)) (l : ℕ)
      (s : Stored C R) (o : ℕ) (found : Option C) → AreApart objects lanes →
      slice_get lanes l ≡ Some s → found_at objects o ≡ None → value_of s o ≡ found →
      is_none (value_of s o) ≡ true
  not_in_lane objects lanes l s o None apart here home is = rw is refl
  not_in_lane objects lanes l s o (Some value) apart here home is =
      absurd (none-some _ (sym home ∙ apart.only o l (is_there (value_in lanes l o) value
      (in_here lanes l s s here o ∙ is))))

  -- and one that went to a lane is there
  pub is_in_lane : (objects : List (Object C)) (lanes : List (Stored C R)) (l : ℕ)
      (s : Stored C R) (o p : ℕ) → AreApart objects lanes → slice_get lanes l ≡ Some s →
      found_at objects o ≡ Some (l, p) → is_some (value_of s o) ≡ true
  is_in_lane objects lanes l s o p apart here found =
      ap (λ v. is_some v) (sym (in_here lanes l s s here o)) ∙ apart.there o l p found

  -- with the value that it comes to
  pub value_there : (objects : List (Object C)) (lanes : List (Stored C R)) (l : ℕ)
      (s : Stored C R) (o : ℕ) (object : Object C) (found : Option C) →
      AreApart objects lanes → slice_get lanes l ≡ Some s → slice_get objects o ≡ Some object →
      lane_and_number object ≡ Some (l, o) → value_of s o ≡ found →
      value_of s o ≡ Some (value_after lanes object)
  value_there objects lanes l s o object None apart here at away is =
      absurd (not_none (value_of s o) is
      (is_in_lane objects lanes l s o o apart here (ap found_in at ∙ away)))
  value_there objects lanes l s o object (Some value) apart here at away is =
      is ∙ ap Some (sym (value_away lanes object l o value away (in_here lanes l s s here o ∙ is)))

  -- ---- logs

  -- a lane with one run more
  pub sent_put : (logs : List (List Run)) (lanes : List (Stored C R)) (l : ℕ)
      (old new : Stored C R) (run : Run) → length logs ≡ length lanes →
      slice_get lanes l ≡ Some old → new.runs ≡ old.runs ++ run ∷ [] →
      sent_runs logs (slice_set lanes l new) ≡ with_run l run (sent_runs logs lanes)
  sent_put [] [] l old new run count here more = absurd cc
  sent_put [] (s ∷ lanes) l old new run count here more = absurd (omega (arith, count))
  sent_put (log ∷ logs) [] l old new run count here more = absurd cc
  sent_put (log ∷ logs) (s ∷ lanes) zero old new run count here more =
      ap (λ runs. runs ∷ sent_runs logs lanes)
      (ap (λ runs. log ++ runs) more ∙ sym (append_assoc log old.runs (run ∷ []))
      ∙ ap (λ (t : Stored C R). (log ++ t.runs) ++ run ∷ []) (sym (same_Some _ _ here)))
  sent_put (log ∷ logs) (s ∷ lanes) (suc l) old new run count here more =
      ap (λ rest. (log ++ s.runs) ∷ rest)
      (sent_put logs lanes l old new run (omega (arith, count)) here more)

  -- the runs of a lane come to its log
  pub sent_home : (logs : List (List Run)) (lanes : List (Stored C R)) (l : ℕ) (log : List Run)
      (old new : Stored C R) → slice_get logs l ≡ Some log → slice_get lanes l ≡ Some old →
      new.runs ≡ [] →
      sent_runs (slice_set logs l (log ++ old.runs)) (slice_set lanes l new)
      ≡ sent_runs logs lanes
  sent_home [] lanes l log old new logged here none = absurd cc
  sent_home (first ∷ logs) [] l log old new logged here none = absurd cc
  sent_home (first ∷ logs) (s ∷ lanes) zero log old new logged here none =
      ap (λ runs. runs ∷ sent_runs logs lanes)
      (ap (λ runs. (log ++ old.runs) ++ runs) none ∙ append-nil (log ++ old.runs)
      ∙ ap (λ front. front ++ old.runs) (sym (same_Some _ _ logged))
      ∙ ap (λ (t : Stored C R). first ++ t.runs) (sym (same_Some _ _ here)))
  sent_home (first ∷ logs) (s ∷ lanes) (suc l) log old new logged here none =
      ap (λ rest. (first ++ s.runs) ∷ rest)
      (sent_home logs lanes l log old new logged here none)

module _ {C O R : Type 0} (m : Meaning C O R) (laws : ReducibleLaws m.unit m.join) where
  -- ---- totals

  -- contributions change places
  swap : (a b c : R) → m.join (m.join a b) c ≡ m.join (m.join a c) b
  swap a b c = sym (laws.associative a b c) ∙ ap (λ x. m.join a x) (laws.commutative b c)
      ∙ laws.associative a c b

  -- a contribution to the total comes before those of lanes, or after
  pub total_more : (total more : R) (lanes : List (Stored C R)) →
      total_after m (m.join total more) lanes ≡ m.join (total_after m total lanes) more
  total_more total more [] = refl
  total_more total more (s ∷ lanes) =
      ap (λ x. total_after m x lanes) (swap total more s.total)
      ∙ total_more (with_lane m total s) more lanes

  -- a lane contributes once more
  pub total_put : (total more : R) (lanes : List (Stored C R)) (l : ℕ) (old new : Stored C R) →
      slice_get lanes l ≡ Some old → new.total ≡ m.join old.total more →
      total_after m total (slice_set lanes l new) ≡ m.join (total_after m total lanes) more
  total_put total more [] l old new here is = absurd cc
  total_put total more (s ∷ lanes) zero old new here is =
      ap (λ x. total_after m (m.join total x) lanes) is
      ∙ ap (λ x. total_after m x lanes) (laws.associative total old.total more)
      ∙ total_more (m.join total old.total) more lanes
      ∙ ap (λ (t : Stored C R). m.join (total_after m (with_lane m total t) lanes) more)
      (sym (same_Some _ _ here))
  total_put total more (s ∷ lanes) (suc l) old new here is =
      total_put (with_lane m total s) more lanes l old new here is

  -- what a lane contributed comes home
  pub total_home : (total : R) (lanes : List (Stored C R)) (l : ℕ) (old new : Stored C R) →
      slice_get lanes l ≡ Some old → new.total ≡ m.unit →
      total_after m (m.join total old.total) (slice_set lanes l new) ≡ total_after m total lanes
  total_home total [] l old new here none = absurd cc
  total_home total (s ∷ lanes) zero old new here none =
      ap (λ x. total_after m (m.join (m.join total old.total) x) lanes) none
      ∙ ap (λ x. total_after m x lanes) (laws.unit_of_join total old.total)
      ∙ ap (λ (t : Stored C R). total_after m (with_lane m total t) lanes)
      (sym (same_Some _ _ here))
  total_home total (s ∷ lanes) (suc l) old new here none =
      ap (λ x. total_after m x (slice_set lanes l new)) (swap total old.total s.total)
      ∙ total_home (with_lane m total s) lanes l old new here none

-- the laws of a class's contributions
pub laws_from : {C O R : Type 0} (m : Meaning C O R) (unit : R) (join : R → R → R) →
    m.unit ≡ unit → m.join ≡ join → ReducibleLaws unit join → ReducibleLaws m.unit m.join
laws_from m unit join unit_is join_is laws =
    subst (λ u. ReducibleLaws u m.join) (sym unit_is)
    (subst (λ j. ReducibleLaws unit j) (sym join_is) laws)
