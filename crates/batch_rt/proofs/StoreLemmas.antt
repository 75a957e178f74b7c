-- When a store stays whole, and when it comes to the same.
use Rattle.std.proofs.Common.{◌≡◌, ℕ, zero, suc, Option, Some, None, List, [], ◌∷◌, ◌++◌, ⊎_elim, map, length, drop, refl, sym, ap, ◌∙◌, subst, append_assoc, append-nil, arith}
use Rattle.std.specs.Prelude.{slice_get, slice_set}
use Rattle.std.specs.Option.{option_map}
use Rattle.std.proofs.lemmas.List.{map-set}
use Rattle.std.proofs.lemmas.Option.{same_Some, slice_get-map}
use Rattle.std.proofs.lemmas.Bool.{cases_eq}
use Rattle.ss_base.specs.declared.ids.ObjectId.{ObjectId}
use Rattle.ss_base.specs.declared.ids.Run.{Run}
use Rattle.execution_definitions.specs.Meanings.{Meaning}
use Rattle.delegation.specs.Answers.{with_run}
use Rattle.batch_rt.specs.declared.object.Object.{Object}
use Rattle.batch_rt.specs.declared.object.Object.TheVariants.{Here, Shared, Sent}
use Rattle.batch_rt.specs.declared.lane.Lane.{Lane}
use Rattle.batch_rt.specs.Objects.{lane_and_place, value_at_home}
use Rattle.batch_rt.specs.Lanes.{lane_runs, IsFit}
use Rattle.batch_rt.specs.Stores.{sent_runs, value_after, lane_numbers, found_in, found_at, Each, IsWhole}
use Rattle.batch_rt.proofs.ListLemmas.{get-set, get-set_other, set_same}

-- objects' numbers
abbrev pub numbers_of : List ObjectId → List ℕ
numbers_of numbers = map (λ number. number.0) numbers

module _ {C : Type 0} where
  pub found_set : (objects : List (Object C)) (o : ℕ) (old new : Object C) →
      slice_get objects o ≡ Some old → lane_and_place new ≡ lane_and_place old → (n : ℕ) →
      found_at (slice_set objects o new) n ≡ found_at objects n
  found_set objects o old new here same n =
      ⊎_elim
      (λ e. subst (λ k. found_at (slice_set objects o new) k ≡ found_at objects k) (sym e)
      (ap found_in (get-set objects o old new here) ∙ same ∙ sym (ap found_in here)))
      (λ differs. ap found_in (get-set_other objects o n new differs))
      (cases_eq n o)

  pub found_push : (objects : List (Object C)) (new : Object C) → lane_and_place new ≡ None →
      (n : ℕ) → found_at (objects ++ new ∷ []) n ≡ found_at objects n
  found_push [] new home zero = home
  found_push [] new home (suc n) = refl
  found_push (object ∷ objects) new home zero = refl
  found_push (object ∷ objects) new home (suc n) = found_push objects new home n

module _ {C O R : Type 0} where
  -- objects count where they are found
  pub whole_by_found : (objects others : List (Object C)) (lanes : List (Lane C O R)) →
      IsWhole objects lanes → ((n : ℕ) → found_at others n ≡ found_at objects n) →
      IsWhole others lanes
  whole_by_found objects others lanes whole same = record {
    there = λ object lane place found.
        whole.there object lane place (sym (same object) ∙ found);
    only = λ lane place object is. same object ∙ whole.only lane place object is;
    fit = whole.fit;
  }

  -- and lanes by their numbers
  pub whole_by_numbers : (objects : List (Object C)) (lanes others : List (Lane C O R)) →
      IsWhole objects lanes → ((n : ℕ) → lane_numbers others n ≡ lane_numbers lanes n) →
      Each IsFit others → IsWhole objects others
  whole_by_numbers objects lanes others whole same fit = record {
    there = λ object lane place found.
        ap (λ numbers. slice_get numbers place) (same lane)
        ∙ whole.there object lane place found;
    only = λ lane place object is.
        whole.only lane place object
        (sym (ap (λ numbers. slice_get numbers place) (same lane)) ∙ is);
    fit = fit;
  }

  -- an object that stays where it is
  pub whole_set : (objects : List (Object C)) (lanes : List (Lane C O R)) (o : ℕ)
      (old new : Object C) → IsWhole objects lanes → slice_get objects o ≡ Some old →
      lane_and_place new ≡ lane_and_place old → IsWhole (slice_set objects o new) lanes
  whole_set objects lanes o old new whole here same =
      whole_by_found objects (slice_set objects o new) lanes whole
      (found_set objects o old new here same)

  numbers_set : (lanes : List (Lane C O R)) (l : ℕ) (old new : Lane C O R) →
      slice_get lanes l ≡ Some old → new.numbers.items ≡ old.numbers.items → (n : ℕ) →
      lane_numbers (slice_set lanes l new) n ≡ lane_numbers lanes n
  numbers_set [] l old new here same n = refl
  numbers_set (lane ∷ lanes) zero old new here same zero =
      ap (λ numbers. map (λ number. number.0) numbers)
      (same ∙ ap (λ lane. lane.numbers.items) (sym (same_Some _ _ here)))
  numbers_set (lane ∷ lanes) zero old new here same (suc n) = refl
  numbers_set (lane ∷ lanes) (suc l) old new here same zero = refl
  numbers_set (lane ∷ lanes) (suc l) old new here same (suc n) =
      numbers_set lanes l old new here same n

  -- every lane but one is as it was
  pub each_set : (P : Lane C O R → Type 0) (lanes : List (Lane C O R)) (l : ℕ)
      (new : Lane C O R) → Each P lanes → P new → Each P (slice_set lanes l new)
  each_set P [] l new each is n lane here = absurd cc
  each_set P (first ∷ lanes) zero new each is zero lane here =
      subst P (same_Some _ _ here) is
  each_set P (first ∷ lanes) zero new each is (suc n) lane here = each (suc n) lane here
  each_set P (first ∷ lanes) (suc l) new each is zero lane here = each 0 lane here
  each_set P (first ∷ lanes) (suc l) new each is (suc n) lane here =
      each_set P lanes l new (λ k lane at. each (suc k) lane at) is n lane here

  -- a lane with the same objects
  pub whole_lane : (objects : List (Object C)) (lanes : List (Lane C O R)) (l : ℕ)
      (old new : Lane C O R) → IsWhole objects lanes → slice_get lanes l ≡ Some old →
      new.numbers.items ≡ old.numbers.items → IsFit new →
      IsWhole objects (slice_set lanes l new)
  whole_lane objects lanes l old new whole here same fit =
      whole_by_numbers objects lanes (slice_set lanes l new) whole
      (numbers_set lanes l old new here same) (each_set IsFit lanes l new whole.fit fit)

  -- a lane with the same runs
  pub sent_same : (logs : List (List Run)) (lanes : List (Lane C O R)) (l : ℕ)
      (old new : Lane C O R) → slice_get lanes l ≡ Some old → lane_runs new ≡ lane_runs old →
      sent_runs logs (slice_set lanes l new) ≡ sent_runs logs lanes
  sent_same [] [] l old new here same = refl
  sent_same [] (lane ∷ lanes) zero old new here same = refl
  sent_same [] (lane ∷ lanes) (suc l) old new here same = refl
  sent_same (log ∷ logs) [] l old new here same = refl
  sent_same (log ∷ logs) (lane ∷ lanes) zero old new here same =
      ap (λ runs. (log ++ runs) ∷ sent_runs logs lanes)
      (same ∙ ap lane_runs (sym (same_Some _ _ here)))
  sent_same (log ∷ logs) (lane ∷ lanes) (suc l) old new here same =
      ap (λ rest. (log ++ lane_runs lane) ∷ rest) (sent_same logs lanes l old new here same)

  -- a lane with one run more
  pub sent_put : (logs : List (List Run)) (lanes : List (Lane C O R)) (l : ℕ)
      (old new : Lane C O R) (run : Run) → length logs ≡ length lanes →
      slice_get lanes l ≡ Some old → lane_runs new ≡ lane_runs old ++ run ∷ [] →
      sent_runs logs (slice_set lanes l new) ≡ with_run l run (sent_runs logs lanes)
  sent_put logs [] l old new run count here is = absurd cc
  sent_put [] (lane ∷ lanes) l old new run count here is = absurd (omega (arith, count))
  sent_put (log ∷ logs) (lane ∷ lanes) zero old new run count here is =
      ap (λ runs. runs ∷ sent_runs logs lanes)
      (ap (λ runs. log ++ runs) (is ∙ ap (λ lane. lane_runs lane ++ run ∷ [])
      (sym (same_Some _ _ here))) ∙ sym (append_assoc log (lane_runs lane) (run ∷ [])))
  sent_put (log ∷ logs) (lane ∷ lanes) (suc l) old new run count here is =
      ap (λ rest. (log ++ lane_runs lane) ∷ rest)
      (sent_put logs lanes l old new run (omega (arith, count)) here is)

  -- what a lane ran goes to its log
  pub sent_home : (logs : List (List Run)) (lanes : List (Lane C O R)) (l : ℕ) (log : List Run)
      (old new : Lane C O R) → slice_get logs l ≡ Some log → slice_get lanes l ≡ Some old →
      lane_runs new ≡ [] →
      sent_runs (slice_set logs l (log ++ lane_runs old)) (slice_set lanes l new)
      ≡ sent_runs logs lanes
  sent_home [] lanes l log old new logged here none = absurd cc
  sent_home (first ∷ logs) [] l log old new logged here none = absurd cc
  sent_home (first ∷ logs) (lane ∷ lanes) zero log old new logged here none =
      ap (λ runs. runs ∷ sent_runs logs lanes)
      (ap (λ runs. (log ++ lane_runs old) ++ runs) none ∙ append-nil (log ++ lane_runs old)
      ∙ rw (sym (same_Some _ _ logged), sym (same_Some _ _ here)) refl)
  sent_home (first ∷ logs) (lane ∷ lanes) (suc l) log old new logged here none =
      ap (λ rest. (first ++ lane_runs lane) ∷ rest)
      (sent_home logs lanes l log old new logged here none)

module _ {C O R : Type 0} (m : Meaning C O R) where
  -- the value of an object at home
  pub value_home : (lanes : List (Lane C O R)) (object : Object C) (value : C) →
      value_at_home object ≡ Some value → value_after m lanes object ≡ value
  value_home lanes (Here v) value is = same_Some _ _ is
  value_home lanes (Shared shared) value is = same_Some _ _ is
  value_home lanes (Sent lane place was) value is = absurd cc

  -- the values with one of an object at home
  pub values_set : (objects : List (Object C)) (lanes : List (Lane C O R)) (o : ℕ)
      (new : Object C) (value : C) → value_at_home new ≡ Some value →
      map (value_after m lanes) (slice_set objects o new)
      ≡ slice_set (map (value_after m lanes) objects) o value
  values_set objects lanes o new value is =
      map-set (value_after m lanes) objects o new
      ∙ ap (λ v. slice_set (map (value_after m lanes) objects) o v) (value_home lanes new value is)

  -- the value of an object, by its number
  pub value_here : (objects : List (Object C)) (lanes : List (Lane C O R)) (o : ℕ)
      (object : Object C) → slice_get objects o ≡ Some object →
      slice_get (map (value_after m lanes) objects) o ≡ Some (value_after m lanes object)
  value_here objects lanes o object at =
      slice_get-map (value_after m lanes) objects o ∙ ap (option_map (value_after m lanes)) at

  home_value : (lanes : List (Lane C O R)) (object : Object C) → lane_and_place object ≡ None →
      value_at_home object ≡ Some (value_after m lanes object)
  home_value lanes (Here value) home = refl
  home_value lanes (Shared shared) home = refl
  home_value lanes (Sent lane place was) home = absurd cc

  -- another keeper of the same value
  pub values_kept : (objects : List (Object C)) (lanes : List (Lane C O R)) (o : ℕ)
      (old new : Object C) → slice_get objects o ≡ Some old → lane_and_place old ≡ None →
      value_at_home new ≡ value_at_home old →
      map (value_after m lanes) (slice_set objects o new) ≡ map (value_after m lanes) objects
  values_kept objects lanes o old new at home same =
      values_set objects lanes o new (value_after m lanes old)
      (same ∙ home_value lanes old home)
      ∙ set_same (map (value_after m lanes) objects) o (value_after m lanes old)
      (value_here objects lanes o old at)

-- the values of objects that are all at home
pub values_out : {C O R : Type 0} (m : Meaning C O R) (lanes : List (Lane C O R))
    (objects : List (Object C)) (values : List C) → ((n : ℕ) → found_at objects n ≡ None) →
    map Some values ≡ map value_at_home objects → values ≡ map (value_after m lanes) objects
values_out m lanes [] [] home is = refl
values_out m lanes [] (value ∷ values) home is = absurd cc
values_out m lanes (object ∷ objects) [] home is = absurd cc
values_out m lanes (object ∷ objects) (value ∷ values) home is =
    let first = same_Some _ _ (ap (λ xs. slice_get xs 0) is) in
    let rest = values_out m lanes objects values (λ n. home (suc n)) (ap (drop 1) is) in
    let same : value ≡ value_after m lanes object =
    same_Some _ _ (first ∙ home_value m lanes object (home 0)) in
    rw (same, rest) refl

-- the object of a number that is found in a lane, or at home
pub found_object : {C : Type 0} (objects : List (Object C)) (o : ℕ) (found : Option (Object C))
    (place : ℕ × ℕ) → slice_get objects o ≡ found → found_in found ≡ Some place →
    (object : Object C) × (slice_get objects o ≡ Some object)
    × (lane_and_place object ≡ Some place)
found_object objects o None place at is = absurd cc
found_object objects o (Some object) place at is = (object, at, is)
