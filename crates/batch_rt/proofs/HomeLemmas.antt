-- A lane comes home: its objects, what it contributed, and what it ran.
use Rattle.std.proofs.Common.{◌≡◌, ℕ, zero, suc, ◌<◌, Option, Some, None, List, [], ◌∷◌, ◌++◌, ◌⊎◌, inl, inr, ⊎_elim, map, length, refl, sym, ap, ◌∙◌, subst, get_or, append-nil, arith}
use Rattle.std.specs.Prelude.{slice_get, slice_set}
use Rattle.std.proofs.lemmas.List.{length-set, length-map, nil_from_length}
use Rattle.std.proofs.lemmas.Option.{none-some, same_Some, some_pair_parts, slice_get_within, slice_get-get_or}
use Rattle.std.proofs.lemmas.Bool.{cases_eq}
use Rattle.ss_base.specs.declared.ids.ObjectId.{ObjectId}
use Rattle.ss_base.specs.declared.ids.Run.{Run}
use Rattle.class_laws.specs.Laws.{ReducibleLaws}
use Rattle.execution_definitions.specs.Meanings.{Meaning}
use Rattle.delegation.proofs.runs.FrontLemmas.{fronts_more}
use Rattle.batch_rt.specs.declared.store.Store.{Store}
use Rattle.batch_rt.specs.declared.object.Object.{Object}
use Rattle.batch_rt.specs.declared.object.Object.TheVariants.{Here, Shared, Sent}
use Rattle.batch_rt.specs.declared.lane.Lane.{Lane}
use Rattle.batch_rt.specs.Objects.{lane_and_place, brought}
use Rattle.batch_rt.specs.Lanes.{load_from, load_of, after_entries, IsFit, IsIdle}
use Rattle.batch_rt.specs.Stores.{sent_runs, total_after, with_part, IsWholeStore, ComesHome, value_in, value_after, numbers_in, lane_numbers, found_in, found_at, IsWhole}
use Rattle.batch_rt.proofs.ListLemmas.{get-set, get-set_other, map_both}
use Rattle.batch_rt.proofs.StoreLemmas.{numbers_of, each_set, sent_home, found_object}
use Rattle.batch_rt.proofs.TotalLemmas.{total_home}
use Rattle.batch_rt.proofs.IdleLemmas.{idle_part, idle_runs, idle_fit}

module _ {C : Type 0} where
  pub length-brought : (objects : List (Object C)) (numbers : List ObjectId) (values : List C) →
      length (brought objects numbers values) ≡ length objects
  length-brought objects [] values = refl
  length-brought objects (number ∷ numbers) [] = refl
  length-brought objects (number ∷ numbers) (value ∷ values) =
      length-brought (slice_set objects number.0 (Here value)) numbers values
      ∙ length-set objects number.0 (Here value)

  -- an object that isn't in the lane stays as it is
  not_brought : (objects : List (Object C)) (numbers : List ObjectId) (values : List C) (i : ℕ) →
      ((p : ℕ) → slice_get (numbers_of numbers) p ≡ Some i → ⊥) →
      slice_get (brought objects numbers values) i ≡ slice_get objects i
  not_brought objects [] values i absent = refl
  not_brought objects (number ∷ numbers) [] i absent = refl
  not_brought objects (number ∷ numbers) (value ∷ values) i absent =
      not_brought (slice_set objects number.0 (Here value)) numbers values i (λ p. absent (suc p))
      ∙ get-set_other objects number.0 i (Here value) (λ e. absent 0 (ap Some (sym e)))

  -- one that is in the lane comes home
  is_brought : (objects : List (Object C)) (numbers : List ObjectId) (values : List C)
      (i p : ℕ) (value : C) (old : Object C) → slice_get (numbers_of numbers) p ≡ Some i →
      slice_get values p ≡ Some value →
      ((q : ℕ) → slice_get (numbers_of numbers) q ≡ Some i → q ≡ p) →
      slice_get objects i ≡ Some old →
      slice_get (brought objects numbers values) i ≡ Some (Here value)
  is_brought objects [] values i p value old number_is value_is alone here = absurd cc
  is_brought objects (number ∷ numbers) [] i p value old number_is value_is alone here = absurd cc
  is_brought objects (number ∷ numbers) (first ∷ values) i zero value old number_is value_is alone
      here =
      let same : number.0 ≡ i = same_Some _ _ number_is in
      not_brought (slice_set objects number.0 (Here first)) numbers values i
      (λ q at. absurd (omega (arith, alone (suc q) at)))
      ∙ ap (λ n. slice_get (slice_set objects n (Here first)) i) same
      ∙ get-set objects i old (Here first) here
      ∙ ap (λ v. Some (Here v)) (same_Some _ _ value_is)
  is_brought objects (number ∷ numbers) (first ∷ values) i (suc p) value old number_is value_is
      alone here =
      is_brought (slice_set objects number.0 (Here first)) numbers values i p value old number_is
      value_is (λ q at. let e = alone (suc q) at in omega (arith, e))
      (get-set_other objects number.0 i (Here first)
      (λ e. absurd (omega (arith, alone 0 (ap Some (sym e))))) ∙ here)

-- a place may be in a lane or not
in_lane : (l : ℕ) (found : Option (ℕ × ℕ)) →
    ((q : ℕ) × (found ≡ Some (l, q))) ⊎ ((q : ℕ) → found ≡ Some (l, q) → ⊥)
in_lane l None = inr (λ q is. absurd cc)
in_lane l (Some (k, p)) =
    ⊎_elim
    (λ e. inl (p, ap (λ k. Some (k, p)) e))
    (λ differs. inr (λ q is. differs (some_pair_parts _ _ _ _ is).0))
    (cases_eq k l)

module _ {C O R : Type 0} (objects : List (Object C)) (lanes : List (Lane C O R)) (l : ℕ)
    (old new : Lane C O R) (whole : IsWhole objects lanes) (here : slice_get lanes l ≡ Some old)
  where
    -- the objects with those of the lane at home
    abbrev pub homed : List (Object C)
    homed = brought objects old.numbers.items old.values.items

    numbers_here : lane_numbers lanes l ≡ numbers_of old.numbers.items
    numbers_here = ap numbers_in here

    -- an object of another lane, or at home already
    stayed : (i : ℕ) → ((q : ℕ) → found_at objects i ≡ Some (l, q) → ⊥) →
        slice_get homed i ≡ slice_get objects i
    stayed i absent =
        not_brought objects old.numbers.items old.values.items i
        (λ p at. absent p (whole.only l p i (ap (λ numbers. slice_get numbers p) numbers_here ∙ at)))

    -- an object of the lane, and its value
    came : (i q : ℕ) (object : Object C) (value : C) → slice_get objects i ≡ Some object →
        lane_and_place object ≡ Some (l, q) → slice_get old.values.items q ≡ Some value →
        slice_get homed i ≡ Some (Here value)
    came i q object value at is value_is =
        let found : found_at objects i ≡ Some (l, q) = ap found_in at ∙ is in
        is_brought objects old.numbers.items old.values.items i q value object
        (sym (ap (λ numbers. slice_get numbers q) numbers_here) ∙ whole.there i l q found) value_is
        (λ p placed. (some_pair_parts _ _ _ _
        (sym (whole.only l p i (ap (λ numbers. slice_get numbers p) numbers_here ∙ placed))
        ∙ found)).1)
        at

    value_there : (i q : ℕ) (object : Object C) → slice_get objects i ≡ Some object →
        lane_and_place object ≡ Some (l, q) → q < length old.values.items →
        found_at homed i ≡ None
    value_there i q (Here value) at is below = absurd cc
    value_there i q (Shared shared) at is below = absurd cc
    value_there i q (Sent lane place was) at is below =
        ap found_in (came i q (Sent lane place was) (get_or old.values.items q was.value) at is
        (slice_get-get_or old.values.items q was.value below))

    within : (i q : ℕ) → found_at objects i ≡ Some (l, q) → q < length old.values.items
    within i q found =
        let inside = slice_get_within (numbers_of old.numbers.items) q i
        (sym (ap (λ numbers. slice_get numbers q) numbers_here) ∙ whole.there i l q found) in
        let count = (whole.fit l old here).numbered in
        let mapped = length-map old.numbers.items (λ number. number.0) in
        omega (arith, inside, count, mapped)

    pub came_back : (i q : ℕ) → found_at objects i ≡ Some (l, q) → found_at homed i ≡ None
    came_back i q found =
        let object = found_object objects i (slice_get objects i) (l, q) refl found in
        value_there i q object.0 object.1 object.2 (within i q found)

    -- an object that is in a lane afterwards was there before, and in another lane
    pub still_there : (i k p : ℕ) → found_at homed i ≡ Some (k, p) →
        (found_at objects i ≡ Some (k, p)) × (k ≡ l → ⊥)
    still_there i k p found =
        ⊎_elim
        (λ inside. absurd (none-some _ (sym (came_back i inside.0 inside.1) ∙ found)))
        (λ absent.
        let was : found_at objects i ≡ Some (k, p) = sym (ap found_in (stayed i absent)) ∙ found in
        (was, λ e. absent p (was ∙ ap (λ n. Some (n, p)) e)))
        (in_lane l (found_at objects i))

    elsewhere : (i k p : ℕ) → found_at objects i ≡ Some (k, p) → (k ≡ l → ⊥) →
        found_at homed i ≡ Some (k, p)
    elsewhere i k p found differs =
        ap found_in (stayed i (λ q at. differs (some_pair_parts _ _ _ _ (sym found ∙ at)).0)) ∙ found

    -- the lane has nothing in it now
    module _ (empty : new.numbers.items ≡ []) (fit : IsFit new) where
      numbers_now : lane_numbers (slice_set lanes l new) l ≡ []
      numbers_now = ap numbers_in (get-set lanes l old new here) ∙ ap numbers_of empty

      numbers_else : (k : ℕ) → (k ≡ l → ⊥) →
          lane_numbers (slice_set lanes l new) k ≡ lane_numbers lanes k
      numbers_else k differs = ap numbers_in (get-set_other lanes l k new differs)

      only_else : (k p i : ℕ) →
          slice_get (lane_numbers (slice_set lanes l new) k) p ≡ Some i →
          found_at homed i ≡ Some (k, p)
      only_else k p i at =
          ⊎_elim
          (λ e. absurd (none-some i (sym (ap (λ numbers. slice_get numbers p)
          (ap (λ n. lane_numbers (slice_set lanes l new) n) e ∙ numbers_now)) ∙ at)))
          (λ differs. elsewhere i k p (whole.only k p i
          (sym (ap (λ numbers. slice_get numbers p) (numbers_else k differs)) ∙ at)) differs)
          (cases_eq k l)

      pub whole_homed : IsWhole homed (slice_set lanes l new)
      whole_homed = record {
        there = λ i k p found.
            let was = still_there i k p found in
            ap (λ numbers. slice_get numbers p) (numbers_else k was.1)
            ∙ whole.there i k p was.0;
        only = only_else;
        fit = each_set IsFit lanes l new whole.fit fit;
      }

module _ {C O R : Type 0} (m : Meaning C O R) (objects : List (Object C))
    (lanes : List (Lane C O R)) (l : ℕ) (old new : Lane C O R) (whole : IsWhole objects lanes)
    (here : slice_get lanes l ≡ Some old) (done : old.pending.items ≡ []) where
  -- a lane with nothing pending comes to what it has
  pub load_done : load_of m old ≡ load_from old.values.items old.part
  load_done = ap (λ entries. after_entries m (load_from old.values.items old.part) entries) done

  abbrev lanes_now : List (Lane C O R)
  lanes_now = slice_set lanes l new

  stays_home : (i : ℕ) (object object_now : Object C) → lane_and_place object ≡ None →
      slice_get objects i ≡ Some object →
      slice_get (homed objects lanes l old new whole here) i ≡ Some object_now →
      object_now ≡ object
  stays_home i object object_now home at now =
      same_Some _ _ (sym now ∙ stayed objects lanes l old new whole here i
      (λ q found. none-some _ (sym home ∙ (sym (ap found_in at) ∙ found))) ∙ at)

  sent_same_value : (i lane place : ℕ) (was : C) (object object_now : Object C) →
      lane_and_place object ≡ Some (lane, place) →
      value_after m lanes object ≡ value_in m (slice_get lanes lane) place was →
      value_after m lanes_now object ≡ value_in m (slice_get lanes_now lane) place was →
      slice_get objects i ≡ Some object →
      slice_get (homed objects lanes l old new whole here) i ≡ Some object_now →
      value_after m lanes_now object_now ≡ value_after m lanes object
  sent_same_value i lane place was object object_now sent value value_now at now =
      ⊎_elim
      (λ e.
      let found : lane_and_place object ≡ Some (l, place) = sent ∙ ap (λ n. Some (n, place)) e in
      let below = within objects lanes l old new whole here i place (ap found_in at ∙ found) in
      let home = came objects lanes l old new whole here i place object
      (get_or old.values.items place was) at found
      (slice_get-get_or old.values.items place was below) in
      ap (value_after m lanes_now) (same_Some _ _ (sym now ∙ home))
      ∙ sym (value
      ∙ ap (λ n. value_in m (slice_get lanes n) place was) e
      ∙ ap (λ lane. value_in m lane place was) here
      ∙ ap (λ load. get_or load.values place was) load_done))
      (λ differs.
      let same : object_now ≡ object = same_Some _ _ (sym now
      ∙ stayed objects lanes l old new whole here i
      (λ q found. differs (some_pair_parts _ _ _ _ (sym sent ∙ (sym (ap found_in at) ∙ found))).0)
      ∙ at) in
      ap (value_after m lanes_now) same ∙ value_now
      ∙ ap (λ found. value_in m found place was) (get-set_other lanes l lane new differs)
      ∙ sym value)
      (cases_eq lane l)

  value_same : (i : ℕ) (object object_now : Object C) → slice_get objects i ≡ Some object →
      slice_get (homed objects lanes l old new whole here) i ≡ Some object_now →
      value_after m lanes_now object_now ≡ value_after m lanes object
  value_same i (Here value) object_now at now =
      ap (value_after m lanes_now) (stays_home i (Here value) object_now refl at now)
  value_same i (Shared shared) object_now at now =
      ap (value_after m lanes_now) (stays_home i (Shared shared) object_now refl at now)
  value_same i (Sent lane place was) object_now at now =
      sent_same_value i lane place was.value (Sent lane place was) object_now refl refl refl at now

  -- the objects' values stay
  pub values_homed :
      map (value_after m lanes_now) (homed objects lanes l old new whole here)
      ≡ map (value_after m lanes) objects
  values_homed =
      map_both (value_after m lanes) (value_after m lanes_now) objects
      (homed objects lanes l old new whole here)
      (length-brought objects old.numbers.items old.values.items) value_same

  -- a lane that comes home leaves the store as it is
  module _ (laws : ReducibleLaws m.unit m.join) (total : R) (idle : IsIdle new) where
    pub total_homed :
        total_after m (with_part m total old.part) lanes_now ≡ total_after m total lanes
    total_homed =
        sym (ap (λ load. total_after m (with_part m total load.part) lanes_now) load_done)
        ∙ total_home m laws total lanes l old new here (idle_part m new idle)

    pub sent_homed : (logs : List (List Run)) (log : List Run) → slice_get logs l ≡ Some log →
        sent_runs (slice_set logs l (log ++ old.ran.items)) lanes_now ≡ sent_runs logs lanes
    sent_homed logs log logged =
        sym (ap (λ runs. sent_runs (slice_set logs l (log ++ runs)) lanes_now)
        (ap (λ entries. old.ran.items ++ map (λ entry. entry.run) entries) done
        ∙ append-nil old.ran.items))
        ∙ sent_home logs lanes l log old new logged here (idle_runs new idle)

-- the same of stores
pub comes_home : {C O R : Type 0} (m : Meaning C O R) (store now : Store C O R) (l : ℕ)
    (old new : Lane C O R) (log : List Run) → ReducibleLaws m.unit m.join →
    IsWholeStore store → slice_get store.lanes.items l ≡ Some old → old.pending.items ≡ [] →
    IsIdle new → slice_get store.logs.items l ≡ Some log →
    now.objects.items ≡ brought store.objects.items old.numbers.items old.values.items →
    now.total ≡ with_part m store.total old.part →
    now.lanes.items ≡ slice_set store.lanes.items l new →
    now.logs.items ≡ slice_set store.logs.items l (log ++ old.ran.items) →
    ComesHome m store now l
comes_home m store now l old new log laws whole here done idle logged objects_are total_is lanes_are
    logs_are =
    let objects = store.objects.items in
    let lanes = store.lanes.items in
    record {
      continues = record {
        state = rw (
          objects_are,
          total_is,
          lanes_are,
          values_homed m objects lanes l old new whole here done,
          total_homed m objects lanes l old new whole here done laws store.total idle,
        ) refl;
        sent = rw (logs_are, lanes_are)
            (sent_homed m objects lanes l old new whole here done laws store.total idle
            store.logs.items log logged);
        whole = rw (objects_are, lanes_are)
            (whole_homed objects lanes l old new whole here
            (nil_from_length new.numbers.items idle.numbers) (idle_fit new idle));
        objects = ap length objects_are
            ∙ length-brought objects old.numbers.items old.values.items;
        lanes = ap length lanes_are ∙ length-set lanes l new;
        logs = rw logs_are (fronts_more store.logs.items l log old.ran.items logged);
      };
      idle = λ lane at. subst IsIdle (same_Some _ _
          (sym (ap (λ lanes. slice_get lanes l) lanes_are ∙ get-set lanes l old new here) ∙ at)) idle;
      others = λ n differs. ap (λ lanes. slice_get lanes n) lanes_are
          ∙ get-set_other lanes l n new differs;
      found = λ n k p found.
          (still_there objects lanes l old new whole here n k p
          (sym (ap (λ objects. found_at objects n) objects_are) ∙ found)).0;
    }
