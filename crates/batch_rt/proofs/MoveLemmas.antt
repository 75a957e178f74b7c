-- An object goes to a lane, and an operation to the end of its lane's list.
use Rattle.std.proofs.Common.{◌≡◌, ℕ, ◌<◌, ◌+◌, append_assoc, Some, None, List, [], ◌∷◌, ◌++◌, ⊎_elim, map, length, refl, sym, ap, ◌∙◌, subst, get_or, arith}
use Rattle.std.specs.Prelude.{slice_get, slice_set}
use Rattle.std.specs.Option.{option_map}
use Rattle.std.specs.Arc.{arc_value}
use Rattle.std.proofs.lemmas.List.{length-map, map_push, length_push, get_or_append_left, get_or-set_other}
use Rattle.std.proofs.lemmas.List.Sums.{fold_push}
use Rattle.std.proofs.lemmas.Option.{none-some, same_Some, some_pair_parts, slice_get_within, slice_get-get_or, slice_get-map, get_or_from_slice_get}
use Rattle.std.proofs.lemmas.Bool.{cases_eq}
use Rattle.ss_base.specs.declared.ids.ObjectId.{ObjectId}
use Rattle.class_laws.specs.Laws.{ReducibleLaws}
use Rattle.execution_definitions.specs.Meanings.{Meaning}
use Rattle.execution_definitions.specs.Sequential.{operated, operated_on}
use Rattle.execution_definitions.proofs.lists.ListLemmas.{slice_get-front, slice_get-append_seam}
use Rattle.delegation.specs.PlainParts.{state_of}
use Rattle.batch_rt.specs.declared.object.Object.{Object}
use Rattle.batch_rt.specs.declared.object.Object.TheVariants.{Here, Shared, Sent}
use Rattle.batch_rt.specs.declared.lane.Lane.{Lane}
use Rattle.batch_rt.specs.declared.lane.Entry.{Entry}
use Rattle.batch_rt.specs.Objects.{lane_and_place, value_at_home}
use Rattle.batch_rt.specs.Lanes.{load_from, load_of, lane_runs, after_entry, after_entries, run_on, stepped, IsFit}
use Rattle.batch_rt.specs.Stores.{value_in, value_after, total_after, state_from, numbers_in, lane_numbers, found_in, found_at, IsWhole}
use Rattle.batch_rt.proofs.ListLemmas.{get-set, get-set_other, set_same, push_cases, map_one}
use Rattle.batch_rt.proofs.LaneLemmas.{length-after, pushed, after_entries-pushed}
use Rattle.batch_rt.proofs.StoreLemmas.{numbers_of, each_set, value_home, value_here, values_set, whole_lane}
use Rattle.batch_rt.proofs.TotalLemmas.{total_more, total_put}

module _ {C O R : Type 0} (m : Meaning C O R) where
  -- the value of an object that is in a lane
  pub value_sent : (lanes : List (Lane C O R)) (object : Object C) (l place : ℕ)
      (lane : Lane C O R) (value : C) → lane_and_place object ≡ Some (l, place) →
      slice_get lanes l ≡ Some lane → slice_get (load_of m lane).values place ≡ Some value →
      value_after m lanes object ≡ value
  value_sent lanes (Here v) l place lane value sent here at = absurd cc
  value_sent lanes (Shared shared) l place lane value sent here at = absurd cc
  value_sent lanes (Sent k p was) l place lane value sent here at =
      let same = some_pair_parts _ _ _ _ sent in
      ap (λ n. value_in m (slice_get lanes n) p was.value) same.0
      ∙ ap (λ found. value_in m found p was.value) here
      ∙ ap (λ n. get_or (load_of m lane).values n was.value) same.1
      ∙ get_or_from_slice_get (load_of m lane).values place value was.value at

  -- the places of a lane are those of its values
  pub length-load : (lane : Lane C O R) → IsFit lane →
      length (load_of m lane).values ≡ length lane.numbers.items
  length-load lane fit =
      length-after m (load_from lane.values.items lane.part) lane.pending.items ∙ fit.numbered

  module _ (objects : List (Object C)) (lanes : List (Lane C O R)) (l : ℕ)
      (old new : Lane C O R) (whole : IsWhole objects lanes) (here : slice_get lanes l ≡ Some old)
    where
      fit_old : IsFit old
      fit_old = whole.fit l old here

      -- the values of a lane that are read elsewhere stay
      abbrev KeepsOthers : ℕ → Type 0
      KeepsOthers o = (p n : ℕ) (none : C) → (n ≡ o → ⊥) →
          slice_get (numbers_of old.numbers.items) p ≡ Some n →
          get_or (load_of m new).values p none ≡ get_or (load_of m old).values p none

      -- so the values of all other objects stay
      other_value : (o : ℕ) → KeepsOthers o → (n : ℕ) (object : Object C) →
          slice_get objects n ≡ Some object → (n ≡ o → ⊥) →
          value_after m (slice_set lanes l new) object ≡ value_after m lanes object
      other_value o keeps n (Here value) at differs = refl
      other_value o keeps n (Shared shared) at differs = refl
      other_value o keeps n (Sent k p was) at differs =
          ⊎_elim
          (λ e.
          let placed : slice_get (numbers_of old.numbers.items) p ≡ Some n =
          sym (ap (λ numbers. slice_get numbers p)
          (ap (λ n. lane_numbers lanes n) e ∙ ap numbers_in here))
          ∙ whole.there n k p (ap found_in at) in
          ap (λ n. value_in m (slice_get (slice_set lanes l new) n) p was.value) e
          ∙ ap (λ found. value_in m found p was.value) (get-set lanes l old new here)
          ∙ keeps p n was.value differs placed
          ∙ sym (ap (λ found. value_in m found p was.value) here)
          ∙ sym (ap (λ n. value_in m (slice_get lanes n) p was.value) e))
          (λ apart. ap (λ found. value_in m found p was.value) (get-set_other lanes l k new apart))
          (cases_eq k l)

      placed_below : (p n : ℕ) → slice_get (numbers_of old.numbers.items) p ≡ Some n →
          p < length (load_of m old).values
      placed_below p n at =
          let inside = slice_get_within (numbers_of old.numbers.items) p n at in
          let mapped = length-map old.numbers.items (λ number. number.0) in
          let count = length-load old fit_old in
          omega (arith, inside, mapped, count)

      -- an object at home goes to the lane
      module _ (o : ObjectId) (object sent : Object C) (value : C) (place : ℕ)
          (at : slice_get objects o.0 ≡ Some object) (home : value_at_home object ≡ Some value)
          (found : lane_and_place object ≡ None) (goes : lane_and_place sent ≡ Some (l, place))
          (place_is : place ≡ length old.values.items)
          (numbers : new.numbers.items ≡ old.numbers.items ++ o ∷ [])
          (values : new.values.items ≡ old.values.items ++ value ∷ [])
          (pending : new.pending.items ≡ old.pending.items) (part : new.part ≡ old.part) where
        load_pushed : load_of m new ≡ pushed m (load_of m old) value
        load_pushed =
            ap (λ entries. after_entries m (load_from new.values.items new.part) entries) pending
            ∙ ap (λ items. after_entries m (load_from items new.part) old.pending.items) values
            ∙ ap (λ part. after_entries m (load_from (old.values.items ++ value ∷ []) part)
            old.pending.items) part
            ∙ after_entries-pushed m (load_from old.values.items old.part) value old.pending.items
            fit_old.placed

        keeps_sent : KeepsOthers o.0
        keeps_sent p n none differs placed =
            ap (λ load. get_or load.values p none) load_pushed
            ∙ get_or_append_left (load_of m old).values (value ∷ []) none p
            (placed_below p n placed)

        last_value : slice_get (load_of m new).values place ≡ Some value
        last_value =
            ap (λ load. slice_get load.values place) load_pushed
            ∙ ap (λ n. slice_get ((load_of m old).values ++ value ∷ []) n)
            (place_is ∙ fit_old.numbered ∙ sym (length-load old fit_old))
            ∙ slice_get-append_seam (load_of m old).values value []

        values_sent : map (value_after m (slice_set lanes l new)) (slice_set objects o.0 sent)
            ≡ map (value_after m lanes) objects
        values_sent =
            map_one (value_after m lanes) (value_after m (slice_set lanes l new)) objects o.0 sent
            (λ n other at differs. other_value o.0 keeps_sent n other at differs)
            ∙ ap (λ v. slice_set (map (value_after m lanes) objects) o.0 v)
            (value_sent (slice_set lanes l new) sent l place new value goes
            (get-set lanes l old new here) last_value
            ∙ sym (value_home m lanes object value home))
            ∙ set_same (map (value_after m lanes) objects) o.0 (value_after m lanes object)
            (slice_get-map (value_after m lanes) objects o.0
            ∙ ap (option_map (value_after m lanes)) at)

        numbers_at : lane_numbers (slice_set lanes l new) l
            ≡ numbers_of old.numbers.items ++ o.0 ∷ []
        numbers_at =
            ap numbers_in (get-set lanes l old new here) ∙ ap numbers_of numbers
            ∙ map_push (λ number. number.0) old.numbers.items o

        place_at : place ≡ length (numbers_of old.numbers.items)
        place_at = place_is ∙ fit_old.numbered ∙ sym (length-map old.numbers.items (λ n. n.0))

        found_now : found_at (slice_set objects o.0 sent) o.0 ≡ Some (l, place)
        found_now = ap found_in (get-set objects o.0 object sent at) ∙ goes

        found_other : (n : ℕ) → (n ≡ o.0 → ⊥) →
            found_at (slice_set objects o.0 sent) n ≡ found_at objects n
        found_other n differs = ap found_in (get-set_other objects o.0 n sent differs)

        there_old : (n k p : ℕ) → found_at objects n ≡ Some (k, p) →
            slice_get (lane_numbers (slice_set lanes l new) k) p ≡ Some n
        there_old n k p is =
            ⊎_elim
            (λ e.
            let was : slice_get (numbers_of old.numbers.items) p ≡ Some n =
            sym (ap (λ numbers. slice_get numbers p)
            (ap (λ n. lane_numbers lanes n) e ∙ ap numbers_in here)) ∙ whole.there n k p is in
            ap (λ n. slice_get (lane_numbers (slice_set lanes l new) n) p) e
            ∙ ap (λ numbers. slice_get numbers p) numbers_at
            ∙ slice_get-front (numbers_of old.numbers.items) (o.0 ∷ []) p
            (slice_get_within (numbers_of old.numbers.items) p n was) ∙ was)
            (λ apart. ap (λ numbers. slice_get numbers p)
            (ap numbers_in (get-set_other lanes l k new apart)) ∙ whole.there n k p is)
            (cases_eq k l)

        there_now : (n k p : ℕ) → found_at (slice_set objects o.0 sent) n ≡ Some (k, p) →
            slice_get (lane_numbers (slice_set lanes l new) k) p ≡ Some n
        there_now n k p is =
            ⊎_elim
            (λ e.
            let same = some_pair_parts _ _ _ _
            (sym found_now ∙ (sym (ap (λ n. found_at (slice_set objects o.0 sent) n) e) ∙ is)) in
            ap (λ n. slice_get (lane_numbers (slice_set lanes l new) n) p) (sym same.0)
            ∙ ap (λ numbers. slice_get numbers p) numbers_at
            ∙ ap (λ n. slice_get (numbers_of old.numbers.items ++ o.0 ∷ []) n)
            (sym same.1 ∙ place_at)
            ∙ slice_get-append_seam (numbers_of old.numbers.items) o.0 [] ∙ ap Some (sym e))
            (λ differs. there_old n k p (sym (found_other n differs) ∙ is))
            (cases_eq n o.0)

        only_old : (k p n : ℕ) → slice_get (lane_numbers lanes k) p ≡ Some n →
            found_at (slice_set objects o.0 sent) n ≡ Some (k, p)
        only_old k p n is =
            let was = whole.only k p n is in
            found_other n (λ e. none-some _ (sym (ap found_in at ∙ found)
            ∙ (sym (ap (λ n. found_at objects n) e) ∙ was)))
            ∙ was

        only_now : (k p n : ℕ) →
            slice_get (lane_numbers (slice_set lanes l new) k) p ≡ Some n →
            found_at (slice_set objects o.0 sent) n ≡ Some (k, p)
        only_now k p n is =
            ⊎_elim
            (λ e.
            ⊎_elim
            (λ inside. only_old k p n
            (ap (λ numbers. slice_get numbers p)
            (ap (λ n. lane_numbers lanes n) e ∙ ap numbers_in here) ∙ inside))
            (λ last. ap (λ n. found_at (slice_set objects o.0 sent) n) last.1 ∙ found_now
            ∙ ap (λ n. Some (n, place)) (sym e)
            ∙ ap (λ q. Some (k, q)) (place_at ∙ sym last.0))
            (push_cases (numbers_of old.numbers.items) o.0 p n
            (sym (ap (λ numbers. slice_get numbers p) numbers_at)
            ∙ (sym (ap (λ n. slice_get (lane_numbers (slice_set lanes l new) n) p) e) ∙ is))))
            (λ apart. only_old k p n
            (sym (ap (λ numbers. slice_get numbers p)
            (ap numbers_in (get-set_other lanes l k new apart))) ∙ is))
            (cases_eq k l)

        fit_sent : IsFit new
        fit_sent = record {
          numbered = ap length values ∙ length_push old.values.items value
              ∙ ap (λ n. n + 1) fit_old.numbered
              ∙ sym (length_push old.numbers.items o) ∙ sym (ap length numbers);
          placed = λ k entry is.
              let below = fit_old.placed k entry (ap (λ entries. slice_get entries k) (sym pending) ∙ is) in
              let count = ap length values ∙ length_push old.values.items value in
              omega (arith, below, count);
        }

        whole_sent : IsWhole (slice_set objects o.0 sent) (slice_set lanes l new)
        whole_sent = record {
          there = there_now;
          only = only_now;
          fit = each_set IsFit lanes l new whole.fit fit_sent;
        }

        pub sends : (map (value_after m (slice_set lanes l new)) (slice_set objects o.0 sent)
            ≡ map (value_after m lanes) objects)
            × ((load_of m new).part ≡ (load_of m old).part)
            × IsWhole (slice_set objects o.0 sent) (slice_set lanes l new)
        sends = (values_sent, ap (λ load. load.part) load_pushed, whole_sent)

      -- an operation goes to the end of the lane's list
      module _ (o : ℕ) (object : Object C) (entry : Entry C O R)
          (at : slice_get objects o ≡ Some object)
          (goes : lane_and_place object ≡ Some (l, entry.place))
          (numbers : new.numbers.items ≡ old.numbers.items)
          (values : new.values.items ≡ old.values.items)
          (pending : new.pending.items ≡ old.pending.items ++ entry ∷ [])
          (part : new.part ≡ old.part) (ran : new.ran.items ≡ old.ran.items) where
        load_put : load_of m new ≡ after_entry m (load_of m old) entry
        load_put =
            ap (λ entries. after_entries m (load_from new.values.items new.part) entries) pending
            ∙ ap (λ items. after_entries m (load_from items new.part)
            (old.pending.items ++ entry ∷ [])) values
            ∙ ap (λ part. after_entries m (load_from old.values.items part)
            (old.pending.items ++ entry ∷ [])) part
            ∙ fold_push (after_entry m) (load_from old.values.items old.part) old.pending.items entry

        number_here : slice_get (numbers_of old.numbers.items) entry.place ≡ Some o
        number_here =
            sym (ap (λ numbers. slice_get numbers entry.place) (ap numbers_in here))
            ∙ whole.there o l entry.place (ap found_in at ∙ goes)

        pub value_now : slice_get (load_of m old).values entry.place
            ≡ Some (value_after m lanes object)
        value_now =
            let some = slice_get-get_or (load_of m old).values entry.place (value_after m lanes object)
            (placed_below entry.place o number_here) in
            some ∙ ap Some (sym (value_sent lanes object l entry.place old _ goes here some))

        abbrev step_now : C × R
        step_now = m.step (value_after m lanes object) entry.op (option_map arc_value entry.reading)

        pub load_stepped : load_of m new ≡ stepped m (load_of m old) entry.place step_now
        load_stepped =
            load_put
            ∙ ap (λ found. run_on m (load_of m old) entry.place entry.op
            (option_map arc_value entry.reading) found) value_now

        keeps_put : KeepsOthers o
        keeps_put p n none differs placed =
            ap (λ load. get_or load.values p none) load_stepped
            ∙ get_or-set_other (load_of m old).values entry.place p step_now.0 none
            (λ e. differs (same_Some _ _
            (sym placed ∙ ap (λ q. slice_get (numbers_of old.numbers.items) q) e ∙ number_here)))

        pub values_put : map (value_after m (slice_set lanes l new)) objects
            ≡ slice_set (map (value_after m lanes) objects) o step_now.0
        values_put =
            sym (ap (λ objects. map (value_after m (slice_set lanes l new)) objects)
            (set_same objects o object at))
            ∙ map_one (value_after m lanes) (value_after m (slice_set lanes l new)) objects o object
            (λ n other at differs. other_value o keeps_put n other at differs)
            ∙ ap (λ v. slice_set (map (value_after m lanes) objects) o v)
            (value_sent (slice_set lanes l new) object l entry.place new step_now.0 goes
            (get-set lanes l old new here)
            (ap (λ load. slice_get load.values entry.place) load_stepped
            ∙ get-set (load_of m old).values entry.place (value_after m lanes object) step_now.0
            value_now))

        pub runs_put : lane_runs new ≡ lane_runs old ++ entry.run ∷ []
        runs_put =
            ap (λ runs. runs ++ map (λ entry. entry.run) new.pending.items) ran
            ∙ ap (λ entries. old.ran.items ++ map (λ entry. entry.run) entries) pending
            ∙ ap (λ runs. old.ran.items ++ runs)
            (map_push (λ entry. entry.run) old.pending.items entry)
            ∙ sym (append_assoc old.ran.items (map (λ entry. entry.run) old.pending.items)
            (entry.run ∷ []))

        fit_put : IsFit new
        fit_put = record {
          numbered = ap length values ∙ fit_old.numbered ∙ sym (ap length numbers);
          placed = λ k other is. subst (λ items. other.place < length items) (sym values)
              (⊎_elim
              (λ inside. fit_old.placed k other inside)
              (λ last. subst (λ e. e.place < length old.values.items) (sym last.1)
              (let below = placed_below entry.place o number_here in
              let count = length-load old fit_old in
              let numbered = fit_old.numbered in omega (arith, below, count, numbered)))
              (push_cases old.pending.items entry k other
              (ap (λ entries. slice_get entries k) (sym pending) ∙ is)));
        }

        -- so the store comes to what the operation leaves
        pub state_put : (total : R) → ReducibleLaws m.unit m.join →
            state_from m objects total (slice_set lanes l new)
            ≡ operated m (state_from m objects total lanes) o entry.op
            (option_map arc_value entry.reading)
        state_put total laws =
            ap (λ values. state_of values (total_after m total (slice_set lanes l new))) values_put
            ∙ ap (λ sum. state_of (slice_set (map (value_after m lanes) objects) o step_now.0) sum)
            (total_put m laws total step_now.1 lanes l old new here (ap (λ load. load.part) load_stepped))
            ∙ sym (ap (λ found. operated_on m (state_from m objects total lanes) o entry.op
            (option_map arc_value entry.reading) found) (value_here m objects lanes o object at))

        pub whole_put : IsWhole objects (slice_set lanes l new)
        whole_put = whole_lane objects lanes l old new whole here numbers fit_put

  -- an operation on an object at home
  pub state_operated : (objects : List (Object C)) (lanes : List (Lane C O R)) (o : ℕ)
      (object : Object C) (op : O) (value after : C) (total sum : R) →
      ReducibleLaws m.unit m.join → slice_get objects o ≡ Some object →
      value_at_home object ≡ Some value → after ≡ (m.step value op None).0 →
      sum ≡ m.join total (m.step value op None).1 →
      state_from m (slice_set objects o (Here after)) sum lanes
      ≡ operated m (state_from m objects total lanes) o op None
  state_operated objects lanes o object op value after total sum laws at home after_is sum_is =
      ap (λ values. state_of values (total_after m sum lanes))
      (values_set m objects lanes o (Here after) (m.step value op None).0 (ap Some after_is))
      ∙ ap (λ sum. state_of (slice_set (map (value_after m lanes) objects) o (m.step value op None).0)
      (total_after m sum lanes)) sum_is
      ∙ ap (λ sum. state_of (slice_set (map (value_after m lanes) objects) o (m.step value op None).0)
      sum) (total_more m laws total (m.step value op None).1 lanes)
      ∙ sym (ap (λ found. operated_on m (state_from m objects total lanes) o op None found)
      (value_here m objects lanes o object at
      ∙ ap Some (value_home m lanes object value home)))

-- the laws of a class's contributions
pub laws_from : {C O R : Type 0} (m : Meaning C O R) (unit : R) (join : R → R → R) →
    m.unit ≡ unit → m.join ≡ join → ReducibleLaws unit join → ReducibleLaws m.unit m.join
laws_from m unit join unit_is join_is laws =
    subst (λ u. ReducibleLaws u m.join) (sym unit_is)
    (subst (λ j. ReducibleLaws unit j) (sym join_is) laws)
