-- A lane store whose lane came home, or took an operation in, as running lanes.
use Rattle.std.proofs.Common.{◌≡◌, ℕ, zero, suc, Bool, true, false, Option, Some, None, List, [], ◌∷◌, ◌++◌, map, length, refl, sym, ap, ap₂, ◌∙◌, subst, arith}
use Rattle.std.specs.Prelude.{◌==◌, is_some, slice_get, slice_set, option_and_then}
use Rattle.std.specs.Option.{option_map}
use Rattle.std.proofs.lemmas.Bool.{eqb-true}
use Rattle.std.proofs.lemmas.List.{map-set, length-map, length-set}
use Rattle.std.proofs.lemmas.Option.{same_Some, none-some, some_pair_parts, slice_get-map}
use Rattle.ss_base.specs.declared.ids.Run.{Run}
use Rattle.class_laws.specs.Laws.{ReducibleLaws}
use Rattle.execution_definitions.specs.Meanings.{Meaning}
use Rattle.interleavings.specs.Machines.{Entry}
use Rattle.partition_check.specs.Marked.{Marked}
use Rattle.set_queue.specs.declared.message.Message.{Message}
use Rattle.delegates.specs.declared.home.Home.{Home}
use Rattle.delegates.specs.Stores.{Stored, value_of, empty_store}
use Rattle.lane_core.specs.Views.{LaneView, LanesView, entries_in}
use Rattle.lane_core.specs.Cores.{carried}
use Rattle.lane_core.specs.Kept.{has_object}
use Rattle.lane_core.specs.Events.{HaveComeOn, HasEntered}
use Rattle.lane_core.proofs.LanesLemmas.{IsServed, AreServed}
use Rattle.lane_core.proofs.StepLemmas.{are_apart, same_as_itself}
use Rattle.lane_core.proofs.ComeLemmas.{come_on-itself, come_on-again}
use Rattle.lane_core.proofs.OnLemmas.{HasComeOn}
use Rattle.lane_core.proofs.ViewLemmas.{IsEmptied, BringsHome, homed, follows, carries}
use Rattle.lane_core.proofs.CallLemmas.{entered_on}
use Rattle.lane_ends.specs.declared.lane_end.LaneEnd.{LaneEnd}
use Rattle.lane_ends.specs.LaneEnds.{base_of, since_of, comes_to, IsWhole, IsIdle, TakesIn}
use Rattle.lane_objects.specs.declared.object.Object.{Object}
use Rattle.lane_objects.specs.declared.object.Object.TheVariants.{Here, Shared, Away}
use Rattle.lane_objects.specs.Objects.{value_at_home, lane_and_number, found_in, found_at, come_with, come_back}
use Rattle.lane_objects.specs.Outcomes.{value_in}
use Rattle.lane_objects.proofs.ListLemmas.{get-set, get-set_other}
use Rattle.lane_store.specs.declared.store.LaneStore.{LaneStore}
use Rattle.lane_store.specs.LaneStores.{stores_of, IsWholeStore}
use Rattle.lane_store.specs.Running.{lane_of_end, lanes_of, running_of, ComesOn, Enters}
use Rattle.lane_store.proofs.TakenLemmas.{find_all}
use Rattle.lane_store.proofs.ViewLemmas.{out_value, seen_at, has_all, base_whole, base_served}

module _ {C W O R : Type 0} (m : Meaning C O R) (home_of : W → Home C O R) where
  -- ---- lanes, as they are seen

  -- where an end is, there is a lane, and another end is another lane
  pub record IsShown (logs : List (List Run)) (ends : List (LaneEnd C W O R)) (l : ℕ)
      (end : LaneEnd C W O R) : Type 0 where
    pub log : List Run
    pub at : slice_get (lanes_of m home_of logs ends) l ≡ Some (lane_of_end m home_of log end)
    pub set :
        (new : LaneEnd C W O R) →
        lanes_of m home_of logs (slice_set ends l new)
        ≡ slice_set (lanes_of m home_of logs ends) l (lane_of_end m home_of log new)

  pub shown_at : (logs : List (List Run)) (ends : List (LaneEnd C W O R)) (l : ℕ)
      (end : LaneEnd C W O R) → slice_get ends l ≡ Some end → IsShown logs ends l end
  shown_at logs [] l end at = absurd cc
  shown_at [] (first ∷ ends) zero end at = record {
    log = [];
    at = ap (λ e. Some (lane_of_end m home_of [] e)) (same_Some first end at);
    set = λ new. refl;
  }
  shown_at (log ∷ logs) (first ∷ ends) zero end at = record {
    log = log;
    at = ap (λ e. Some (lane_of_end m home_of log e)) (same_Some first end at);
    set = λ new. refl;
  }
  shown_at [] (first ∷ ends) (suc l) end at =
      let rest = shown_at [] ends l end at in
      record {
        log = rest.log;
        at = rest.at;
        set = λ new. ap (λ lanes. lane_of_end m home_of [] first ∷ lanes) (rest.set new);
      }
  shown_at (log ∷ logs) (first ∷ ends) (suc l) end at =
      let rest = shown_at logs ends l end at in
      record {
        log = rest.log;
        at = rest.at;
        set = λ new. ap (λ lanes. lane_of_end m home_of log first ∷ lanes) (rest.set new);
      }

  -- with another log too
  pub lanes_set : (logs : List (List Run)) (ends : List (LaneEnd C W O R)) (l : ℕ)
      (log new_log : List Run) (end new : LaneEnd C W O R) → slice_get logs l ≡ Some log →
      slice_get ends l ≡ Some end →
      lanes_of m home_of (slice_set logs l new_log) (slice_set ends l new)
      ≡ slice_set (lanes_of m home_of logs ends) l (lane_of_end m home_of new_log new)
  lanes_set [] ends l log new_log end new logged at = absurd cc
  lanes_set (first ∷ logs) [] l log new_log end new logged at = absurd cc
  lanes_set (first ∷ logs) (e ∷ ends) zero log new_log end new logged at = refl
  lanes_set (first ∷ logs) (e ∷ ends) (suc l) log new_log end new logged at =
      ap (λ lanes. lane_of_end m home_of first e ∷ lanes)
      (lanes_set logs ends l log new_log end new logged at)

  pub lane_here : (logs : List (List Run)) (ends : List (LaneEnd C W O R)) (l : ℕ) (log : List Run)
      (end : LaneEnd C W O R) → slice_get logs l ≡ Some log → slice_get ends l ≡ Some end →
      slice_get (lanes_of m home_of logs ends) l ≡ Some (lane_of_end m home_of log end)
  lane_here [] ends l log end logged at = absurd cc
  lane_here (first ∷ logs) [] l log end logged at = absurd cc
  lane_here (first ∷ logs) (e ∷ ends) zero log end logged at =
      rw (same_Some first log logged, same_Some e end at) refl
  lane_here (first ∷ logs) (e ∷ ends) (suc l) log end logged at =
      lane_here logs ends l log end logged at

  -- lanes that are whole are served
  pub end_served : (log : List Run) (end : LaneEnd C W O R) → IsWhole m home_of end →
      IsServed (lane_of_end m home_of log end)
  end_served log end whole = record {
    whole = base_whole m home_of end.sender end.taker whole;
    served = find_all m (base_of m home_of end) (since_of home_of end)
        (base_whole m home_of end.sender end.taker whole)
        (base_served m home_of end.sender end.taker whole);
  }

  pub all_served : (store : LaneStore C W O R) → IsWholeStore m home_of store →
      AreServed (lanes_of m home_of store.logs.items store.ends.items)
  all_served store whole number lane at =
      let seen = seen_at m home_of store.logs.items store.ends.items number lane at in
      subst IsServed (sym seen.is)
      (end_served seen.log seen.end (whole.lanes number seen.end seen.at))

  -- ---- objects at home

  -- an object that has a value in a lane isn't at home
  value_away : (objects : List (Object C)) (n : ℕ) (place : ℕ × ℕ) (value : C) →
      found_at objects n ≡ Some place → slice_get (map value_at_home objects) n ≡ Some (Some value) → ⊥
  value_away objects n place value found home =
      none-some value (same_Some None (Some value) (sym (out_value objects n place found) ∙ home))

  -- the object of a number
  pub record IsObject (objects : List (Object C)) (n : ℕ) (value : Option C) : Type 0 where
    pub object : Object C
    pub at : slice_get objects n ≡ Some object
    pub is : value_at_home object ≡ value

  pub object_at : (objects : List (Object C)) (n : ℕ) (value : Option C) →
      slice_get (map value_at_home objects) n ≡ Some value → IsObject objects n value
  object_at [] n value at = absurd cc
  object_at (object ∷ objects) zero value at =
      record { object = object; at = refl; is = same_Some (value_at_home object) value at }
  object_at (object ∷ objects) (suc n) value at =
      let rest = object_at objects n value at in
      record { object = rest.object; at = rest.at; is = rest.is }

  pub value_at : (objects : List (Object C)) (n : ℕ) (object : Object C) →
      slice_get objects n ≡ Some object →
      slice_get (map value_at_home objects) n ≡ Some (value_at_home object)
  value_at objects n object at =
      slice_get-map value_at_home objects n ∙ ap (option_map value_at_home) at

  module _ (laws : ReducibleLaws m.unit m.join) (store now : LaneStore C W O R) (l : ℕ)
      (old new : LaneEnd C W O R) (log : List Run) (whole : IsWholeStore m home_of store)
      (here : slice_get store.ends.items l ≡ Some old)
      (logged : slice_get store.logs.items l ≡ Some log) (idle : IsIdle m home_of new)
      (home : (n : ℕ) → slice_get now.objects.items n
      ≡ option_map (come_back (comes_to m home_of old) n) (slice_get store.objects.items n))
      (count : length now.objects.items ≡ length store.objects.items)
      (total_is : now.total ≡ m.join store.total (comes_to m home_of old).total)
      (ends_are : now.ends.items ≡ slice_set store.ends.items l new)
      (logs_are : now.logs.items
      ≡ slice_set store.logs.items l (log ++ (comes_to m home_of old).runs))
    where
      abbrev was : Stored C R
      was = comes_to m home_of old

      abbrev a : LaneView C O R
      a = lane_of_end m home_of log old

      abbrev b : LaneView C O R
      b = lane_of_end m home_of (log ++ was.runs) new

      -- an object that is in the lane
      in_lane : (n : ℕ) (value : C) → value_of was n ≡ Some value →
          found_at store.objects.items n ≡ Some (l, n)
      in_lane n value is = whole.apart.only n l
          (ap (λ s. is_some (option_and_then (λ (s : Stored C R). value_of s n) s))
          (slice_get-map (comes_to m home_of) store.ends.items l
          ∙ ap (option_map (comes_to m home_of)) here)
          ∙ ap (λ o. is_some o) is)

      -- what an object that isn't in the lane comes to
      stays : (n : ℕ) (object : Object C) → slice_get store.objects.items n ≡ Some object →
          ((value : C) → value_of was n ≡ Some value → ⊥) →
          slice_get now.objects.items n ≡ Some object
      stays n object at free =
          home n ∙ ap (option_map (come_back was n)) at ∙ by (value_of was n) refl
        where
          by : (found : Option C) → value_of was n ≡ found → Some (come_with found object) ≡ Some object
          by None is = refl
          by (Some value) is = absurd (free value is)

      brings : (marks : Marked) → BringsHome m (running_of m home_of store marks false)
          (running_of m home_of now marks false) l a
      brings marks = record {
        count = length-map now.objects.items value_at_home ∙ count
            ∙ sym (length-map store.objects.items value_at_home);
        home = λ n value is.
            let object = object_at store.objects.items n (Some value) is in
            value_at now.objects.items n object.object
            (stays n object.object object.at (λ other in_it.
            value_away store.objects.items n (l, n) value (in_lane n other in_it) is))
            ∙ ap Some object.is;
        comes = λ n value is.
            let object = object_at store.objects.items n None
            (out_value store.objects.items n (l, n) (in_lane n value is)) in
            value_at now.objects.items n (Here value)
            (home n ∙ ap (option_map (come_back was n)) object.at
            ∙ ap (λ found. Some (come_with found object.object)) is);
        others = λ n k lane differs at has.
            let seen = seen_at m home_of store.logs.items store.ends.items k lane at in
            let found = whole.apart.only n k
            (ap (λ s. is_some (option_and_then (λ (s : Stored C R). value_of s n) s))
            (slice_get-map (comes_to m home_of) store.ends.items k
            ∙ ap (option_map (comes_to m home_of)) seen.at)
            ∙ has_all m home_of seen.log seen.end (whole.lanes k seen.end seen.at) n
            ∙ sym (ap (λ (lane : LaneView C O R). has_object lane n) seen.is) ∙ has) in
            let object = object_at store.objects.items n None
            (out_value store.objects.items n (k, n) found) in
            value_at now.objects.items n object.object
            (stays n object.object object.at (λ other in_it.
            are_apart k l differs (some_pair_parts _ _ _ _ (sym found ∙ in_lane n other in_it)).0))
            ∙ ap Some object.is;
        total = total_is;
      }

      -- so the lanes have come on
      pub lane_homed : ComesOn m home_of store now
      lane_homed marks =
          homed m laws (running_of m home_of store marks false) (running_of m home_of now marks false)
          l a b (lane_here store.logs.items store.ends.items l log old logged here)
          (ap₂ (lanes_of m home_of) logs_are ends_are
          ∙ lanes_set store.logs.items store.ends.items l log (log ++ was.runs) old new logged here)
          (all_served store whole)
          (record {
            total = ap (λ (s : Stored C R). s.total) idle.empty;
            runs = ap (λ (s : Stored C R). s.runs) idle.empty;
            none = idle.none;
            log = refl;
          })
          (brings marks)

  -- ---- an operation is sent

  module _ (store now : LaneStore C W O R) (l : ℕ) (old new : LaneEnd C W O R)
      (x : Message C O R) (run : Run) (op : O) (read : Option C)
      (whole : IsWholeStore m home_of store) (here : slice_get store.ends.items l ≡ Some old)
      (takes : TakesIn m home_of old new x)
      (asks : entries_in (x ∷ []) ≡ record { run = run; op = op; read = read } ∷ [])
      (total_is : now.total ≡ store.total) (ends_are : now.ends.items ≡ slice_set store.ends.items l new)
      (logs_are : now.logs.items ≡ store.logs.items)
    where
      abbrev e : Entry C O
      e = record { run = run; op = op; read = read }

      lane : IsShown store.logs.items store.ends.items l old
      lane = shown_at store.logs.items store.ends.items l old here

      lanes_are : lanes_of m home_of now.logs.items now.ends.items
          ≡ slice_set (lanes_of m home_of store.logs.items store.ends.items) l
          (lane_of_end m home_of lane.log new)
      lanes_are = ap₂ (lanes_of m home_of) logs_are ends_are ∙ lane.set new

      on : HasComeOn m (lane_of_end m home_of lane.log old) (lane_of_end m home_of lane.log new)
          takes.on.done takes.left
      on = record { log = refl; split = takes.on.split; store = takes.on.store }

      -- to the lane of its object
      pub follow_enters : map value_at_home now.objects.items ≡ map value_at_home store.objects.items →
          Enters m home_of store now l run op read
      follow_enters same marks =
          follows m (running_of m home_of store marks false) (running_of m home_of now marks false) l
          (lane_of_end m home_of lane.log old) (lane_of_end m home_of lane.log new) takes.on.done
          takes.left x e lane.at lanes_are
          (end_served lane.log old (whole.lanes l old here)) on takes.last asks total_is same

      -- with its object
      pub carry_enters : (object goes : Object C) (value : C) →
          slice_get store.objects.items run.object.0 ≡ Some object →
          value_at_home object ≡ Some value → value_at_home goes ≡ None →
          now.objects.items ≡ slice_set store.objects.items run.object.0 goes →
          carried run.object.0 (x ∷ []) ≡ Some value → Enters m home_of store now l run op read
      carry_enters object goes value at was_home gone objects_are has marks =
          let values = map value_at_home store.objects.items in
          let set : map value_at_home now.objects.items ≡ slice_set values run.object.0 None =
          ap (map value_at_home) objects_are
          ∙ map-set value_at_home store.objects.items run.object.0 goes
          ∙ ap (slice_set values run.object.0) gone in
          let was = value_at store.objects.items run.object.0 object at ∙ ap Some was_home in
          carries m (running_of m home_of store marks false) (running_of m home_of now marks false) l
          (lane_of_end m home_of lane.log old) (lane_of_end m home_of lane.log new) takes.on.done
          takes.left x e lane.at lanes_are
          (end_served lane.log old (whole.lanes l old here)) on takes.last asks total_is
          run.object.0 value
          (free (has_object (lane_of_end m home_of lane.log old) run.object.0) refl was)
          (ap length set ∙ length-set values run.object.0 None) was
          (ap (λ xs. slice_get xs run.object.0) set ∙ get-set values run.object.0 (Some value) None was)
          has
          (λ n differs. ap (λ xs. slice_get xs n) set ∙ get-set_other values run.object.0 n None differs)
        where
          free : (has : Bool) → has_object (lane_of_end m home_of lane.log old) run.object.0 ≡ has →
              slice_get (map value_at_home store.objects.items) run.object.0 ≡ Some (Some value) →
              has_object (lane_of_end m home_of lane.log old) run.object.0 ≡ false
          free false is home = is
          free true is home =
              absurd (value_away store.objects.items run.object.0 (l, run.object.0) value
              (whole.apart.only run.object.0 l
              (ap (λ s. is_some (option_and_then (λ (s : Stored C R). value_of s run.object.0) s))
              (slice_get-map (comes_to m home_of) store.ends.items l
              ∙ ap (option_map (comes_to m home_of)) here)
              ∙ has_all m home_of lane.log old (whole.lanes l old here) run.object.0 ∙ is))
              home)

  -- ---- one after the other

  pub comes_on_itself : (store now : LaneStore C W O R) →
      map value_at_home now.objects.items ≡ map value_at_home store.objects.items →
      now.total ≡ store.total → now.ends.items ≡ store.ends.items →
      now.logs.items ≡ store.logs.items → ComesOn m home_of store now
  comes_on_itself store now values total ends logs marks =
      subst (HaveComeOn m (running_of m home_of store marks false))
      (rw (values, total, ends, logs) refl)
      (come_on-itself m (running_of m home_of store marks false))

  pub comes_on_again : (a b c : LaneStore C W O R) → ComesOn m home_of a b → ComesOn m home_of b c →
      ComesOn m home_of a c
  comes_on_again a b c first second marks =
      come_on-again m (running_of m home_of a marks false) (running_of m home_of b marks false)
      (running_of m home_of c marks false) (first marks) (second marks)

  pub enters_after : (a b c : LaneStore C W O R) (l : ℕ) (run : Run) (op : O) (read now : Option C) →
      ComesOn m home_of a b → read ≡ now → Enters m home_of b c l run op read →
      Enters m home_of a c l run op now
  enters_after a b c l run op read now on same sent marks =
      subst (λ r. HasEntered m (running_of m home_of a marks false)
      (running_of m home_of c marks false) l (record { run = run; op = op; read = r })) same
      (entered_on m (running_of m home_of a marks false) (running_of m home_of b marks false)
      (running_of m home_of c marks false) l (record { run = run; op = op; read = read })
      (on marks) (sent marks))
