-- The core stands after the calls that were taken: what waits drains to what they leave.
--
-- Each entry's object is held to a set of its lane until the entry takes effect. So entries of
-- different lanes have different objects, and what a call touches waits in no lane but its own.
use Rattle.std.proofs.Common.{◌≡◌, ◌≢◌, ℕ, zero, suc, ◌+◌, ◌<◌, ◌≤◌, Bool, true, false, ◌&&◌, Option, Some, None, List, [], ◌∷◌, ◌++◌, length, refl, sym, ap, ◌∙◌, subst, arith, ⊎_elim}
use Rattle.std.specs.Prelude.{slice_get, ◌==◌, if◌then◌else◌}
use Rattle.std.specs.List.{list_all}
use Rattle.std.specs.Option.{option_map}
use Rattle.std.proofs.Math.Nat.{mod-lt}
use Rattle.std.proofs.lemmas.Bool.{eqb-true}
use Rattle.std.proofs.lemmas.Bool.Decides.{nat_tests}
use Rattle.std.proofs.lemmas.Option.{same_Some}
use Rattle.ss_base.specs.declared.ids.ObjectId.{ObjectId}
use Rattle.ss_base.specs.Ids.{object_id}
use Rattle.execution_definitions.specs.declared.call.Call.{Call}
use Rattle.execution_definitions.specs.declared.call.Call.TheVariants.{Make, MakeFixed, Begin, Delegate, Write, Get, End, Total}
use Rattle.execution_definitions.specs.declared.call.Reply.TheVariants as reply
use Rattle.execution_definitions.specs.Shapes as shape
use Rattle.execution_definitions.specs.Shapes.{Shape}
use Rattle.execution_definitions.specs.Sets.{object_count, serializer_in, set_of, lane_of_set}
use Rattle.execution_definitions.specs.Epochs.{isolating}
use Rattle.execution_definitions.specs.Held.{frees, later_set, last_set, held_set}
use Rattle.execution_definitions.specs.Refusals.{breaks, if_reading, private_object}
use Rattle.execution_definitions.specs.Meanings.{Meaning, number_given, shape_of, shapes_of}
use Rattle.execution_definitions.specs.Sequential.{State, value_read, operated, state_after, reply_of, sequential_state}
use Rattle.interleavings.specs.Merges.{set_since_begin, has_lane, waits_for}
use Rattle.interleavings.specs.Machines.{Entry, Core, is_empty, is_idle, front_at, is_idle_for, drained, taken, may_take, call_event}
use Rattle.execution_definitions.proofs.shapes.EpochsLemmas.{IsWithin}
use Rattle.execution_definitions.proofs.shapes.SetsLemmas.{object_count-same}
use Rattle.execution_definitions.proofs.shapes.HeldLemmas.{held_set-push}
use Rattle.execution_definitions.proofs.shapes.RefusalsLemmas.{first_of-none, known}
use Rattle.execution_definitions.proofs.programs.SequentialLemmas.{shapes_of-push, sequential_state-push}
use Rattle.interleavings.proofs.programs.ObjectsLemmas.{objects_counted}
use Rattle.interleavings.proofs.programs.OperatedLemmas.{JoinsInAnyOrder, operated-length}
use Rattle.interleavings.proofs.shapes.HoldingLemmas.{Holds, is_delegate, accepted, accepted_write, accepted_total, holds_from, set_since_begin-open, unread_when_held, judge}
use Rattle.interleavings.proofs.machines.DrainLemmas.{EachEntry, EachLane, each_entry-map, each_lane-flat, each_lane-front, each_lane-with_entry, each_lane-without_front, length-with_entry, length-without_front, IsElsewhere, AreElsewhere, ElsewhereBefore, ElsewhereBehind, IsWithinCount, lanes_done-length, slice_get-lanes_done, nothing_done, lanes_done-with_object, passes_lanes, front_first, entry_last}

-- ---- lanes

within_lanes : (set n : ℕ) → 0 < n → lane_of_set set n < n
within_lanes set zero some = absurd (omega arith)
within_lanes set (suc n) some = mod-lt set (omega arith)

first_test : (a b : Bool) → (a && b) ≡ true → a ≡ true
first_test true b both = refl
first_test false b both = absurd cc

second_test : (a b : Bool) → (a && b) ≡ true → b ≡ true
second_test true b both = both
second_test false b both = absurd cc

module _ {A : Type 0} where
  -- where nothing waits anywhere nothing waits in a lane
  pub all_idle : (lanes : List (List A)) (lane : ℕ) → list_all is_empty lanes ≡ true →
      is_idle (slice_get lanes lane) ≡ true
  all_idle [] zero none = refl
  all_idle [] (suc lane) none = refl
  all_idle (entries ∷ lanes) zero none =
      first_test (is_empty entries) (list_all is_empty lanes) none
  all_idle (entries ∷ lanes) (suc lane) none =
      all_idle lanes lane (second_test (is_empty entries) (list_all is_empty lanes) none)

idle_and_busy : (idle : Bool) → idle ≡ true → idle ≡ false → ⊥
idle_and_busy idle is is_not = cc

-- ---- an object that is freed

freed : (open_ free : Bool) (later : Option ℕ) → free ≡ true →
    (if open_ then (if free then None else later) else None) ≡ None
freed true true later is = refl
freed true false later is = absurd cc
freed false free later is = refl

freed_by_call : (before : List Shape) (call : Shape) (o : ℕ) → o < object_count before →
    IsWithin call → frees o call ≡ true → held_set (before ++ call ∷ []) o ≡ None
freed_by_call before call o inside within frees_it =
    held_set-push before call o within inside
    ∙ freed (isolating before) (frees o call)
    (later_set (serializer_in before o) o (held_set before o) call) frees_it

itself : (o : ℕ) → (o == o) ≡ true
itself o = grind (arith, nat_tests)

none_or_some : (held : Option ℕ) (set : ℕ) → held ≡ None → held ≡ Some set → ⊥
none_or_some held set none some = cc

open_or_closed : (open_ : Bool) → open_ ≡ true → open_ ≡ false → ⊥
open_or_closed open_ is is_not = cc

-- ---- entries that are held

-- what was read is of no account
forget_reading : (before : List Shape) (o : ℕ) (reading : Option ℕ) (set : ℕ) →
    Holds before o reading set → Holds before o None set
forget_reading before o reading set holds = record {
  is_open = holds.is_open;
  known = holds.known;
  writable = holds.writable;
  held = holds.held;
  last = holds.last;
  shared = tt;
}

module _ {C O : Type 0} where
  -- the entry's object is held to a set of its lane
  pub record IsHeldIn (n : ℕ) (before : List Shape) (lane : ℕ) (entry : Entry C O)
      : Type 0 where
    pub set : ℕ
    pub holds : Holds before entry.run.object.0 None set
    pub lane_is : lane_of_set set n ≡ lane

  module _ (n : ℕ) (before : List Shape) (o set : ℕ) (held : held_set before o ≡ Some set) where
    -- of another lane than the object's
    other_lane : (lane : ℕ) (entry : Entry C O) → IsHeldIn n before lane entry →
        lane ≢ lane_of_set set n → IsElsewhere o entry
    other_lane lane entry its differ = λ same.
        let e : Some set ≡ Some its.set = sym held ∙ ap (held_set before) same ∙ its.holds.held in
        differ (sym its.lane_is ∙ ap (λ s. lane_of_set s n) (sym (same_Some set its.set e)))

    elsewhere_before : (first lane : ℕ) (lanes : List (List (Entry C O))) →
        lane_of_set set n ≡ first + lane → EachLane (IsHeldIn n before) first lanes →
        ElsewhereBefore o lane lanes
    elsewhere_before first zero lanes is all = tt
    elsewhere_before first (suc lane) [] is all = tt
    elsewhere_before first (suc lane) (entries ∷ lanes) is all = (
      each_entry-map (IsHeldIn n before first) (IsElsewhere o)
          (λ entry its. other_lane first entry its (λ same. absurd (omega arith)))
          entries all.0,
      elsewhere_before (suc first) lane lanes (omega arith) all.1,
    )

    elsewhere_above : (first : ℕ) (lanes : List (List (Entry C O))) → lane_of_set set n < first →
        EachLane (IsHeldIn n before) first lanes → AreElsewhere o lanes
    elsewhere_above first [] above all = tt
    elsewhere_above first (entries ∷ lanes) above all = (
      each_entry-map (IsHeldIn n before first) (IsElsewhere o)
          (λ entry its. other_lane first entry its (λ same. absurd (omega arith)))
          entries all.0,
      elsewhere_above (suc first) lanes (omega arith) all.1,
    )

    elsewhere_behind : (first lane : ℕ) (lanes : List (List (Entry C O))) →
        lane_of_set set n ≡ first + lane → EachLane (IsHeldIn n before) first lanes →
        ElsewhereBehind o lane lanes
    elsewhere_behind first zero [] is all = tt
    elsewhere_behind first (suc lane) [] is all = tt
    elsewhere_behind first zero (entries ∷ lanes) is all =
        elsewhere_above (suc first) lanes (omega arith) all.1
    elsewhere_behind first (suc lane) (entries ∷ lanes) is all =
        elsewhere_behind (suc first) lane lanes (omega arith) all.1

  -- an object that isn't held
  unheld_elsewhere : (n : ℕ) (before : List Shape) (o : ℕ) → held_set before o ≡ None →
      (lanes : List (List (Entry C O))) → EachLane (IsHeldIn n before) 0 lanes →
      AreElsewhere o lanes
  unheld_elsewhere n before o none lanes all =
      each_lane-flat (IsHeldIn n before) (IsElsewhere o)
      (λ lane entry its same. none_or_some (held_set before o) its.set none
      (ap (held_set before) same ∙ its.holds.held)) 0 lanes all

  -- an object that an accepted delegation reads
  read_elsewhere : (n : ℕ) (before : List Shape) (o : ℕ) → private_object before o ≡ None →
      (lanes : List (List (Entry C O))) → EachLane (IsHeldIn n before) 0 lanes →
      AreElsewhere o lanes
  read_elsewhere n before o free lanes all =
      each_lane-flat (IsHeldIn n before) (IsElsewhere o)
      (λ lane entry its same. unread_when_held before entry.run.object.0 its.set (Some o)
      its.holds.writable its.holds.held free (sym same)) 0 lanes all

  -- entries wait in an open epoch alone
  closed_empty : (n : ℕ) (before : List Shape) → isolating before ≡ false →
      (lanes : List (List (Entry C O))) → EachLane (IsHeldIn n before) 0 lanes →
      EachEntry {A = List (Entry C O)} (EachEntry (λ entry. ⊥)) lanes
  closed_empty n before is lanes all =
      each_lane-flat (IsHeldIn n before) (λ entry. ⊥)
      (λ lane entry its. open_or_closed (isolating before) its.holds.is_open is) 0 lanes all

-- ---- the core after calls

module _ {C O R : Type 0} (m : Meaning C O R) where
  -- what waits drains to what the calls leave, and each entry's object is held
  pub record StandsAfter (n : ℕ) (before : List (Call C O)) (core : Core C O R) : Type 0 where
    pub count : length core.lanes ≡ n
    pub held : EachLane (IsHeldIn n (shapes_of m before)) 0 core.lanes
    pub objects : object_count (shapes_of m before) ≤ length core.state.values
    pub drains : drained m core ≡ sequential_state m before

  -- what is at the front of a lane may take effect
  module _ (any_order : JoinsInAnyOrder m) (n : ℕ) (before : List (Call C O))
      (core : Core C O R) (stands : StandsAfter n before core) where
    pub stands_after-taken : (lane : ℕ) (front : Option (Entry C O)) → front_at core.lanes lane ≡ front →
        StandsAfter n before (taken m core lane front)
    stands_after-taken lane None is = stands
    stands_after-taken lane (Some entry) is =
        let its = each_lane-front (IsHeldIn n (shapes_of m before)) 0 lane entry core.lanes lane
        (omega arith) stands.held is in
        let same = operated-length m core.state entry.run.object.0 entry.op entry.read in
        let objects = stands.objects in
        record {
          count = length-without_front lane core.lanes ∙ stands.count;
          held = each_lane-without_front (IsHeldIn n (shapes_of m before)) 0 lane core.lanes
              stands.held;
          objects = omega arith;
          drains = front_first m any_order core.state core.lanes lane entry is
              (elsewhere_before n (shapes_of m before) entry.run.object.0 its.set its.holds.held
              0 lane core.lanes (its.lane_is ∙ omega arith) stands.held)
              ∙ stands.drains;
        }

  -- a lane that a call waits for is idle when the call is taken
  idle_lane : (n : ℕ) (core : Core C O R) → length core.lanes ≡ n → (lane : ℕ)
      (last : Option ℕ) → has_lane n lane last ≡ true → is_idle_for core last ≡ true →
      is_idle (slice_get core.lanes lane) ≡ true
  idle_lane n core count lane None has idle = absurd cc
  idle_lane n core count lane (Some set) has idle =
      subst (λ l. is_idle (slice_get core.lanes l) ≡ true)
      (ap (lane_of_set set) count ∙ eqb-true (lane_of_set set n) lane has) idle

  module _ (n : ℕ) (before : List (Call C O)) (core : Core C O R)
      (count : length core.lanes ≡ n) (is_open : isolating (shapes_of m before) ≡ true) where
    idle_at : (lane object : ℕ) →
        has_lane n lane (set_since_begin (shapes_of m before) object) ≡ true →
        is_idle_for core (last_set (shapes_of m before) object) ≡ true →
        is_idle (slice_get core.lanes lane) ≡ true
    idle_at lane object has idle =
        idle_lane n core count lane (last_set (shapes_of m before) object)
        (ap (has_lane n lane) (sym (set_since_begin-open (shapes_of m before) object is_open))
        ∙ has) idle

    waited_is_idle : (call : Call C O) (lane : ℕ) →
        is_delegate (shape_of m.own call) ≡ false →
        waits_for n lane (shapes_of m before) (Some (shape_of m.own call)) ≡ true →
        may_take m before core call ≡ true → is_idle (slice_get core.lanes lane) ≡ true
    waited_is_idle (Make value by) lane plain waits may = absurd cc
    waited_is_idle (MakeFixed value) lane plain waits may = absurd cc
    waited_is_idle Begin lane plain waits may = absurd cc
    waited_is_idle (Delegate object op reading) lane plain waits may = absurd cc
    waited_is_idle (Write object op) lane plain waits may = idle_at lane object.0 waits may
    waited_is_idle (Get object) lane plain waits may = idle_at lane object.0 waits may
    waited_is_idle End lane plain waits may = all_idle core.lanes lane may
    waited_is_idle Total lane plain waits may = absurd cc

  -- one call more
  module _ (n : ℕ) (before : List (Call C O)) (core : Core C O R) (stands : StandsAfter n before core)
      (call : Call C O)
      (accepts : breaks (shapes_of m before) (shape_of m.own call) ≡ None)
      (may : may_take m before core call ≡ true) where
    abbrev after : List Shape
    after = shapes_of m before ++ shape_of m.own call ∷ []

    -- what waits stays held
    still_held : (lane : ℕ) (entry : Entry C O) → is_idle (slice_get core.lanes lane) ≡ false →
        IsHeldIn n (shapes_of m before) lane entry → IsHeldIn n after lane entry
    still_held lane entry busy its = ⊎_elim
        (λ waits. absurd (idle_and_busy (is_idle (slice_get core.lanes lane))
        (waited_is_idle n before core stands.count its.holds.is_open call lane waits.0
        (ap (λ l. waits_for n l (shapes_of m before) (Some (shape_of m.own call)))
        (sym its.lane_is) ∙ waits.1) may)
        busy))
        (λ stays. record { set = its.set; holds = stays.0; lane_is = its.lane_is })
        (judge n (shapes_of m before) entry.run.object.0 None its.set its.holds
        (shape_of m.own call) accepts)

    still_held_lane : (lane : ℕ) (entries : List (Entry C O)) →
        slice_get core.lanes lane ≡ Some entries →
        EachEntry (IsHeldIn n (shapes_of m before) lane) entries →
        EachEntry (IsHeldIn n after lane) entries
    still_held_lane lane [] is all = tt
    still_held_lane lane (first ∷ rest) is all =
        each_entry-map (IsHeldIn n (shapes_of m before) lane) (IsHeldIn n after lane)
        (λ entry its. still_held lane entry (ap is_idle is) its) (first ∷ rest) all

    still_held_from : (first : ℕ) (lanes : List (List (Entry C O))) →
        ((k : ℕ) → slice_get core.lanes (first + k) ≡ slice_get lanes k) →
        EachLane (IsHeldIn n (shapes_of m before)) first lanes →
        EachLane (IsHeldIn n after) first lanes
    still_held_from first [] at all = tt
    still_held_from first (entries ∷ lanes) at all =
        let here : first ≡ first + 0 = omega arith in (
          still_held_lane first entries (ap (slice_get core.lanes) here ∙ at zero) all.0,
          still_held_from (suc first) lanes
              (λ k. let next : suc first + k ≡ first + suc k = omega arith in
              ap (slice_get core.lanes) next ∙ at (suc k)) all.1,
        )

    held_after : EachLane (IsHeldIn n after) 0 core.lanes
    held_after = still_held_from 0 core.lanes
        (λ k. let same : 0 + k ≡ k = omega arith in ap (slice_get core.lanes) same) stands.held

    -- a write or a get finds nothing that waits for the object
    freed_elsewhere : (o : ℕ) → o < object_count (shapes_of m before) →
        IsWithin (shape_of m.own call) → frees o (shape_of m.own call) ≡ true →
        AreElsewhere o core.lanes
    freed_elsewhere o inside within frees_it =
        unheld_elsewhere n after o
        (freed_by_call (shapes_of m before) (shape_of m.own call) o inside within frees_it)
        core.lanes held_after

  objects_inside : (n : ℕ) (before : List (Call C O)) (core : Core C O R) →
      StandsAfter n before core →
      EachEntry {A = List (Entry C O)} (EachEntry (IsWithinCount (object_count (shapes_of m before))))
      core.lanes
  objects_inside n before core stands =
      each_lane-flat (IsHeldIn n (shapes_of m before))
      (IsWithinCount (object_count (shapes_of m before)))
      (λ lane entry its. its.holds.known) 0 core.lanes stands.held

  -- what is read is what it comes to
  read_same : (n : ℕ) (before : List (Call C O)) (core : Core C O R) → StandsAfter n before core →
      (reading : Option ObjectId) →
      if_reading (number_given reading) (private_object (shapes_of m before)) ≡ None →
      value_read core.state.values reading ≡ value_read (drained m core).values reading
  read_same n before core stands None free = refl
  read_same n before core stands (Some read) free =
      sym (slice_get-lanes_done m core.state core.lanes read.0
      (read_elsewhere n (shapes_of m before) read.0 free core.lanes stands.held))

  -- what an accepted call does to the state that is drained
  abbrev DrainsTo : List (Call C O) → Core C O R → Call C O → Type 0
  DrainsTo before core call =
      drained m (call_event m before core call) ≡ state_after m (drained m core) call

  module _ (any_order : JoinsInAnyOrder m) (n : ℕ) (some : 0 < n) (before : List (Call C O))
      (core : Core C O R) (stands : StandsAfter n before core) where
    drains_delegate : (object : ObjectId) (op : O) (reading : Option ObjectId) →
        breaks (shapes_of m before) (shape_of {C = C} m.own (Delegate object op reading)) ≡ None →
        DrainsTo before core (Delegate object op reading)
    drains_delegate object op reading accepts =
        let told = accepted (shapes_of m before) object.0 (m.own op) (number_given reading) accepts in
        let set = set_of (shapes_of m before) object.0 (m.own op) in
        let held = holds_from (shapes_of m before) object.0 (m.own op) (number_given reading)
        accepts in
        let count = stands.count in
        let inside : lane_of_set set (length core.lanes) < length core.lanes =
        within_lanes set (length core.lanes) (omega arith) in
        let lane : lane_of_set set n ≡ 0 + lane_of_set set (length core.lanes) =
        ap (lane_of_set set) (sym count) ∙ omega arith in
        entry_last m any_order core.state core.lanes (lane_of_set set (length core.lanes)) _ inside
        (elsewhere_behind n _ object.0 set held.held 0 (lane_of_set set (length core.lanes))
        core.lanes lane
        (held_after n before core stands (Delegate object op reading) accepts refl))
        ∙ ap (operated m (drained m core) object.0 op)
        (read_same n before core stands reading told.free)

    drains_call : (call : Call C O) →
        breaks (shapes_of m before) (shape_of m.own call) ≡ None →
        may_take m before core call ≡ true → DrainsTo before core call
    drains_call (Make value by) accepts may =
        lanes_done-with_object m core.state value (object_count (shapes_of m before)) core.lanes
        stands.objects (objects_inside n before core stands)
    drains_call (MakeFixed value) accepts may =
        lanes_done-with_object m core.state value (object_count (shapes_of m before)) core.lanes
        stands.objects (objects_inside n before core stands)
    drains_call Begin accepts may = refl
    drains_call (Delegate object op reading) accepts may =
        drains_delegate object op reading accepts
    drains_call (Write object op) accepts may =
        let told = accepted_write (shapes_of m before) object.0 accepts in
        passes_lanes m any_order core.state object.0 op None core.lanes
        (freed_elsewhere n before core stands (Write object op) accepts may object.0 told.known
        (record { no_begin = refl; no_end = refl }) (itself object.0))
    drains_call (Get object) accepts may = refl
    drains_call End accepts may = refl
    drains_call Total accepts may = refl

    -- each entry is held after the call
    held_then : (call : Call C O) →
        breaks (shapes_of m before) (shape_of m.own call) ≡ None →
        may_take m before core call ≡ true →
        EachLane (IsHeldIn n (shapes_of m before ++ shape_of m.own call ∷ [])) 0
        (call_event m before core call).lanes
    held_then (Make value by) accepts may =
        held_after n before core stands (Make value by) accepts may
    held_then (MakeFixed value) accepts may =
        held_after n before core stands (MakeFixed value) accepts may
    held_then Begin accepts may = held_after n before core stands Begin accepts may
    held_then (Delegate object op reading) accepts may =
        let set = set_of (shapes_of m before) object.0 (m.own op) in
        let held = holds_from (shapes_of m before) object.0 (m.own op) (number_given reading)
        accepts in
        each_lane-with_entry
        (IsHeldIn n (shapes_of m before ++ shape_of {C = C} m.own (Delegate object op reading) ∷ []))
        0 (lane_of_set set (length core.lanes)) _ core.lanes
        (lane_of_set set (length core.lanes)) (omega arith)
        (held_after n before core stands (Delegate object op reading) accepts may)
        (record {
          set = set;
          holds = forget_reading _ object.0 (number_given reading) set held;
          lane_is = ap (lane_of_set set) (sym stands.count);
        })
    held_then (Write object op) accepts may =
        held_after n before core stands (Write object op) accepts may
    held_then (Get object) accepts may =
        held_after n before core stands (Get object) accepts may
    held_then End accepts may = held_after n before core stands End accepts may
    held_then Total accepts may = held_after n before core stands Total accepts may

    count_then : (call : Call C O) → length (call_event m before core call).lanes ≡ n
    count_then (Make value by) = stands.count
    count_then (MakeFixed value) = stands.count
    count_then Begin = stands.count
    count_then (Delegate object op reading) =
        length-with_entry _ _ core.lanes ∙ stands.count
    count_then (Write object op) = stands.count
    count_then (Get object) = stands.count
    count_then End = stands.count
    count_then Total = stands.count

    objects_then : (call : Call C O) →
        object_count (shapes_of m before ++ shape_of m.own call ∷ [])
        ≤ length (call_event m before core call).state.values
    objects_then (Make value by) =
        objects_counted m before (Make value by) core.state stands.objects
    objects_then (MakeFixed value) =
        objects_counted m before (MakeFixed value) core.state stands.objects
    objects_then Begin = objects_counted m before Begin core.state stands.objects
    objects_then (Delegate object op reading) =
        let same = object_count-same (shapes_of m before)
        (shape.delegate object.0 (m.own op) (number_given reading)) refl in
        let most = stands.objects in omega arith
    objects_then (Write object op) =
        objects_counted m before (Write object op) core.state stands.objects
    objects_then (Get object) = objects_counted m before (Get object) core.state stands.objects
    objects_then End = objects_counted m before End core.state stands.objects
    objects_then Total = objects_counted m before Total core.state stands.objects

    -- an accepted call keeps this
    pub stands_after-call : (call : Call C O) →
        breaks (shapes_of m before) (shape_of m.own call) ≡ None →
        may_take m before core call ≡ true →
        StandsAfter n (before ++ call ∷ []) (call_event m before core call)
    stands_after-call call accepts may =
        let more = sym (shapes_of-push m before call) in
        record {
          count = count_then call;
          held = subst (λ calls. EachLane (IsHeldIn n calls) 0 (call_event m before core call).lanes)
              more (held_then call accepts may);
          objects = subst (λ calls. object_count calls
              ≤ length (call_event m before core call).state.values) more (objects_then call);
          drains = drains_call call accepts may
              ∙ ap (λ state. state_after m state call) stands.drains
              ∙ sym (sequential_state-push m before call);
        }

  -- the replies are those of the state that is drained
  module _ (n : ℕ) (before : List (Call C O)) (core : Core C O R)
      (stands : StandsAfter n before core) (number : ℕ) where
    reply_drained : (call : Call C O) →
        breaks (shapes_of m before) (shape_of m.own call) ≡ None →
        may_take m before core call ≡ true →
        reply_of m core.state number call ≡ reply_of m (drained m core) number call
    reply_drained (Make value by) accepts may =
        ap (λ k. Some (reply.Made (object_id k))) (sym (lanes_done-length m core.state core.lanes))
    reply_drained (MakeFixed value) accepts may =
        ap (λ k. Some (reply.Made (object_id k))) (sym (lanes_done-length m core.state core.lanes))
    reply_drained Begin accepts may = refl
    reply_drained (Delegate object op reading) accepts may = refl
    reply_drained (Write object op) accepts may = refl
    reply_drained (Get object) accepts may =
        ap (option_map reply.Value) (sym (slice_get-lanes_done m core.state core.lanes object.0
        (freed_elsewhere n before core stands (Get object) accepts may object.0
        (known (shapes_of m before) object.0 (first_of-none _ _ accepts).0)
        (record { no_begin = refl; no_end = refl }) (itself object.0))))
    reply_drained End accepts may = refl
    reply_drained Total accepts may =
        ap (λ (state : State C R). Some (reply.Total state.total))
        (sym (nothing_done m core.state core.lanes (closed_empty n (shapes_of m before)
        (accepted_total (shapes_of m before) accepts) core.lanes stands.held)))

    pub reply_same : (call : Call C O) →
        breaks (shapes_of m before) (shape_of m.own call) ≡ None →
        may_take m before core call ≡ true →
        reply_of m core.state number call ≡ reply_of m (sequential_state m before) number call
    reply_same call accepts may =
        reply_drained call accepts may
        ∙ ap (λ state. reply_of m state number call) stands.drains
