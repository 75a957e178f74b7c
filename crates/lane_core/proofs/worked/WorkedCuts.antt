-- Two lanes, computed: how far they may have come, and which core they are then.
use Rattle.std.proofs.Common.{◌≡◌, ℕ, zero, suc, ◌+◌, true, false, Some, None, List, [], ◌∷◌, refl, sym, subst, arith}
use Rattle.std.specs.Prelude.{slice_get}
use Rattle.std.specs.Ordering.{nat_cmp}
use Rattle.std.specs.BTreeMap.{is_at}
use Rattle.std.proofs.lemmas.Option.{same_Some}
use Rattle.ss_base.specs.Ids.{object_id, set_id, call_no}
use Rattle.ss_base.specs.declared.ids.Run.{Run}
use Rattle.execution_definitions.specs.declared.serializer.Serializer.TheVariants as serializer
use Rattle.execution_definitions.specs.Meanings.{Meaning}
use Rattle.partition_check.specs.declared.mark.Mark.{Mark}
use Rattle.interleavings.specs.Machines.{Entry, lane_event}
use Rattle.set_queue.specs.declared.message.Message.TheVariants as message
use Rattle.lane_core.specs.Views.{LaneView, LanesView, lane_of_object}
use Rattle.lane_core.specs.Cuts.{IsCut, least_cut, with_one_more}
use Rattle.lane_core.specs.Cores.{core, logical_state}
use Rattle.lane_core.specs.Kept.{has_object, all_find, is_in_store, IsIn, IsKept}
use Rattle.lane_core.proofs.StoreLemmas.{other_number}
use Rattle.lane_core.proofs.StepLemmas.{not_the_other}

-- an operation adds its number, and contributes the number that it finds
adding : Meaning ℕ ℕ ℕ
adding = record {
  step = λ value op read. (value + op, value);
  own = λ op. op;
  unit = 0;
  join = λ a b. a + b;
}

run_of : ℕ → ℕ → Run
run_of call object = record {
  call = call_no call;
  epoch = 1;
  set = set_id object;
  object = object_id object;
}

mark_in : ℕ → Mark
mark_in set = record {
  serializer = Some serializer.Object;
  set = Some (set_id set);
  is_held = true;
  shared = false;
}

-- a delegate was handed object 0 with the value 5, and once ran on it, which contributed 4. Since
-- then 3 was added to it, and 2
first : LaneView ℕ ℕ ℕ
unfolding run_of
first = record {
  has_worker = true;
  base = record { values = (0, 5) ∷ []; total = 4; runs = run_of 3 0 ∷ []; is_broken = false };
  since =
      message.Run (call_no 5) 1 (set_id 0) (object_id 0) 3 None
      ∷ message.Run (call_no 6) 1 (set_id 0) (object_id 0) 2 None ∷ [];
  log = [];
}

-- another was handed nothing. Object 1 was sent to it with the value 7, to which 1 is added
second : LaneView ℕ ℕ ℕ
second = record {
  has_worker = true;
  base = record { values = []; total = 0; runs = []; is_broken = false };
  since = message.Carry (call_no 4) 1 (set_id 1) (object_id 1) 7 1 None ∷ [];
  log = [];
}

-- object 2 is at home with the value 9, and 100 was contributed before
view : LanesView ℕ ℕ ℕ
unfolding mark_in first second
view = record {
  values = None ∷ None ∷ Some 9 ∷ [];
  total = 100;
  marks = record {
    calls = 7;
    epochs = 1;
    is_open = true;
    sequence_objects = 0;
    objects = mark_in 0 ∷ mark_in 1 ∷ record (mark_in 2) { set = None; is_held = false } ∷ [];
  };
  lanes = first ∷ second ∷ [];
  has_failed = false;
}

lane_of_1 : lane_of_object view 1 ≡ Some 1
unfolding mark_in first second view
lane_of_1 = refl

lane_of_2 : lane_of_object view 2 ≡ None
unfolding mark_in first second view
lane_of_2 = refl

-- one run is known to be taken, and the lanes have three and one
least : least_cut view.lanes ≡ 1 ∷ 0 ∷ []
unfolding run_of mark_in first second view
least = refl

greatest : IsCut view.lanes (3 ∷ 1 ∷ [])
unfolding run_of mark_in first second view
greatest = (omega arith, omega arith, (omega arith, omega arith, tt))

-- nothing is taken: the second object is under way
at_least : (core adding view (1 ∷ 0 ∷ [])).state ≡ record { values = 5 ∷ 7 ∷ 9 ∷ []; total = 104 }
unfolding adding run_of mark_in first second view
at_least = refl

-- each lane took a run
entry_left : List (Entry ℕ ℕ)
unfolding run_of
entry_left = record { run = run_of 6 0; op = 2; read = None } ∷ []

between : core adding view (2 ∷ 1 ∷ []) ≡ record {
  state = record { values = 8 ∷ 8 ∷ 9 ∷ []; total = 116 };
  lanes = entry_left ∷ [] ∷ [];
}
unfolding adding run_of mark_in first second view entry_left
between = refl

-- the rest of it
last_event : lane_event adding (core adding view (2 ∷ 1 ∷ [])) 0
    ≡ core adding view (with_one_more 0 (2 ∷ 1 ∷ []))
unfolding adding run_of mark_in first second view
last_event = refl

logical : logical_state adding view ≡ record { values = 10 ∷ 8 ∷ 9 ∷ []; total = 124 }
unfolding adding run_of mark_in first second view
logical = refl

-- ---- what holds of them

each : (P : LaneView ℕ ℕ ℕ → Type 0) → P first → P second → (number : ℕ) (lane : LaneView ℕ ℕ ℕ) →
    slice_get view.lanes number ≡ Some lane → P lane
unfolding view
each P one two zero lane there = subst P (same_Some first lane there) one
each P one two (suc zero) lane there = subst P (same_Some second lane there) two
each P one two (suc (suc number)) lane there = absurd cc

only_0 : (object : ℕ) → has_object first object ≡ true → object ≡ 0
unfolding first
only_0 zero has = refl
only_0 (suc object) has =
    let none : is_at (nat_cmp (suc object)) 0 ≡ false =
    other_number (suc object) 0 (λ e. omega (arith, e)) in
    let not : has_object first (suc object) ≡ false = rw none refl in
    absurd cc

only_1 : (object : ℕ) → has_object second object ≡ true → object ≡ 1
unfolding second
only_1 zero has = absurd cc
only_1 (suc zero) has = refl
only_1 (suc (suc object)) has =
    let not : has_object second (suc (suc object)) ≡ false =
    rw (not_the_other 1 (suc (suc object)) (λ e. omega (arith, e))) refl in
    absurd cc

kept : IsKept view
unfolding adding run_of mark_in first second view
kept = record {
  whole = each (λ lane. lane.base.is_broken ≡ false) refl refl;
  served = each (λ lane. all_find (is_in_store lane.base) lane.since ≡ true) refl refl;
  away = away;
  apart = λ object number place. apart object number place.lane place.at place.has;
} where
  away : (object : ℕ) → slice_get view.values object ≡ Some None →
      (number : ℕ) × (lane_of_object view object ≡ Some number) × IsIn view object number
  away zero none = (0, refl, record { lane = first; at = refl; has = refl })
  away (suc zero) none = (1, refl, record { lane = second; at = refl; has = refl })
  away (suc (suc zero)) none = absurd cc
  away (suc (suc (suc object))) none = absurd cc

  apart : (object number : ℕ) (lane : LaneView ℕ ℕ ℕ) →
      slice_get view.lanes number ≡ Some lane → has_object lane object ≡ true →
      (slice_get view.values object ≡ Some None) × (lane_of_object view object ≡ Some number)
  apart object zero lane there has =
      let is = only_0 object
      (subst (λ l. has_object l object ≡ true) (sym (same_Some first lane there)) has) in
      rw is (refl, refl)
  apart object (suc zero) lane there has =
      let is = only_1 object
      (subst (λ l. has_object l object ≡ true) (sym (same_Some second lane there)) has) in
      rw is (refl, refl)
  apart object (suc (suc number)) lane there has = absurd cc
