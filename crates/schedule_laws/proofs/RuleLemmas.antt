-- By the rule a machine comes to one end.
--
-- Each event by the rule takes a call, or refuses one, or takes what waits, of which a call brings
-- one at most.
use Rattle.std.proofs.Common.{◌≡◌, ℕ, zero, suc, ◌+◌, ◌-◌, ◌*◌, ◌<◌, ◌≤◌, Bool, true, false, Option, Some, None, List, [], ◌∷◌, ◌++◌, length, refl, sym, ap, ◌∙◌, subst, arith, add-one, length-append}
use Rattle.std.specs.Prelude.{slice_get, is_some, if◌then◌else◌}
use Rattle.std.specs.Option.{option_map, option_map_or}
use Rattle.std.proofs.lemmas.Option.{slice_get_within, same_Some}
use Rattle.ss_base.specs.declared.ids.Event.{Event}
use Rattle.ss_base.specs.declared.ids.Event.TheVariants as event
use Rattle.execution_definitions.specs.declared.call.Call.{Call}
use Rattle.execution_definitions.specs.declared.call.Call.TheVariants.{Make, MakeFixed, Begin, Delegate, Write, Get, End, Total}
use Rattle.execution_definitions.specs.declared.refusal.Refusal.{Refusal}
use Rattle.execution_definitions.specs.Refusals.{breaks}
use Rattle.execution_definitions.specs.Meanings.{Meaning, shape_of, shapes_of}
use Rattle.interleavings.specs.Machines.{Entry, Core, MachineState, front_at, with_entry, without_front, least_busy, call_event, judged_event, taken_event, calls_taken, next_call, may_take_some, is_enabled, program_event, event_taken, after_event, after_schedule, initial_machine, event_by_rule, FollowsRule}
use Rattle.schedule_laws.specs.Theorem.{ReplaysAreOne}
use Rattle.schedule_laws.specs.Replayed.{waiting, gone_on, ReplaysAreComputed}

module _ {A : Type 0} where
  waiting-with_entry : (lane : ℕ) (entry : A) (lanes : List (List A)) →
      waiting (with_entry lane entry lanes) ≤ waiting lanes + 1
  waiting-with_entry zero entry [] = omega arith
  waiting-with_entry (suc lane) entry [] = omega arith
  waiting-with_entry zero entry (entries ∷ lanes) =
      let more = length-append entries (entry ∷ []) in omega arith
  waiting-with_entry (suc lane) entry (entries ∷ lanes) =
      let more = waiting-with_entry lane entry lanes in omega arith

  -- what is at the front of the least lane in which something waits
  record HasFront (lanes : List (List A)) (lane : ℕ) : Type 0 where
    entry : A
    front : front_at lanes lane ≡ Some entry
    less : waiting (without_front lane lanes) + 1 ≡ waiting lanes

  front_later : (lanes : List (List A)) (lane : ℕ) (busy : Option ℕ) → least_busy lanes ≡ busy →
      option_map (λ k. k + 1) busy ≡ Some lane →
      ((k : ℕ) → least_busy lanes ≡ Some k → HasFront lanes k) → HasFront ([] ∷ lanes) lane
  front_later lanes lane None is next rest = absurd cc
  front_later lanes lane (Some k) is next rest =
      let same : suc k ≡ lane = sym (add-one k) ∙ same_Some (k + 1) lane next in
      let found = rest k is in
      let less = found.less in
      subst (HasFront ([] ∷ lanes)) same
      (record { entry = found.entry; front = found.front; less = omega arith })

  has_front : (lanes : List (List A)) (lane : ℕ) → least_busy lanes ≡ Some lane →
      HasFront lanes lane
  has_front [] lane is = absurd cc
  has_front ([] ∷ lanes) lane is =
      front_later lanes lane (least_busy lanes) refl is (λ k busy. has_front lanes k busy)
  has_front ((entry ∷ rest) ∷ lanes) lane is =
      let same : 0 ≡ lane = same_Some 0 lane is in
      subst (HasFront ((entry ∷ rest) ∷ lanes)) same
      (record { entry = entry; front = refl; less = omega arith })

pub if_is : {A : Type 0} (test : Bool) (one other : A) → test ≡ true →
    (if test then one else other) ≡ one
if_is true one other is = refl
if_is false one other is = absurd cc

pub if_not : {A : Type 0} (test : Bool) (one other : A) → test ≡ false →
    (if test then one else other) ≡ other
if_not true one other is = absurd cc
if_not false one other is = refl

-- a call may still be refused
pub still : Option Refusal → ℕ
still None = 1
still (Some refusal) = 0

still-none : (stop : Option Refusal) → stop ≡ None → still stop ≡ 1
unfolding still
still-none None is = refl
still-none (Some refusal) is = absurd cc

still-most : (stop : Option Refusal) → still stop ≤ 1
unfolding still
still-most None = omega arith
still-most (Some refusal) = omega arith

still-some : (refusal : Refusal) → still (Some refusal) ≡ 0
unfolding still
still-some refusal = refl

module _ {C O R : Type 0} (m : Meaning C O R) where
  waiting-call : (before : List (Call C O)) (core : Core C O R) (call : Call C O) →
      waiting (call_event m before core call).lanes ≤ waiting core.lanes + 1
  waiting-call before core (Make value by) = omega arith
  waiting-call before core (MakeFixed value) = omega arith
  waiting-call before core Begin = omega arith
  waiting-call before core (Delegate object op reading) = waiting-with_entry _ _ core.lanes
  waiting-call before core (Write object op) = omega arith
  waiting-call before core (Get object) = omega arith
  waiting-call before core End = omega arith
  waiting-call before core Total = omega arith

  module _ (calls : List (Call C O)) where
    -- so many events by the rule are left at most
    record IsLeft (k : ℕ) (machine : MachineState C O R) : Type 0 where
      within : machine.next ≤ length calls
      most : 2 * length calls + waiting machine.core.lanes + still machine.stop
          ≤ k + 2 * machine.next

    -- an event leaves fewer
    abbrev Lessens : MachineState C O R → MachineState C O R → Type 0
    Lessens machine next =
        (k : ℕ) → IsLeft k machine → (0 < k) × ((j : ℕ) → k ≡ suc j → IsLeft j next)

    judged_lessens : (machine : MachineState C O R) (call : Call C O) (cause : Option Refusal) →
        machine.stop ≡ None → slice_get calls machine.next ≡ Some call →
        Lessens machine (judged_event m (calls_taken m calls machine) machine call cause)
    judged_lessens machine call (Some refusal) stop at k left =
        let inside = slice_get_within calls machine.next call at in
        let most = left.most in
        let one = still-none machine.stop stop in
        let none = still-some refusal in (
          omega arith,
          λ j same. record { within = left.within; most = omega arith },
        )
    judged_lessens machine call None stop at k left =
        let inside = slice_get_within calls machine.next call at in
        let most = left.most in
        let one = still-none machine.stop stop in
        let one_more = still-none None refl in
        let more = waiting-call (calls_taken m calls machine) machine.core call in (
          omega arith,
          λ j same. record { within = omega arith; most = omega arith },
        )

    found_lessens : (machine : MachineState C O R) (found : Option (Call C O)) →
        machine.stop ≡ None → slice_get calls machine.next ≡ found →
        may_take_some m calls machine found ≡ true →
        Lessens machine (program_event m calls machine found)
    found_lessens machine None stop at enabled = absurd cc
    found_lessens machine (Some call) stop at enabled =
        judged_lessens machine call
        (breaks (shapes_of m (calls_taken m calls machine)) (shape_of m.own call)) stop at

    program_lessens : (machine : MachineState C O R) (stop : Option Refusal) →
        machine.stop ≡ stop →
        may_take_some m calls machine (next_call m calls machine stop) ≡ true →
        Lessens machine (program_event m calls machine (next_call m calls machine stop))
    program_lessens machine None is enabled =
        found_lessens machine (slice_get calls machine.next) is refl enabled
    program_lessens machine (Some refusal) is enabled = absurd cc

    taken_lessens : (machine : MachineState C O R) (lane : ℕ) →
        HasFront machine.core.lanes lane →
        Lessens machine (taken_event m machine lane (front_at machine.core.lanes lane))
    taken_lessens machine lane found =
        subst (λ front. Lessens machine (taken_event m machine lane front)) (sym found.front)
        (λ k left.
        let most = left.most in
        let less = found.less in
        let low = left.within in (
          omega arith,
          λ j same. record { within = left.within; most = omega arith },
        ))

    event_lessens : (machine : MachineState C O R) (e : Event) →
        is_enabled m calls machine e ≡ true →
        Lessens machine (event_taken m calls machine e) →
        Lessens machine (after_event m calls machine e)
    event_lessens machine e enabled lessens =
        subst (Lessens machine) (sym (if_is (is_enabled m calls machine e)
        (event_taken m calls machine e) machine enabled)) lessens

    -- the events by the rule, up to the end
    record ComesToEnd (machine : MachineState C O R) : Type 0 where
      events : List Event
      follows : FollowsRule m calls machine events

    goes_on : (machine : MachineState C O R) (e : Event) →
        event_by_rule m calls machine ≡ Some e → ComesToEnd (after_event m calls machine e) →
        ComesToEnd machine
    goes_on machine e is rest =
        record { events = e ∷ rest.events; follows = (is, rest.follows) }

    -- one event more, or none
    by_rule : (machine : MachineState C O R) (k : ℕ) → IsLeft k machine →
        ((j : ℕ) → k ≡ suc j → (next : MachineState C O R) → IsLeft j next → ComesToEnd next) →
        (enabled : Bool) → is_enabled m calls machine event.Program ≡ enabled →
        (busy : Option ℕ) → least_busy machine.core.lanes ≡ busy → ComesToEnd machine
    by_rule machine zero left rest true enabled busy is =
        let lessens = event_lessens machine event.Program enabled
        (program_lessens machine machine.stop refl enabled) zero left in
        absurd (omega (arith, lessens.0))
    by_rule machine (suc j) left rest true enabled busy is =
        let lessens = event_lessens machine event.Program enabled
        (program_lessens machine machine.stop refl enabled) (suc j) left in
        goes_on machine event.Program (if_is (is_enabled m calls machine event.Program) _ _ enabled)
        (rest j refl (after_event m calls machine event.Program) (lessens.1 j refl))
    by_rule machine k left rest false enabled None is = record {
      events = [];
      follows = if_not (is_enabled m calls machine event.Program) _ _ enabled
          ∙ ap (option_map (λ lane. event.Delegate (record { 0 = lane }))) is;
    }
    by_rule machine zero left rest false enabled (Some lane) is =
        let found = has_front machine.core.lanes lane is in
        let lessens = taken_lessens machine lane found zero left in
        absurd (omega (arith, lessens.0))
    by_rule machine (suc j) left rest false enabled (Some lane) is =
        let found = has_front machine.core.lanes lane is in
        let e : Event = event.Delegate (record { 0 = lane }) in
        let lessens = event_lessens machine e (ap is_some found.front)
        (taken_lessens machine lane found) (suc j) left in
        goes_on machine e (if_not (is_enabled m calls machine event.Program) _ _ enabled
        ∙ ap (option_map (λ l. event.Delegate (record { 0 = l }))) is)
        (rest j refl (after_event m calls machine e) (lessens.1 j refl))

    comes_to_end : (k : ℕ) (machine : MachineState C O R) → IsLeft k machine →
        ComesToEnd machine
    comes_to_end zero machine left =
        by_rule machine zero left (λ j same. absurd cc)
        (is_enabled m calls machine event.Program) refl (least_busy machine.core.lanes) refl
    comes_to_end (suc k) machine left =
        by_rule machine (suc k) left
        (λ j same next less. comes_to_end k next
        (subst (λ i. IsLeft i next) (let e : j ≡ k = omega arith in e) less))
        (is_enabled m calls machine event.Program) refl (least_busy machine.core.lanes) refl

    -- there is one such list
    one_end : (machine : MachineState C O R) (one other : List Event) →
        FollowsRule m calls machine one → FollowsRule m calls machine other → one ≡ other
    one_end machine [] [] first second = refl
    one_end machine [] (e ∷ other) first second =
        let clash : None ≡ Some e = sym first ∙ second.0 in absurd cc
    one_end machine (e ∷ one) [] first second =
        let clash : Some e ≡ None = sym first.0 ∙ second in absurd cc
    one_end machine (e ∷ one) (f ∷ other) first second =
        let same : e ≡ f = same_Some e f (sym first.0 ∙ second.0) in
        ap (λ x. x ∷ one) same
        ∙ ap (λ l. f ∷ l) (one_end (after_event m calls machine f) one other
        (subst (λ x. FollowsRule m calls (after_event m calls machine x) one) same first.1)
        second.1)

    starts_within : (machine : MachineState C O R) → machine.next ≤ length calls →
        IsLeft (2 * length calls + waiting machine.core.lanes + still machine.stop) machine
    starts_within machine within = record { within = within; most = omega arith }

    -- no event passes the last call
    within_judged : (machine : MachineState C O R) (call : Call C O) (cause : Option Refusal) →
        slice_get calls machine.next ≡ Some call → machine.next ≤ length calls →
        (judged_event m (calls_taken m calls machine) machine call cause).next ≤ length calls
    within_judged machine call (Some refusal) at within = within
    within_judged machine call None at within =
        let inside = slice_get_within calls machine.next call at in omega arith

    within_found : (machine : MachineState C O R) (found : Option (Call C O)) →
        slice_get calls machine.next ≡ found → machine.next ≤ length calls →
        (program_event m calls machine found).next ≤ length calls
    within_found machine None at within = within
    within_found machine (Some call) at within =
        within_judged machine call
        (breaks (shapes_of m (calls_taken m calls machine)) (shape_of m.own call)) at within

    within_program : (machine : MachineState C O R) (stop : Option Refusal) →
        machine.next ≤ length calls →
        (program_event m calls machine (next_call m calls machine stop)).next ≤ length calls
    within_program machine None within =
        within_found machine (slice_get calls machine.next) refl within
    within_program machine (Some refusal) within = within

    within_taken : (machine : MachineState C O R) (lane : ℕ) (front : Option (Entry C O)) →
        machine.next ≤ length calls → (taken_event m machine lane front).next ≤ length calls
    within_taken machine lane None within = within
    within_taken machine lane (Some entry) within = within

    within_enabled : (machine : MachineState C O R) (e : Event) → machine.next ≤ length calls →
        (event_taken m calls machine e).next ≤ length calls
    within_enabled machine event.Program within = within_program machine machine.stop within
    within_enabled machine (event.Delegate lane) within =
        within_taken machine lane.0 (front_at machine.core.lanes lane.0) within

    within_event : (machine : MachineState C O R) (e : Event) (enabled : Bool) →
        machine.next ≤ length calls →
        (if enabled then event_taken m calls machine e else machine).next ≤ length calls
    within_event machine e true within = within_enabled machine e within
    within_event machine e false within = within

    within_schedule : (schedule : List Event) (machine : MachineState C O R) →
        machine.next ≤ length calls →
        (after_schedule m calls machine schedule).next ≤ length calls
    within_schedule [] machine within = within
    within_schedule (e ∷ rest) machine within =
        within_schedule rest (after_event m calls machine e)
        (within_event machine e (is_enabled m calls machine e) within)

    -- the event by the rule leaves fewer
    by_which : (machine : MachineState C O R) (e : Event) (enabled : Bool) (busy : Option ℕ) →
        (if enabled then Some event.Program
        else option_map (λ lane. event.Delegate (record { 0 = lane })) busy) ≡ Some e →
        is_enabled m calls machine event.Program ≡ enabled →
        least_busy machine.core.lanes ≡ busy → Lessens machine (after_event m calls machine e)
    by_which machine e true busy is enabled least =
        subst (λ x. Lessens machine (after_event m calls machine x)) (same_Some _ _ is)
        (event_lessens machine event.Program enabled
        (program_lessens machine machine.stop refl enabled))
    by_which machine e false None is enabled least = absurd cc
    by_which machine e false (Some lane) is enabled least =
        let found = has_front machine.core.lanes lane least in
        subst (λ x. Lessens machine (after_event m calls machine x)) (same_Some _ _ is)
        (event_lessens machine (event.Delegate (record { 0 = lane })) (ap is_some found.front)
        (taken_lessens machine lane found))

    -- so many events by the rule are left at most
    abbrev pub events_left : MachineState C O R → ℕ
    events_left machine =
        2 * length calls + waiting machine.core.lanes + still machine.stop - 2 * machine.next

    left_within : (j : ℕ) (machine : MachineState C O R) → IsLeft j machine →
        events_left machine ≤ j
    left_within j machine left = let most = left.most in omega arith

    one_less : (k : ℕ) (next : MachineState C O R) →
        (0 < k) × ((j : ℕ) → k ≡ suc j → IsLeft j next) → events_left next < k
    one_less zero next lessens = absurd (omega (arith, lessens.0))
    one_less (suc j) next lessens =
        let less = left_within j next (lessens.1 j refl) in omega arith

    pub events_left-less : (machine : MachineState C O R) (e : Event) →
        machine.next ≤ length calls → event_by_rule m calls machine ≡ Some e →
        events_left (after_event m calls machine e) < events_left machine
    events_left-less machine e within is =
        let left : IsLeft (events_left machine) machine =
        record { within = within; most = omega arith } in
        one_less (events_left machine) (after_event m calls machine e)
        (by_which machine e (is_enabled m calls machine event.Program)
        (least_busy machine.core.lanes) is refl refl (events_left machine) left)

    -- events that follow the rule to its end come to the computed one
    follows_is : (k : ℕ) (machine : MachineState C O R) (events : List Event) →
        FollowsRule m calls machine events → machine.next ≤ length calls →
        events_left machine ≤ k → after_schedule m calls machine events ≡ gone_on m calls k machine
    unfolding gone_on
    follows_is zero machine [] follows within few = refl
    follows_is (suc k) machine [] follows within few =
        sym (ap (λ o.
        option_map_or (λ e. gone_on m calls k (after_event m calls machine e)) o machine) follows)
    follows_is zero machine (e ∷ rest) follows within few =
        let less = events_left-less machine e within follows.0 in
        absurd (omega (arith, less, few))
    follows_is (suc k) machine (e ∷ rest) follows within few =
        let less = events_left-less machine e within follows.0 in
        follows_is k (after_event m calls machine e) rest follows.1
        (within_event machine e (is_enabled m calls machine e) within)
        (omega (arith, less, few))
        ∙ sym (ap (λ o.
        option_map_or (λ f. gone_on m calls k (after_event m calls machine f)) o machine) follows.0)

    after_both : (schedule rest : List Event) (machine : MachineState C O R) →
        after_schedule m calls machine (schedule ++ rest)
        ≡ after_schedule m calls (after_schedule m calls machine schedule) rest
    after_both [] rest machine = refl
    after_both (e ∷ schedule) rest machine =
        after_both schedule rest (after_event m calls machine e)

  -- every schedule has one replay
  pub replays_are_one : ReplaysAreOne m
  replays_are_one n calls schedule =
      let first = initial_machine m n in
      let machine = after_schedule m calls first schedule in
      let within = within_schedule calls schedule first (omega arith) in
      let ended = comes_to_end calls _ machine (starts_within calls machine within) in
      record {
        end_ = after_schedule m calls first (schedule ++ ended.events);
        is = record { by_rule = ended.events; follows = ended.follows; is = refl };
        no_other = λ other replay. replay.is
            ∙ ap (λ l. after_schedule m calls first (schedule ++ l))
            (one_end calls machine replay.by_rule ended.events replay.follows ended.follows);
      }

  -- each comes to the computed end
  pub replays_are_computed : ReplaysAreComputed m
  replays_are_computed n calls schedule end_ replay =
      let first = initial_machine m n in
      let machine = after_schedule m calls first schedule in
      let within = within_schedule calls schedule first (omega arith) in
      let most = still-most machine.stop in
      replay.is ∙ after_both calls schedule replay.by_rule first
      ∙ follows_is calls (2 * length calls + waiting machine.core.lanes + 1) machine replay.by_rule
      replay.follows within (omega (arith, most))
