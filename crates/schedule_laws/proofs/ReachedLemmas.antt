-- A machine under any schedule, from its first state on.
use Rattle.std.proofs.Common.{◌≡◌, ℕ, zero, suc, ◌+◌, ◌<◌, ◌≤◌, Bool, true, false, Option, Some, None, List, [], ◌∷◌, ◌++◌, length, map, take, refl, sym, ap, ◌∙◌, subst, arith, add-one}
use Rattle.std.specs.Prelude.{fold, slice_get, is_some, if◌then◌else◌, ⊤}
use Rattle.std.specs.List.{list_all, range_with_len}
use Rattle.std.specs.Option.{option_map}
use Rattle.std.proofs.lemmas.List.Sums.{fold-append}
use Rattle.std.proofs.lemmas.List.{map-append, length-map, take_all, length-take-le}
use Rattle.execution_definitions.proofs.lists.ListLemmas.{past_none, take-next}
use Rattle.std.proofs.lemmas.Option.{slice_get_within, same_Some}
use Rattle.ss_base.specs.declared.ids.Event.{Event}
use Rattle.ss_base.specs.declared.ids.Event.TheVariants as event
use Rattle.execution_definitions.specs.declared.call.Call.{Call}
use Rattle.execution_definitions.specs.declared.refusal.Refusal.{Refusal}
use Rattle.execution_definitions.specs.Refusals.{breaks}
use Rattle.execution_definitions.specs.Soundness.{IsSound, first_refusal}
use Rattle.execution_definitions.specs.Meanings.{Meaning, shape_of, shapes_of}
use Rattle.execution_definitions.specs.Sequential.{State, initial_state, reply_of, sequential_state, sequential_replies}
use Rattle.execution_definitions.specs.Programs.{sound_front}
use Rattle.interleavings.specs.Machines.{Entry, Core, MachineState, is_empty, front_at, entries_done, may_take, call_event, initial_machine, judged_event, taken_event, calls_taken, next_call, may_take_some, is_enabled, program_event, event_taken, after_event, after_schedule, IsFinished, taken, least_busy, event_by_rule, FollowsRule}
use Rattle.execution_definitions.proofs.shapes.SoundnessLemmas.{IsSound-push, first_refusal-at, first_refusal-sound}
use Rattle.execution_definitions.proofs.programs.SequentialLemmas.{shapes_of-push, sequential_replies-push}
use Rattle.execution_definitions.proofs.programs.ProgramsLemmas.{sound_front-sound, sound_front-at}
use Rattle.interleavings.proofs.programs.OperatedLemmas.{JoinsInAnyOrder}
use Rattle.interleavings.proofs.machines.DrainLemmas.{EachEntry, EachLane, nothing_done}
use Rattle.schedule_laws.specs.Theorem.{IsAtEnd, GivesTheSame, SchedulesGiveTheSame, ReplaysGiveTheSame, DrainIsByEvents}
use Rattle.schedule_laws.proofs.EnabledLemmas.{no_fronts, may_take-empty}
use Rattle.schedule_laws.proofs.StandsAfterLemmas.{IsHeldIn, StandsAfter, stands_after-taken, stands_after-call, reply_same}

-- ---- places of a list

module _ {A : Type 0} where
  -- a list around one of its places
  record IsAround (xs : List A) (k : ℕ) (x : A) : Type 0 where
    rest : List A
    is : xs ≡ take k xs ++ x ∷ rest

  around : (xs : List A) (k : ℕ) (x : A) → slice_get xs k ≡ Some x → IsAround xs k x
  around [] zero x is = absurd cc
  around [] (suc k) x is = absurd cc
  around (y ∷ ys) zero x is =
      let same : y ≡ x = cc in record { rest = ys; is = ap (λ z. z ∷ ys) same }
  around (y ∷ ys) (suc k) x is =
      let later = around ys k x is in record { rest = later.rest; is = ap (λ l. y ∷ l) later.is }

length-range : (first count : ℕ) → length (range_with_len first count) ≡ count
length-range first zero = refl
length-range first (suc count) = ap suc (length-range (first + 1) count)

-- ---- lanes in which nothing waits

module _ {A : Type 0} where
  each_empty : (P : ℕ → A → Type 0) (first : ℕ) (numbers : List ℕ) →
      EachLane P first (map (λ lane. []) numbers)
  each_empty P first [] = tt
  each_empty P first (number ∷ numbers) = (tt, each_empty P (suc first) numbers)

nothing_waits : {A : Type 0} (lanes : List (List A)) → list_all is_empty lanes ≡ true →
    EachEntry (EachEntry (λ entry. ⊥)) lanes
nothing_waits [] empty = tt
nothing_waits ([] ∷ lanes) empty = (tt, nothing_waits lanes empty)
nothing_waits ((entry ∷ rest) ∷ lanes) empty = absurd cc

-- where no lane is the least in which something waits, nothing waits
idle_lanes : {A : Type 0} (lanes : List (List A)) → least_busy lanes ≡ None →
    EachEntry (EachEntry (λ entry. ⊥)) lanes
idle_lanes [] none = tt
idle_lanes ([] ∷ lanes) none = by_busy (least_busy lanes) refl none (λ n. idle_lanes lanes n) where
  by_busy : (busy : Option ℕ) → least_busy lanes ≡ busy →
      option_map (λ lane. lane + 1) busy ≡ None →
      (least_busy lanes ≡ None → EachEntry (EachEntry (λ entry. ⊥)) lanes) →
      ⊤ × EachEntry (EachEntry (λ entry. ⊥)) lanes
  by_busy None is none rest = (tt, rest is)
  by_busy (Some lane) is none rest = absurd cc
idle_lanes ((entry ∷ rest) ∷ lanes) none = absurd cc

idle_fronts : {A : Type 0} (lanes : List (List A)) (lane : ℕ) → least_busy lanes ≡ None →
    is_some (front_at lanes lane) ≡ false
idle_fronts lanes lane none = no_front lanes lane (idle_lanes lanes none) where
  no_front : {A : Type 0} (lanes : List (List A)) (lane : ℕ) →
      EachEntry (EachEntry (λ entry. ⊥)) lanes → is_some (front_at lanes lane) ≡ false
  no_front [] zero none = refl
  no_front [] (suc lane) none = refl
  no_front ([] ∷ lanes) zero none = refl
  no_front ((entry ∷ rest) ∷ lanes) zero none = absurd none.0.0
  no_front (entries ∷ lanes) (suc lane) none = no_front lanes lane none.1

module _ {C O R : Type 0} (m : Meaning C O R) where
  -- the call at this place is refused so
  record IsRefused (calls : List (Call C O)) (place : ℕ) (refusal : Refusal) : Type 0 where
    call : Call C O
    next : slice_get calls place ≡ Some call
    why : breaks (shapes_of m (take place calls)) (shape_of m.own call) ≡ Some refusal

  abbrev IsStopped : List (Call C O) → ℕ → Option Refusal → Type 0
  IsStopped calls place None = ⊤
  IsStopped calls place (Some refusal) = IsRefused calls place refusal

  -- what holds of a machine of n lanes after every schedule
  record IsReached (n : ℕ) (calls : List (Call C O)) (machine : MachineState C O R)
      : Type 0 where
    within : machine.next ≤ length calls
    sound : IsSound (shapes_of m (calls_taken m calls machine))
    replies : machine.replies ≡ sequential_replies m (calls_taken m calls machine)
    stands : StandsAfter m n (calls_taken m calls machine) machine.core
    stopped : IsStopped calls machine.next machine.stop

  empty_stands : (n : ℕ) →
      StandsAfter m n [] (record {
        state = initial_state m;
        lanes = map (λ lane. []) (range_with_len 0 n);
      })
  empty_stands n = record {
    count = length-map (range_with_len 0 n) (λ lane. []) ∙ length-range 0 n;
    held = each_empty (IsHeldIn n []) 0 (range_with_len 0 n);
    objects = omega arith;
    drains = drains_empty (range_with_len 0 n);
  } where
    drains_empty : (numbers : List ℕ) →
        fold (entries_done m) (initial_state m) (map (λ lane. []) numbers) ≡ initial_state m
    drains_empty [] = refl
    drains_empty (number ∷ numbers) = drains_empty numbers

  reached-first : (n : ℕ) (calls : List (Call C O)) →
      IsReached n calls (initial_machine m n)
  reached-first n calls = record {
    within = omega arith;
    sound = refl;
    replies = refl;
    stands = empty_stands n;
    stopped = tt;
  }

  module _ (any_order : JoinsInAnyOrder m) (n : ℕ) (some : 0 < n) (calls : List (Call C O)) where
    module _ (machine : MachineState C O R) (reached : IsReached n calls machine) where
      abbrev before : List (Call C O)
      before = calls_taken m calls machine

      reached-judged : (call : Call C O) → slice_get calls machine.next ≡ Some call →
          may_take m before machine.core call ≡ true → (cause : Option Refusal) →
          breaks (shapes_of m before) (shape_of m.own call) ≡ cause →
          IsReached n calls (judged_event m before machine call cause)
      reached-judged call at may (Some refusal) why = record {
        within = reached.within;
        sound = reached.sound;
        replies = reached.replies;
        stands = reached.stands;
        stopped = record { call = call; next = at; why = why };
      }
      reached-judged call at may None accepts =
          let inside : machine.next < length calls = slice_get_within calls machine.next call at in
          let more : before ++ call ∷ [] ≡ take (machine.next + 1) calls =
          sym (take-next calls machine.next call at) in
          let count : machine.next ≡ length before =
          sym (length-take-le machine.next calls reached.within) in
          let shapes = shapes_of-push m before call in
          let sound : IsSound (shapes_of m (before ++ call ∷ [])) =
          subst IsSound (sym shapes)
          (IsSound-push (shapes_of m before) (shape_of m.own call) reached.sound accepts) in
          let replies : machine.replies ++ reply_of m machine.core.state machine.next call ∷ []
          ≡ sequential_replies m (before ++ call ∷ []) =
          ap (λ l. l ++ reply_of m machine.core.state machine.next call ∷ []) reached.replies
          ∙ ap (λ r. sequential_replies m before ++ r ∷ [])
          (reply_same m n before machine.core reached.stands machine.next call accepts may
          ∙ ap (λ k. reply_of m (sequential_state m before) k call) count)
          ∙ sym (sequential_replies-push m before call) in
          record {
            within = omega arith;
            sound = subst (λ l. IsSound (shapes_of m l)) more sound;
            replies = replies ∙ ap (sequential_replies m) more;
            stands = subst (λ l. StandsAfter m n l (call_event m before machine.core call)) more
                (stands_after-call m any_order n some before machine.core reached.stands call accepts
                may);
            stopped = tt;
          }

      reached-call : (found : Option (Call C O)) → slice_get calls machine.next ≡ found →
          may_take_some m calls machine found ≡ true →
          IsReached n calls (program_event m calls machine found)
      reached-call None at enabled = absurd cc
      reached-call (Some call) at enabled =
          reached-judged call at enabled
          (breaks (shapes_of m before) (shape_of m.own call)) refl

      reached-program : (stop : Option Refusal) →
          may_take_some m calls machine (next_call m calls machine stop) ≡ true →
          IsReached n calls (program_event m calls machine (next_call m calls machine stop))
      reached-program None enabled = reached-call (slice_get calls machine.next) refl enabled
      reached-program (Some refusal) enabled = absurd cc

      reached-taken : (lane : ℕ) (front : Option (Entry C O)) →
          front_at machine.core.lanes lane ≡ front →
          IsReached n calls (taken_event m machine lane front)
      reached-taken lane None is = reached
      reached-taken lane (Some entry) is = record {
        within = reached.within;
        sound = reached.sound;
        replies = reached.replies;
        stands = stands_after-taken m any_order n before machine.core reached.stands lane (Some entry)
            is;
        stopped = reached.stopped;
      }

      reached-enabled : (e : Event) → is_enabled m calls machine e ≡ true →
          IsReached n calls (event_taken m calls machine e)
      reached-enabled event.Program enabled = reached-program machine.stop enabled
      reached-enabled (event.Delegate lane) enabled =
          reached-taken lane.0 (front_at machine.core.lanes lane.0) refl

      reached-event : (e : Event) → IsReached n calls (after_event m calls machine e)
      reached-event e = by_test (is_enabled m calls machine e) refl where
        by_test : (test : Bool) → is_enabled m calls machine e ≡ test →
            IsReached n calls (if test then event_taken m calls machine e else machine)
        by_test true enabled = reached-enabled e enabled
        by_test false enabled = reached

    reached-schedule : (schedule : List Event) (machine : MachineState C O R) →
        IsReached n calls machine →
        IsReached n calls (after_schedule m calls machine schedule)
    reached-schedule [] machine reached = reached
    reached-schedule (e ∷ rest) machine reached =
        reached-schedule rest (after_event m calls machine e) (reached-event machine reached e)

    -- ---- at the end

    module _ (machine : MachineState C O R) (reached : IsReached n calls machine)
        (empty : list_all is_empty machine.core.lanes ≡ true) where
      abbrev made : List (Call C O)
      made = calls_taken m calls machine

      end_at : made ≡ sound_front m calls → machine.stop ≡ first_refusal (shapes_of m calls) →
          IsAtEnd m calls machine
      end_at front stop = record {
        state = sym (nothing_done m machine.core.state machine.core.lanes
            (nothing_waits machine.core.lanes empty))
            ∙ reached.stands.drains ∙ ap (sequential_state m) front;
        replies = reached.replies ∙ ap (sequential_replies m) front;
        stop = stop;
      }

      end_refused : (refusal : Refusal) → machine.stop ≡ Some refusal →
          IsRefused calls machine.next refusal → IsAtEnd m calls machine
      end_refused refusal stop refused =
          let near = around calls machine.next refused.call refused.next in
          end_at
          (sym (ap (sound_front m) near.is
          ∙ sound_front-at m made refused.call near.rest refusal reached.sound refused.why))
          (stop ∙ sym (ap (λ l. first_refusal (shapes_of m l)) near.is
          ∙ ap first_refusal (map-append (shape_of m.own) made (refused.call ∷ near.rest))
          ∙ first_refusal-at (shapes_of m made) (shape_of m.own refused.call)
          (shapes_of m near.rest) refusal reached.sound refused.why))

      end_found : (found : Option (Call C O)) → slice_get calls machine.next ≡ found →
          machine.stop ≡ None → may_take_some m calls machine found ≡ false →
          IsAtEnd m calls machine
      end_found None at stop done =
          let whole = take_all machine.next calls (past_none calls machine.next at) in
          let sound = subst (λ l. IsSound (shapes_of m l)) whole reached.sound in
          end_at (whole ∙ sym (sound_front-sound m calls sound))
          (stop ∙ sym (first_refusal-sound (shapes_of m calls) sound))
      end_found (Some call) at stop done =
          let may = may_take-empty m made machine.core call empty in absurd cc

      end_stopped : (stop : Option Refusal) → machine.stop ≡ stop →
          IsStopped calls machine.next stop →
          may_take_some m calls machine (next_call m calls machine stop) ≡ false →
          IsAtEnd m calls machine
      end_stopped None stop stopped done =
          end_found (slice_get calls machine.next) refl stop done
      end_stopped (Some refusal) stop stopped done = end_refused refusal stop stopped

    reached_ends : (machine : MachineState C O R) → IsReached n calls machine →
        IsFinished m calls machine → IsAtEnd m calls machine
    reached_ends machine reached finished =
        end_stopped machine reached
        (no_fronts machine.core.lanes (λ k. finished (event.Delegate (record { 0 = k }))))
        machine.stop refl reached.stopped (finished event.Program)

    reached_gives : (machine : MachineState C O R) → IsReached n calls machine →
        GivesTheSame m calls machine
    reached_gives machine reached = record {
      on_way = record {
        sound = reached.sound;
        replies = reached.replies;
        drains = reached.stands.drains;
      };
      at_end = λ finished. reached_ends machine reached finished;
    }

  -- every schedule gives the same
  pub schedules_give_the_same : JoinsInAnyOrder m → SchedulesGiveTheSame m
  schedules_give_the_same any_order n some calls schedule =
      reached_gives any_order n some calls _ (reached-schedule any_order n some calls schedule
      (initial_machine m n) (reached-first n calls))

  -- ---- by the rule

  rule_stops : (calls : List (Call C O)) (machine : MachineState C O R) (enabled : Bool)
      (busy : Option ℕ) →
      (if enabled then Some event.Program
      else option_map (λ lane. event.Delegate (record { 0 = lane })) busy) ≡ None →
      (enabled ≡ false) × (busy ≡ None)
  rule_stops calls machine true busy none = absurd cc
  rule_stops calls machine false None none = (refl, refl)
  rule_stops calls machine false (Some lane) none = absurd cc

  stopped_by_rule : (calls : List (Call C O)) (machine : MachineState C O R) →
      event_by_rule m calls machine ≡ None → IsFinished m calls machine
  stopped_by_rule calls machine none event.Program =
      (rule_stops calls machine (is_enabled m calls machine event.Program)
      (least_busy machine.core.lanes) none).0
  stopped_by_rule calls machine none (event.Delegate lane) =
      idle_fronts machine.core.lanes lane.0
      (rule_stops calls machine (is_enabled m calls machine event.Program)
      (least_busy machine.core.lanes) none).1

  rule_ends : (calls : List (Call C O)) (machine : MachineState C O R) (by_rule : List Event) →
      FollowsRule m calls machine by_rule →
      IsFinished m calls (after_schedule m calls machine by_rule)
  rule_ends calls machine [] follows = stopped_by_rule calls machine follows
  rule_ends calls machine (e ∷ rest) follows =
      rule_ends calls (after_event m calls machine e) rest follows.1

  -- every replay gives the same
  pub replays_give_the_same : JoinsInAnyOrder m → ReplaysGiveTheSame m
  replays_give_the_same any_order n some calls schedule end_ replay =
      let first = initial_machine m n in
      let whole = after_schedule m calls first (schedule ++ replay.by_rule) in
      let parted = fold-append (after_event m calls) first schedule replay.by_rule in
      subst (IsAtEnd m calls) (sym replay.is)
      ((schedules_give_the_same any_order n some calls (schedule ++ replay.by_rule)).at_end
      (subst (IsFinished m calls) (sym parted)
      (rule_ends calls (after_schedule m calls first schedule) replay.by_rule replay.follows)))

  -- ---- by events of lanes

  -- the event of a lane changes nothing of what it comes to
  abbrev DrainsAt : State C R → List (List (Entry C O)) → ℕ → Option (Entry C O) → Type 0
  DrainsAt state lanes lane front =
      let core : Core C O R = record { state = state; lanes = lanes } in
      fold (entries_done m) (taken m core lane front).state (taken m core lane front).lanes
      ≡ fold (entries_done m) state lanes

  drains_behind : (state : State C R) (lanes : List (List (Entry C O))) (lane : ℕ)
      (front : Option (Entry C O)) → DrainsAt state lanes lane front →
      DrainsAt state ([] ∷ lanes) (suc lane) front
  drains_behind state lanes lane None more = more
  drains_behind state lanes lane (Some entry) more = more

  drains_later : (state : State C R) (lanes : List (List (Entry C O))) (lane : ℕ)
      (busy : Option ℕ) → least_busy lanes ≡ busy →
      option_map (λ k. k + 1) busy ≡ Some lane →
      ((k : ℕ) → least_busy lanes ≡ Some k → DrainsAt state lanes k (front_at lanes k)) →
      DrainsAt state ([] ∷ lanes) lane (front_at ([] ∷ lanes) lane)
  drains_later state lanes lane None is next more = absurd cc
  drains_later state lanes lane (Some k) is next more =
      let same : suc k ≡ lane = sym (add-one k) ∙ same_Some (k + 1) lane next in
      subst (λ l. DrainsAt state ([] ∷ lanes) l (front_at ([] ∷ lanes) l)) same
      (drains_behind state lanes k (front_at lanes k) (more k is))

  drains_more : (state : State C R) (lanes : List (List (Entry C O))) (lane : ℕ) →
      least_busy lanes ≡ Some lane → DrainsAt state lanes lane (front_at lanes lane)
  drains_more state [] lane is = absurd cc
  drains_more state ([] ∷ lanes) lane is =
      drains_later state lanes lane (least_busy lanes) refl is
      (λ k busy. drains_more state lanes k busy)
  drains_more state ((entry ∷ rest) ∷ lanes) lane is =
      let same : 0 ≡ lane = same_Some 0 lane is in
      subst (λ l. DrainsAt state ((entry ∷ rest) ∷ lanes) l
      (front_at ((entry ∷ rest) ∷ lanes) l)) same refl

  -- a drain is by events
  pub drain_is_by_events : DrainIsByEvents m
  drain_is_by_events core = record {
    done = λ none. nothing_done m core.state core.lanes (idle_lanes core.lanes none);
    more = λ lane is. drains_more core.state core.lanes lane is;
  }
