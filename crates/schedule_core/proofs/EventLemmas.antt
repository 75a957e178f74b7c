-- What an event leaves of a machine, in parts.
use Rattle.std.proofs.Common.{◌≡◌, ℕ, ◌+◌, Bool, true, false, Option, Some, None, List, [], ◌∷◌, ◌++◌, map, refl, sym, ap, ◌∙◌}
use Rattle.std.specs.Prelude.{slice_get, is_some, if◌then◌else◌}
use Rattle.std.specs.Option.{option_map}
use Rattle.std.proofs.lemmas.List.{map-append}
use Rattle.std.proofs.lemmas.Option.{same_Some}
use Rattle.ss_base.specs.declared.ids.Event.TheVariants as event
use Rattle.ss_base.specs.declared.ids.Event.{Event}
use Rattle.ss_base.specs.declared.ids.Lane.{Lane}
use Rattle.ss_base.specs.declared.ids.CallNo.{CallNo}
use Rattle.execution_definitions.specs.declared.refusal.Refusal.{Refusal}
use Rattle.execution_definitions.specs.declared.call.Call.{Call}
use Rattle.execution_definitions.specs.declared.call.Reply.{Reply}
use Rattle.execution_definitions.specs.Refusals.{breaks}
use Rattle.execution_definitions.specs.Meanings.{Meaning, shape_of, shapes_of}
use Rattle.execution_definitions.specs.Sequential.{reply_of}
use Rattle.interleavings.specs.Machines.{Entry, Core, MachineState, front_at, call_event, effect_of, judged_event, taken, taken_event, lane_event, calls_taken, next_call, may_take_some, is_enabled, program_event, event_taken, after_event, least_busy, event_by_rule}
use Rattle.schedule_laws.proofs.RuleLemmas.{if_is, if_not}

module _ {C O R : Type 0} where
  -- machines that are alike in each part
  pub machine_same : (a b : MachineState C O R) → a.next ≡ b.next → a.core ≡ b.core →
      a.replies ≡ b.replies → a.stop ≡ b.stop → a.order ≡ b.order → a ≡ b
  machine_same a b next core replies stop order =
      ap (λ x. record { next = x; core = a.core; replies = a.replies; stop = a.stop; order = a.order })
      next
      ∙ ap (λ x. record { next = b.next; core = x; replies = a.replies; stop = a.stop; order = a.order })
      core
      ∙ ap (λ x. record { next = b.next; core = b.core; replies = x; stop = a.stop; order = a.order })
      replies
      ∙ ap (λ x. record { next = b.next; core = b.core; replies = b.replies; stop = x; order = a.order })
      stop
      ∙ ap (λ x. record { next = b.next; core = b.core; replies = b.replies; stop = b.stop; order = x })
      order

-- the numbers of the calls that took effect, with one more where it did
pub order_with : (order : List CallNo) (number : CallNo) (place : ℕ) (has_effect : Bool)
    (effect : List ℕ) → number.0 ≡ place → effect ≡ (if has_effect then place ∷ [] else []) →
    map (λ call. call.0) (order ++ (if has_effect then number ∷ [] else []))
    ≡ map (λ call. call.0) order ++ effect
order_with order number place true effect at is =
    map-append (λ call. call.0) order (number ∷ [])
    ∙ ap (λ l. map (λ call. call.0) order ++ l) (ap (λ n. n ∷ []) at ∙ sym is)
order_with order number place false effect at is =
    map-append (λ call. call.0) order []
    ∙ ap (λ l. map (λ call. call.0) order ++ l) (sym is)

module _ {C O R : Type 0} (m : Meaning C O R) (calls : List (Call C O))
    (machine : MachineState C O R) where
  -- an event that isn't enabled
  pub passed_over : (e : Event) → is_enabled m calls machine e ≡ false →
      after_event m calls machine e ≡ machine
  passed_over e not =
      if_not (is_enabled m calls machine e) (event_taken m calls machine e) machine not

  -- the program context may take a call where none was refused
  running_when : (stop : Option Refusal) →
      may_take_some m calls machine (next_call m calls machine stop) ≡ true → stop ≡ None
  running_when None may = refl
  running_when (Some refusal) may = absurd cc

  pub running : is_enabled m calls machine event.Program ≡ true → machine.stop ≡ None
  running enabled = running_when machine.stop enabled

  module _ (one : Call C O) (enabled : is_enabled m calls machine event.Program ≡ true)
      (here : slice_get calls machine.next ≡ Some one) where
    program_is :
        after_event m calls machine event.Program
        ≡ judged_event m (calls_taken m calls machine) machine one
        (breaks (shapes_of m (calls_taken m calls machine)) (shape_of m.own one))
    program_is =
        if_is (is_enabled m calls machine event.Program)
        (event_taken m calls machine event.Program) machine enabled
        ∙ ap (λ stop. program_event m calls machine (next_call m calls machine stop))
        (running enabled)
        ∙ ap (program_event m calls machine) here

    -- its next call is refused
    pub refused_event : (refusal : Refusal) →
        breaks (shapes_of m (calls_taken m calls machine)) (shape_of m.own one)
        ≡ Some refusal →
        after_event m calls machine event.Program ≡ record {
          next = machine.next;
          core = machine.core;
          replies = machine.replies;
          stop = Some refusal;
          order = machine.order;
        }
    refused_event refusal why =
        program_is ∙ ap (judged_event m (calls_taken m calls machine) machine one) why

    -- its next call is accepted
    pub accepted_event : (core : Core C O R) (told : Reply C R) →
        breaks (shapes_of m (calls_taken m calls machine)) (shape_of m.own one) ≡ None →
        core ≡ call_event m (calls_taken m calls machine) machine.core one →
        Some told ≡ reply_of m machine.core.state machine.next one →
        after_event m calls machine event.Program ≡ record {
          next = machine.next + 1;
          core = core;
          replies = machine.replies ++ Some told ∷ [];
          stop = None;
          order = machine.order ++ effect_of m machine.next one;
        }
    accepted_event core told allowed is reply =
        program_is ∙ ap (judged_event m (calls_taken m calls machine) machine one) allowed
        ∙ machine_same _ _ refl (sym is)
        (ap (λ r. machine.replies ++ r ∷ []) (sym reply)) refl refl

  -- what is at the front of a lane takes effect
  pub record TakesFront (lane : Lane) (call : CallNo) : Type 0 where
    pub enabled : is_enabled m calls machine (event.Delegate lane) ≡ true
    pub is :
        after_event m calls machine (event.Delegate lane) ≡ record {
          next = machine.next;
          core = lane_event m machine.core lane.0;
          replies = machine.replies;
          stop = machine.stop;
          order = machine.order ++ call.0 ∷ [];
        }

  pub takes_front : (lane : Lane) (call : CallNo) (found : Option (Entry C O)) →
      front_at machine.core.lanes lane.0 ≡ found →
      Some call ≡ option_map (λ entry. entry.run.call) found → TakesFront lane call
  takes_front lane call None front is = absurd cc
  takes_front lane call (Some entry) front is =
      let same : call ≡ entry.run.call = same_Some call entry.run.call is in record {
        enabled = ap is_some front;
        is = if_is (is_enabled m calls machine (event.Delegate lane))
            (event_taken m calls machine (event.Delegate lane)) machine (ap is_some front)
            ∙ ap (taken_event m machine lane.0) front
            ∙ machine_same _ _ refl (sym (ap (taken m machine.core lane.0) front)) refl refl
            (ap (λ c. machine.order ++ c.0 ∷ []) (sym same));
      }

  -- nothing waits in the lane
  pub no_front : (lane : Lane) (found : Option (Entry C O)) →
      front_at machine.core.lanes lane.0 ≡ found →
      None ≡ option_map (λ entry. entry.run.call) found →
      is_enabled m calls machine (event.Delegate lane) ≡ false
  no_front lane None front is = ap is_some front
  no_front lane (Some entry) front is = absurd cc

  -- by the rule a lane's event comes where the program's isn't enabled
  pub rule_lane : (found : Option Lane) → is_enabled m calls machine event.Program ≡ false →
      option_map (λ (lane : Lane). lane.0) found ≡ least_busy machine.core.lanes →
      option_map event.Delegate found ≡ event_by_rule m calls machine
  rule_lane None not is =
      sym (if_not (is_enabled m calls machine event.Program) _ _ not
      ∙ ap (option_map (λ (lane : ℕ). event.Delegate (record { 0 = lane }))) (sym is))
  rule_lane (Some lane) not is =
      sym (if_not (is_enabled m calls machine event.Program) _ _ not
      ∙ ap (option_map (λ (lane : ℕ). event.Delegate (record { 0 = lane }))) (sym is))
