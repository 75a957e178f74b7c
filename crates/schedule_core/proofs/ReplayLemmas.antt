-- How a machine goes on by the rule, behind a schedule.
use Rattle.std.proofs.Common.{◌≡◌, ℕ, Some, List, [], ◌∷◌, take, drop, take-append-drop, refl, sym, ap, subst, ◌∙◌}
use Rattle.std.proofs.lemmas.List.Sums.{fold-append}
use Rattle.ss_base.specs.declared.ids.Event.{Event}
use Rattle.execution_definitions.specs.declared.call.Call.{Call}
use Rattle.execution_definitions.specs.Meanings.{Meaning}
use Rattle.interleavings.specs.Machines.{MachineState, initial_machine, is_enabled, event_taken, after_event, after_schedule, event_by_rule, IsFinished, IsReplay}
use Rattle.schedule_core.specs.Outcomes.{GoesOnTo}
use Rattle.schedule_laws.proofs.RuleLemmas.{if_not}

module _ {C O R : Type 0} (m : Meaning C O R) (calls : List (Call C O)) where
  -- one event by the rule, and it goes on from there
  pub goes_on_from : (machine next end_ : MachineState C O R) (e : Event) →
      event_by_rule m calls machine ≡ Some e → next ≡ after_event m calls machine e →
      GoesOnTo m calls next end_ → GoesOnTo m calls machine end_
  goes_on_from machine next end_ e by_rule is rest =
      let later : GoesOnTo m calls (after_event m calls machine e) end_ =
      subst (λ x. GoesOnTo m calls x end_) is rest in record {
        by_rule = e ∷ later.by_rule;
        follows = (by_rule, later.follows);
        is = later.is;
      }

  -- behind a schedule this is a replay
  pub replay_from : (n : ℕ) (schedule : List Event) (machine end_ : MachineState C O R) →
      machine ≡ after_schedule m calls (initial_machine m n) schedule →
      GoesOnTo m calls machine end_ → IsReplay m calls n schedule end_
  replay_from n schedule machine end_ is goes =
      let first = initial_machine m n in
      let later : GoesOnTo m calls (after_schedule m calls first schedule) end_ =
      subst (λ x. GoesOnTo m calls x end_) is goes in record {
        by_rule = later.by_rule;
        follows = later.follows;
        is = later.is ∙ sym (fold-append (after_event m calls) first schedule later.by_rule);
      }

  -- the same for the calls of a machine that took the schedule
  pub replayed : (n : ℕ) (schedule : List Event) (made took : List (Call C O))
      (first machine end_ : MachineState C O R) →
      made ≡ calls → first ≡ initial_machine m n →
      took ≡ made → machine ≡ after_schedule m made first schedule →
      GoesOnTo m took machine end_ → IsReplay m calls n schedule end_
  replayed n schedule made took first machine end_ is starts same after goes =
      replay_from n schedule machine end_
      (after ∙ ap (λ p. after_schedule m p first schedule) is
      ∙ ap (λ x. after_schedule m calls x schedule) starts)
      (subst (λ p. GoesOnTo m p machine end_) (same ∙ is) goes)

  -- where no event is enabled, no schedule changes anything
  pub stays : (machine : MachineState C O R) → IsFinished m calls machine →
      (schedule : List Event) → after_schedule m calls machine schedule ≡ machine
  stays machine finished [] = refl
  stays machine finished (e ∷ rest) =
      subst (λ x. after_schedule m calls x rest ≡ machine)
      (sym (if_not (is_enabled m calls machine e) (event_taken m calls machine e) machine
      (finished e)))
      (stays machine finished rest)

  -- so a schedule may end there early
  pub ends_early : (first machine next : MachineState C O R) (e : Event) (schedule : List Event)
      (k : ℕ) → machine ≡ after_schedule m calls first (take k schedule) →
      IsFinished m calls machine → next ≡ after_event m calls machine e →
      next ≡ after_schedule m calls first schedule
  ends_early first machine next e schedule k is finished took =
      let rest = drop k schedule in
      took
      ∙ if_not (is_enabled m calls machine e) (event_taken m calls machine e) machine (finished e)
      ∙ sym (stays machine finished rest)
      ∙ ap (λ x. after_schedule m calls x rest) is
      ∙ sym (fold-append (after_event m calls) first (take k schedule) rest)
      ∙ ap (after_schedule m calls first) (take-append-drop k schedule)
