-- What does a replay hand out?
use Rattle.std.specs.Prelude.{◌≡◌, ℕ, Option, Some, List, map}
use Rattle.ss_base.specs.declared.ids.Event.{Event}
use Rattle.ss_base.specs.declared.ids.CallNo.{CallNo}
use Rattle.execution_definitions.specs.declared.refusal.Refusal.{Refusal}
use Rattle.execution_definitions.specs.declared.call.Call.{Call}
use Rattle.execution_definitions.specs.declared.call.Reply.{Reply}
use Rattle.execution_definitions.specs.Meanings.{Meaning}
use Rattle.execution_definitions.specs.Sequential.{State}
use Rattle.interleavings.specs.Machines.{MachineState, after_schedule, FollowsRule, IsReplay}

module _ {C O R : Type 0} (m : Meaning C O R) (calls : List (Call C O)) where
  -- a machine goes on by the rule up to this end
  pub record GoesOnTo (machine end_ : MachineState C O R) : Type 0 where
    pub by_rule : List Event
    pub follows : FollowsRule m calls machine by_rule
    pub is : end_ ≡ after_schedule m calls machine by_rule

  -- the end of a replay is handed out
  pub record IsOutcome (n : ℕ) (schedule : List Event) (told : List (Reply C R))
      (stop : Option Refusal) (left : State C R) (effects : List CallNo) : Type 0 where
    pub end_ : MachineState C O R
    pub replay : IsReplay m calls n schedule end_
    pub replies : map Some told ≡ end_.replies
    pub stopped : stop ≡ end_.stop
    pub state : left ≡ end_.core.state
    pub order : map (λ call. call.0) effects ≡ end_.order
