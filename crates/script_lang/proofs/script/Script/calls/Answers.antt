use Rattle.std.proofs.Common.{◌≡◌, ◌++◌, ◌∷◌, [], take, sym, ap, ◌∙◌}
use Rattle.std.proofs.lemmas.List.{take_all}
use Rattle.execution_definitions.specs.declared.call.Call.TheVariants as call
use Rattle.script_lang.specs.ScriptCalls.{calls_of, listed_calls, ends_within_epoch}
use Rattle.script_lang.proofs.listings.ScriptCallsLemmas.{ended-open, ended-closed}
use Rattle.script_lang.proofs.script.Script.calls.Goals as goal
use Rattle.script_lang.proofs.script.Script.calls.Goals.{then-is_open+in_ok-push-2, else-is_open}

pub returns : goal.returns
returns c =
    let commands = c.self.inside.commands.items in
    let seen : take c.loop-placed.placed-index c.deref-placed-items.result.now ≡ commands =
    take_all c.loop-placed.placed-index c.deref-placed-items.result.now c.loop-placed-test.false
    ∙ c.deref-placed-items.ensures.value in
    let listed : c.loop-placed.calls.items ≡ listed_calls commands =
    c.loop-placed.invariant.calls ∙ ap listed_calls seen in
    let open_after : c.loop-placed.is_open ≡ ends_within_epoch (listed_calls commands) =
    c.loop-placed.invariant.is_open ∙ ap (λ cs. ends_within_epoch (listed_calls cs)) seen in
    elim c.if-is_open.branch [
      | then-is_open+in_ok-push-2 w ↦
          ap (λ calls. calls.items) w.calls-is
          ∙ w.in_ok-push-2.ensures.items
          ∙ ap (λ cs. cs ++ call.End ∷ []) listed
          ∙ sym (ended-open (listed_calls commands) (sym open_after ∙ w.if-is_open.true))
          ∙ ap calls_of c.self.view_is
      | else-is_open w ↦
          ap (λ calls. calls.items) w.calls-is
          ∙ listed
          ∙ sym (ended-closed (listed_calls commands) (sym open_after ∙ w.if-is_open.false))
          ∙ ap calls_of c.self.view_is
    ]
