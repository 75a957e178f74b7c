use Rattle.std.proofs.Common.{Some, refl, sym, ap, ◌∙◌}
use Rattle.std.specs.Option.{option_copied}
use Rattle.execution_definitions.specs.declared.call.Call.TheVariants as call
use Rattle.execution_definitions.specs.declared.call.Reply.TheVariants as reply
use Rattle.execution_definitions.specs.Shapes as shape
use Rattle.execution_definitions.specs.Meanings.{shapes_of}
use Rattle.execution_definitions.specs.Sequential.{operated}
use Rattle.delegation.specs.PlainParts.{state_of}
use Rattle.delegation.proofs.plains.PlainLemmas.{length-noted}
use Rattle.schedule_core.specs.Stores.{lanes_of}
use Rattle.schedule_core.proofs.CallLemmas.{accepted}
use Rattle.schedule_core.proofs.calls.write.Goals as goal

pub returns-clause-answers : goal.returns-clause-answers
returns-clause-answers g c = λ before is.
    let m = g.C.LocalClass.local_meaning in
    let store = c.args.store.now in
    let allowed = c.in_ok-check_write.ensures.breaks (shapes_of m before) is in
    accepted m before store _ (call.Write c.args.object c.args.op.now) reply.Done allowed
    (ap (λ s. record { state = s; lanes = lanes_of store.lanes.items })
    (c.in_ok-operate.ensures.state
    ∙ ap (λ r. operated m (state_of store.values.items store.total) c.args.object.0 c.args.op.now
    (option_copied r)) c.no_reading.ensures))
    (c.note_call.ensures.represents (shapes_of m before) (shape.write c.args.object.0) refl is
    allowed) refl

pub returns-clause-fit : goal.returns-clause-fit
returns-clause-fit g c = record {
  values = c.in_ok-operate.ensures.count ∙ c.requires.values
      ∙ sym (length-noted _ _ (Some c.args.object.0) c.note_call.ensures.after);
  some_lane = c.requires.some_lane;
  few_lanes = c.requires.few_lanes;
}
