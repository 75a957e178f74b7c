use Rattle.std.proofs.Common.{◌<◌, Some, length, refl, sym, ap, ◌∙◌, arith}
use Rattle.std.specs.Option.{option_map}
use Rattle.std.proofs.lemmas.Option.{slice_get_read}
use Rattle.execution_definitions.specs.declared.call.Call.TheVariants as call
use Rattle.execution_definitions.specs.declared.call.Reply.TheVariants as reply
use Rattle.execution_definitions.specs.Shapes as shape
use Rattle.execution_definitions.specs.Meanings.{shapes_of}
use Rattle.delegation.proofs.plains.PlainLemmas.{length-noted}
use Rattle.schedule_core.proofs.CallLemmas.{accepted}
use Rattle.schedule_core.proofs.calls.get.Goals as goal

pub returns-clause-answers : goal.returns-clause-answers
returns-clause-answers g c = λ before is.
    let m = g.C.LocalClass.local_meaning in
    let store = c.args.store.now in
    let allowed = c.in_ok-check_get.ensures.breaks (shapes_of m before) is in
    let known = c.in_ok-check_get.ensures.known in
    let values = c.requires.values in
    let within : c.args.object.0 < length store.values.items = omega (arith, known, values) in
    let here = slice_get_read store.values.items (length store.values.items) c.args.object.0
    c.index.result.now refl within c.index.ensures in
    accepted m before store _ (call.Get c.args.object) (reply.Value c.in_ok-value.value) allowed
    refl
    (c.note_call.ensures.represents (shapes_of m before) (shape.get c.args.object.0) refl is
    allowed)
    (ap (λ x. Some (reply.Value x)) c.in_ok-value.ensures ∙ sym (ap (option_map reply.Value) here))

pub returns-clause-fit : goal.returns-clause-fit
returns-clause-fit g c = record {
  values = c.requires.values
      ∙ sym (length-noted _ _ (Some c.args.object.0) c.note_call.ensures.after);
  some_lane = c.requires.some_lane;
  few_lanes = c.requires.few_lanes;
}
