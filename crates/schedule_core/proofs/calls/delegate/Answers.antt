use Rattle.std.proofs.Common.{◌≡◌, Some, None, [], ◌∷◌, ◌++◌, sym, ap, ◌∙◌, subst, arith}
use Rattle.std.proofs.lemmas.List.{length-map}
use Rattle.ss_base.specs.Ids.{call_no}
use Rattle.execution_definitions.specs.declared.call.Call.TheVariants as call
use Rattle.execution_definitions.specs.declared.call.Reply.TheVariants as reply
use Rattle.execution_definitions.specs.Shapes as shape
use Rattle.execution_definitions.specs.Sets.{set_of, lane_of_set}
use Rattle.execution_definitions.specs.Refusals.{breaks}
use Rattle.execution_definitions.specs.Meanings.{number_given, shape_of, shapes_of}
use Rattle.partition_check.specs.Represents.{Represents}
use Rattle.delegation.proofs.plains.PlainLemmas.{length-delegated}
use Rattle.schedule_core.proofs.CallLemmas.{accepted, entered_as}
use Rattle.schedule_core.proofs.calls.delegate.Goals as goal

pub returns-clause-answers : goal.returns-clause-answers
returns-clause-answers g c = λ before is.
    let m = g.C.LocalClass.local_meaning in
    let store = c.args.store.now in
    let shapes = shapes_of m before in
    let object = c.args.object in
    let reading = c.args.reading in
    let own = c.local_own_set.ensures in
    let set = c.in_ok-set.set in
    let number = c.calls.ensures ∙ is.call_count in
    accepted m before store _ (call.Delegate object c.args.op reading)
    (reply.Sent (call_no c.calls.result))
    (subst (λ n. breaks shapes (shape.delegate object.0 n (number_given reading)) ≡ None) own
    (c.in_ok-set.ensures.breaks shapes is))
    (entered_as m before store c.push_to.new.lanes.items object c.args.op reading c.calls.result
    c.epoch-epoch.result c.lane_of-lane.result.0 set c.in_ok-read.read number
    (c.epoch-epoch.ensures ∙ is.epochs)
    (c.in_ok-set.ensures.set shapes is ∙ ap (set_of shapes object.0) own) c.in_ok-read.ensures
    (c.lane_of-lane.ensures ∙ ap (lane_of_set set.0) (c.len.ensures ∙ store.lanes.ok.0))
    c.in_ok-push_to.ensures.entered)
    (subst (λ n. Represents c.delegate.new.self
    (shapes ++ shape.delegate object.0 n (number_given reading) ∷ [])) own
    (c.in_ok-set.ensures.represents shapes is))
    (ap (λ n. Some (reply.Sent (call_no n))) (number ∙ length-map before (shape_of m.own)))

pub returns-clause-fit : goal.returns-clause-fit
returns-clause-fit g c =
    let count = c.in_ok-push_to.ensures.count in
    let some = c.requires.some_lane in
    let few = c.requires.few_lanes in record {
      values = c.requires.values
          ∙ sym (length-delegated _ _ c.args.object.0 _ _ c.in_ok-set.ensures.after);
      some_lane = omega (arith, count, some);
      few_lanes = omega (arith, count, few);
    }
