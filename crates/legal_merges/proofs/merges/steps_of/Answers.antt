use Rattle.std.proofs.Common.{◌≡◌, ◌∙◌, Err, length, refl, subst, take}
use Rattle.std.proofs.lemmas.List.{length-map}
use Rattle.std.proofs.lemmas.Option.{slice_get_read}
use Rattle.legal_merges.specs.declared.step.Step.{Step}
use Rattle.execution_definitions.specs.Meanings.{shape_of, shapes_of}
use Rattle.execution_definitions.specs.Refusals.{breaks}
use Rattle.legal_merges.specs.kept.Judging.{AnswersFault}
use Rattle.legal_merges.proofs.TableLemmas.{shape_of_item, steps-push, steps-all, steps-broken}
use Rattle.legal_merges.proofs.merges.steps_of.Goals as goal

-- the next call is refused
pub returns-in-Err-Refused-clause-fault : goal.returns-in-Err-Refused-clause-fault
returns-in-Err-Refused-clause-fault g c = λ order.
    let m = g.C.Class.meaning in
    let shapes = shapes_of m c.args.calls.now in
    let here = slice_get_read c.args.calls.now _ c.loop-call.call-index c.call-item.result refl
    c.loop-call-test.true c.call-item.is in
    let at = shape_of_item m c.args.calls.now c.loop-call.call-index c.call-item.result here in
    let answered = c.in-Err-Refused.ensures.rule (take c.loop-call.call-index shapes)
    c.loop-call.invariant.represents in
    let count : c.len.result ≡ length c.loop-call.steps.items =
    c.len.ensures ∙ c.loop-call.steps.ok.0 in
    rw (c.in-Err-Refused.field-0-is, count)
    (steps-broken c.args.lanes shapes c.loop-call.marks c.loop-call.steps.items
    c.loop-call.call-index _ c.in-Err-Refused.refusal c.loop-call.invariant at
    (subst (λ f. AnswersFault {T = Step} (Err f)
    (breaks (take c.loop-call.call-index shapes) (shape_of m.own c.call-item.result)))
    c.in-Err-Refused.field-0-is answered))

pub loop-call-preserved : goal.loop-call-preserved
loop-call-preserved g c =
    let m = g.C.Class.meaning in
    let shapes = shapes_of m c.args.calls.now in
    let here = slice_get_read c.args.calls.now _ c.loop-call.call-index c.call-item.result refl
    c.loop-call-test.true c.call-item.is in
    let at = shape_of_item m c.args.calls.now c.loop-call.call-index c.call-item.result here in
    rw c.in-Ok-push.ensures.items
    (steps-push c.args.lanes shapes c.loop-call.marks c.step_of.new.marks c.loop-call.steps.items
    c.loop-call.call-index _ c.in-Ok.step c.loop-call.invariant at c.in-Ok.ensures.step
    c.in-Ok.ensures.represents)

pub returns-clause-table : goal.returns-clause-table
returns-clause-table g c =
    let m = g.C.Class.meaning in
    let count = length-map c.args.calls.now (shape_of m.own) in
    let past = c.loop-call-test.false in
    let high = c.loop-call.auto.call-index-end in
    steps-all c.args.lanes (shapes_of m c.args.calls.now) _ _ _ c.requires.some_lane
    (rw count past) (rw count high) c.loop-call.invariant
