use Rattle.std.proofs.Common.{◌≡◌, ◌∙◌, sym, ap, subst, arith}
use Rattle.std.proofs.lemmas.Option.{get_or_from_slice_get}
use Rattle.execution_definitions.specs.Sequential.{state_after}
use Rattle.legal_merges.specs.kept.Judging.{ReadsAnother}
use Rattle.legal_merges.proofs.ReplayLemmas.{turn_at, replayed-next}
use Rattle.legal_merges.proofs.replay.replay.Goals as goal

pub index_mut-requires : goal.index_mut-requires
index_mut-requires g c =
    let turn = turn_at g.C.Class.meaning c.args.calls.items c.requires.0 c.args.order.now
    c.requires.1 c.loop-call.call-index (record { 0 = 0 }) c.loop-call-test.true c.loop-call.calls.items _
    c.loop-call.invariant in
    let inside = turn.inside in
    let count = c.loop-call.invariant.count in
    let length_is = c.loop-call.calls.ok.0 in
    omega arith

pub apply-requires-after_bounds : goal.apply-requires-after_bounds
apply-requires-after_bounds g c κs within =
    let turn = turn_at g.C.Class.meaning c.args.calls.items c.requires.0 c.args.order.now
    c.requires.1 c.loop-call.call-index _ c.loop-call-test.true c.loop-call.calls.items _
    c.loop-call.invariant in
    let is : c.replace-taken.result ≡ turn.call =
    c.replace-taken.ensures.value ∙ c.index_mut.ensures.value
    ∙ get_or_from_slice_get c.loop-call.calls.items _ turn.call _ turn.here in
    subst ReadsAnother (sym is) turn.reads

pub loop-call-preserved : goal.loop-call-preserved
loop-call-preserved g c =
    let turn = turn_at g.C.Class.meaning c.args.calls.items c.requires.0 c.args.order.now
    c.requires.1 c.loop-call.call-index _ c.loop-call-test.true c.loop-call.calls.items _
    c.loop-call.invariant in
    let is : c.replace-taken.result ≡ turn.call =
    c.replace-taken.ensures.value ∙ c.index_mut.ensures.value
    ∙ get_or_from_slice_get c.loop-call.calls.items _ turn.call _ turn.here in
    replayed-next g.C.Class.meaning c.args.calls.items c.args.order.now c.loop-call.call-index _
    c.loop-call-test.true c.loop-call.calls.items _ _ _ turn c.loop-call.invariant
    (c.in_ok-apply.ensures ∙ ap (state_after g.C.Class.meaning _) is)
