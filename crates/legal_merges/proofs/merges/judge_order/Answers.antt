use Rattle.std.proofs.Common.{◌≡◌, refl}
use Rattle.std.proofs.lemmas.Option.{slice_get-get_or}
use Rattle.std.proofs.lemmas.Result.{err_from_is_err_and}
use Rattle.execution_definitions.specs.Meanings.{shapes_of}
use Rattle.legal_merges.proofs.OrdersLemmas.{order-push, order-stop, order-merge, order-short}
use Rattle.legal_merges.proofs.merges.judge_order.Goals as goal

pub returns-in_err-turns-clause-fault : goal.returns-in_err-turns-clause-fault
returns-in_err-turns-clause-fault g c =
    let given = err_from_is_err_and c.from_residual.result c.from_residual.ensures.1 in
    let same : given.0 ≡ c.in_err-turns.field-0.0 = cc in
    rw (given.1, same) (c.in_err-turns.ensures.fault _)

-- a place with which the order begins no legal merge
pub returns-then-not-take-clause-fault : goal.returns-then-not-take-clause-fault
returns-then-not-take-clause-fault g c =
    let shapes = shapes_of g.C.Class.meaning c.args.calls.now in
    let at = slice_get-get_or c.args.order.now c.loop-place.place _ c.loop-place-test.true in
    order-stop c.args.lanes shapes c.args.order.now c.loop-place.place _ _ at refl
    c.loop-place.turns c.loop-place.invariant
    (c.if-not-take.ensures c.args.lanes shapes _ c.loop-place.invariant)

pub loop-place-preserved : goal.loop-place-preserved
loop-place-preserved g c =
    let shapes = shapes_of g.C.Class.meaning c.args.calls.now in
    let at = slice_get-get_or c.args.order.now c.loop-place.place _ c.loop-place-test.true in
    order-push c.args.lanes shapes c.args.order.now c.loop-place.place _ _ at refl
    c.take.new.self (c.if-not-take.ensures c.args.lanes shapes _ c.loop-place.invariant)

-- some calls are left
pub returns-then-not-are_done-clause-fault : goal.returns-then-not-are_done-clause-fault
returns-then-not-are_done-clause-fault g c =
    let shapes = shapes_of g.C.Class.meaning c.args.calls.now in
    order-short c.args.lanes shapes c.args.order.now c.loop-place.place c.loop-place.turns
    c.loop-place.invariant c.loop-place-test.false _ refl
    (c.if-not-are_done.ensures c.args.lanes shapes _ c.loop-place.invariant)

pub returns-clause-legal : goal.returns-clause-legal
returns-clause-legal g c =
    let shapes = shapes_of g.C.Class.meaning c.args.calls.now in
    order-merge c.args.lanes shapes c.args.order.now c.loop-place.place c.loop-place.turns
    c.loop-place.invariant c.loop-place-test.false
    (c.if-not-are_done.ensures c.args.lanes shapes _ c.loop-place.invariant)
