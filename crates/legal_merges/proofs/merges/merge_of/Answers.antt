use Rattle.std.proofs.Common.{◌≡◌, ◌∙◌, refl}
use Rattle.std.proofs.lemmas.Option.{slice_get-get_or}
use Rattle.std.proofs.lemmas.Result.{err_from_is_err_and}
use Rattle.execution_definitions.specs.Meanings.{shapes_of}
use Rattle.legal_merges.proofs.OrdersLemmas.{picks-push, picks-stop, picks-merge, picks-short}
use Rattle.legal_merges.proofs.merges.merge_of.Goals as goal

pub returns-in_err-turns-clause-fault : goal.returns-in_err-turns-clause-fault
returns-in_err-turns-clause-fault g c =
    let given = err_from_is_err_and c.from_residual.result c.from_residual.ensures.1 in
    let same : given.0 ≡ c.in_err-turns.field-0.0 = cc in
    rw (given.1, same) (c.in_err-turns.ensures.fault _)

-- a pick with which the order begins no legal merge
pub returns-then-not-take-clause-fault : goal.returns-then-not-take-clause-fault
returns-then-not-take-clause-fault g c =
    let shapes = shapes_of g.C.Class.meaning c.args.calls.now in
    let so_far = c.loop-pick.invariant in
    let at = slice_get-get_or c.args.picks.now c.loop-pick.pick-index _ c.loop-pick-test.true in
    let count : c.len.result ≡ c.loop-pick.pick-index =
    c.len.ensures ∙ c.loop-pick.order.ok.0 ∙ so_far.count in
    picks-stop c.args.lanes shapes c.args.picks.now c.loop-pick.order.items c.loop-pick.turns
    c.loop-pick.pick-index _ c.next_of-place.result _ so_far at c.turn_picked.ensures
    (c.next_of-place.ensures c.args.lanes shapes _ so_far.way) c.len.result count
    (c.if-not-take.ensures c.args.lanes shapes _ so_far.way)

pub loop-pick-preserved : goal.loop-pick-preserved
loop-pick-preserved g c =
    let shapes = shapes_of g.C.Class.meaning c.args.calls.now in
    let so_far = c.loop-pick.invariant in
    let at = slice_get-get_or c.args.picks.now c.loop-pick.pick-index _ c.loop-pick-test.true in
    rw c.in-Ok.ensures.items
    (picks-push c.args.lanes shapes c.args.picks.now c.loop-pick.order.items c.loop-pick.turns
    c.loop-pick.pick-index _ c.next_of-place.result _ so_far at c.turn_picked.ensures
    (c.next_of-place.ensures c.args.lanes shapes _ so_far.way) _ c.take.new.self refl
    (c.if-not-take.ensures c.args.lanes shapes _ so_far.way))

-- some calls are left
pub returns-then-not-are_done-clause-fault : goal.returns-then-not-are_done-clause-fault
returns-then-not-are_done-clause-fault g c =
    let shapes = shapes_of g.C.Class.meaning c.args.calls.now in
    let so_far = c.loop-pick.invariant in
    picks-short c.args.lanes shapes c.args.picks.now c.loop-pick.order.items c.loop-pick.turns
    c.loop-pick.pick-index so_far c.loop-pick-test.false _ refl
    (c.if-not-are_done.ensures c.args.lanes shapes _ so_far.way)

pub returns-clause-legal : goal.returns-clause-legal
returns-clause-legal g c =
    let shapes = shapes_of g.C.Class.meaning c.args.calls.now in
    let so_far = c.loop-pick.invariant in
    picks-merge c.args.lanes shapes c.args.picks.now c.loop-pick.order.items c.loop-pick.turns
    c.loop-pick.pick-index so_far c.loop-pick-test.false
    (c.if-not-are_done.ensures c.args.lanes shapes _ so_far.way)
