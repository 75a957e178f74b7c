use Rattle.std.proofs.Common.{◌<◌, length, refl, sym, ap, ◌∙◌, arith}
use Rattle.std.proofs.lemmas.Option.{slice_get_read}
use Rattle.interleavings.specs.Machines.{front_at, without_front}
use Rattle.schedule_core.specs.Queues.{queued}
use Rattle.schedule_core.proofs.QueueLemmas.{popped_front, popped_rest, length-queued, get-queued, set-taken, past-rest, front_at-get}
use Rattle.schedule_core.proofs.queues.pop_from.Goals as goal

pub returns-then-lane-len-clause-rest : goal.returns-then-lane-len-clause-rest
returns-then-lane-len-clause-rest g c =
    let lanes = c.args.lanes.now in
    let past = c.if-lane-len.true in
    let from = c.from-lane.ensures in
    let len = c.len.ensures in
    let same = lanes.ok.0 in
    let count = length-queued lanes.items in
    sym (past-rest (queued lanes.items) c.args.lane.0 (omega (arith, past, from, len, same, count)))

pub returns-clause-front : goal.returns-clause-front
returns-clause-front g c =
    let lanes = c.args.lanes.now in
    let old = c.index_mut.result.now in
    let new = c.pop_front.new.self in
    let below = c.if-lane-len.false in
    let len = c.len.ensures in
    let same = lanes.ok.0 in
    let within : c.from-lane.result < length lanes.items = omega (arith, below, len, same) in
    let here = slice_get_read lanes.items (length lanes.items) c.from-lane.result old refl within
    c.index_mut.ensures.value in
    popped_front old.entries.items new.items c.pop_front.result c.pop_front.ensures.items
    c.pop_front.ensures.rest
    ∙ sym (front_at-get (queued lanes.items) c.from-lane.result old.entries.items
    (get-queued lanes.items c.from-lane.result old here))
    ∙ ap (front_at (queued lanes.items)) c.from-lane.ensures

pub returns-clause-rest : goal.returns-clause-rest
returns-clause-rest g c =
    let lanes = c.args.lanes.now in
    let old = c.index_mut.result.now in
    let new = c.pop_front.new.self in
    let below = c.if-lane-len.false in
    let len = c.len.ensures in
    let same = lanes.ok.0 in
    let within : c.from-lane.result < length lanes.items = omega (arith, below, len, same) in
    let here = slice_get_read lanes.items (length lanes.items) c.from-lane.result old refl within
    c.index_mut.ensures.value in
    set-taken lanes.items c.from-lane.result old _ here
    (popped_rest old.entries.items new.items c.pop_front.ensures.rest)
    ∙ ap (λ n. without_front n (queued lanes.items)) c.from-lane.ensures
