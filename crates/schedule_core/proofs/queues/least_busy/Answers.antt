use Rattle.std.proofs.Common.{sym, ◌∙◌, arith}
use Rattle.schedule_core.specs.Queues.{queued}
use Rattle.schedule_core.proofs.QueueLemmas.{length-queued, least_busy-at, least_busy-none}
use Rattle.schedule_core.proofs.queues.least_busy.Goals as goal

pub returns : goal.returns
returns g c =
    let lanes = c.args.lanes.now in
    let past = c.loop-index-test.false in
    let len = c.len-index-end.ensures in
    let same = lanes.ok.0 in
    let count = length-queued lanes.items in
    sym (least_busy-none (queued lanes.items) (λ k below.
    c.loop-index.invariant k (omega (arith, past, len, same, count, below))))

pub returns-then-not-is_idle : goal.returns-then-not-is_idle
returns-then-not-is_idle g c =
    sym (least_busy-at (queued c.args.lanes.now.items) c.loop-index.index c.loop-index.invariant
    (sym c.is_idle.ensures ∙ c.if-not-is_idle.true))
