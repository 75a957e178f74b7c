use Rattle.std.proofs.Common.{◌≡◌, [], replicate, ap, ◌∙◌, arith}
use Rattle.schedule_core.proofs.queues.empty_lanes.Goals as goal

pub returns : goal.returns
returns g c =
    let below = c.loop-test.false in
    let above = c.loop.auto.counter-end in
    let count : c.loop.counter ≡ c.args.lane_count = omega (arith, below, above) in
    c.loop.invariant ∙ ap (λ n. replicate n []) count
