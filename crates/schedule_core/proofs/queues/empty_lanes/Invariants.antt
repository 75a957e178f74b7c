use Rattle.std.proofs.Common.{◌≡◌, [], replicate}
use Rattle.schedule_core.specs.Queues.{queued}
use Rattle.schedule_core.proofs.queues.empty_lanes.Given as goal

abbrev pub invariant-loop : goal.invariant-loop
invariant-loop g l = queued l.lanes.items ≡ replicate l.counter []
