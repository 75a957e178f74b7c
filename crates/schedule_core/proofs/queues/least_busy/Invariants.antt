use Rattle.std.proofs.Common.{◌≡◌, ℕ, ◌<◌, true}
use Rattle.std.specs.Prelude.{slice_get}
use Rattle.interleavings.specs.Machines.{is_idle}
use Rattle.schedule_core.specs.Queues.{queued}
use Rattle.schedule_core.proofs.queues.least_busy.Given as goal

-- nothing waits in the lanes before
abbrev pub invariant-loop-index : goal.invariant-loop-index
invariant-loop-index g l =
    (k : ℕ) → k < l.index → is_idle (slice_get (queued l.lanes.items) k) ≡ true
