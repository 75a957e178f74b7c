use Rattle.std.proofs.Common.{◌≡◌}
use Rattle.set_queue.specs.Ends.{sent, IsSameSender}
use Rattle.lane_ends.proofs.waiting.send_waiting.Given as goal

abbrev pub invariant-loop : goal.invariant-loop
invariant-loop g l =
    IsSameSender l.initial.sender l.sender × (sent l.sender ≡ sent l.initial.sender)
    × (l.waiting ≡ l.initial.waiting)
