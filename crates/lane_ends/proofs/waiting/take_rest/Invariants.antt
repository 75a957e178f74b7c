use Rattle.std.proofs.Common.{◌≡◌, ◌-◌, ◌++◌, length}
use Rattle.set_queue.specs.Ends.{sent, received, known, AreOneLane, IsSameSender}
use Rattle.delegates.specs.Works.{HasReturned}
use Rattle.lane_ends.proofs.waiting.take_rest.Given as goal

abbrev pub invariant-loop-m : goal.invariant-loop-m
invariant-loop-m g l = record {
  back : HasReturned g.C.LocalClass.local_meaning l.fn.home
      (record { store = l.store; receiver = l.receiver });
  one : AreOneLane l.sender l.receiver;
  same : IsSameSender l.fn.sender l.sender;
  kept : sent l.sender ≡ sent l.fn.sender;
  all : received l.receiver ++ known l.receiver ≡ sent l.sender;
}

abbrev pub decreases-loop-m : goal.decreases-loop-m
decreases-loop-m g l = length (sent l.sender) - length (received l.receiver)
