use Rattle.history.specs.Logs.{AreSentBefore}
use Rattle.history.proofs.logs.check.Given as goal

-- the logs so far are what was sent to their lanes
abbrev pub invariant-loop-lane : goal.invariant-loop-lane
invariant-loop-lane l = AreSentBefore l.lanes l.sent l.logs l.lane
