use Rattle.history.proofs.LogsLemmas.{Agrees}
use Rattle.history.proofs.logs.first_difference.Given as goal

-- of the runs so far, those of the lane are the front of the log
abbrev pub invariant-loop-run : goal.invariant-loop-run
invariant-loop-run l = Agrees l.lanes l.lane l.sent l.log l.run-index l.place
