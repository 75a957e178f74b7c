use Rattle.std.proofs.Common.{◌≡◌, take}
use Rattle.report.specs.Traces.{runs_in}
use Rattle.report.proofs.trace.runs_in.Given as goal

-- the runs of the logs so far
abbrev pub invariant-loop-log : goal.invariant-loop-log
invariant-loop-log l = l.runs.items ≡ runs_in (take l.log-index l.logs)
