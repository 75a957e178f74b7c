use Rattle.std.proofs.Common.{◌≡◌, ◌++◌, drop, None}
use Rattle.report.specs.Tracing.{runs_text}
use Rattle.report.proofs.trace.push_runs.Given as goal

-- what is appended and what is left to append are the text of all runs
abbrev pub invariant-loop-run : goal.invariant-loop-run
invariant-loop-run l =
    l.text.items ++ runs_text l.last (drop l.run-index l.runs)
    ≡ l.fn.text.items ++ runs_text None l.runs
