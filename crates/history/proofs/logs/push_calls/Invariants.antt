use Rattle.std.proofs.Common.{◌≡◌, ◌++◌, take}
use Rattle.history.specs.Logs.{calls_in}
use Rattle.history.proofs.logs.push_calls.Given as goal

-- the calls of the runs so far are pushed
abbrev pub invariant-loop-run : goal.invariant-loop-run
invariant-loop-run l =
    l.calls.items ≡ l.fn.calls.items ++ calls_in l.epoch l.set.0 (take l.run-index l.runs)
