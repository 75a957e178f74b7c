use Rattle.std.proofs.Common.{◌≡◌, take}
use Rattle.history.specs.Logs.{calls_of_set}
use Rattle.history.proofs.logs.of_set.Given as goal

-- the calls of the logs so far are pushed
abbrev pub invariant-loop-log : goal.invariant-loop-log
invariant-loop-log l = l.calls.items ≡ calls_of_set l.epoch l.set.0 (take l.log-index l.logs)
