use Rattle.std.proofs.Common.{◌≡◌, ◌+◌, ◌-◌, ◌++◌}
use Rattle.examples.specs.GridCalls.{rounds_calls}
use Rattle.examples.proofs.grid.push_rounds.Given as goal

-- the calls so far and those of the rounds that are left are those of all rounds
abbrev pub invariant-loop-round : goal.invariant-loop-round
invariant-loop-round l = record {
  halves : l.from + l.to ≡ l.rows + 2;
  left : l.calls.items ++ rounds_calls l.rows (l.rounds - l._round) l.from l.to
      ≡ l.fn.calls.items ++ rounds_calls l.rows l.rounds 0 (l.rows + 2);
}
