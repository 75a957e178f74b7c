use Rattle.std.proofs.Common.{◌≡◌, take, drop}
use Rattle.examples.proofs.grid.rows_at.Given as goal

-- the rows so far
abbrev pub invariant-loop-row : goal.invariant-loop-row
invariant-loop-row l = l.rows.items ≡ take l.row-index (drop l.first l.values)
