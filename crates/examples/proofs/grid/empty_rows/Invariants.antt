use Rattle.std.proofs.Common.{◌≡◌, [], replicate}
use Rattle.examples.proofs.grid.empty_rows.Given as goal

-- so many rows are there
abbrev pub invariant-loop-place : goal.invariant-loop-place
invariant-loop-place l = l.rows.items ≡ replicate l._place []
