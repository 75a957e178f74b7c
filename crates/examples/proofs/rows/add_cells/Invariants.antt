use Rattle.std.proofs.Common.{◌≡◌, ◌≤◌, take}
use Rattle.examples.specs.Grids.{row_sum}
use Rattle.examples.proofs.rows.add_cells.Given as goal

-- the cells of the other row so far are added
abbrev pub invariant-loop-place : goal.invariant-loop-place
invariant-loop-place l = record {
  within : l.place ≤ l.both;
  added : l.cells ≡ row_sum l.fn.cells (take l.place l.other);
}
