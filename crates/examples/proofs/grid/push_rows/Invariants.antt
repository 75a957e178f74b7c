use Rattle.std.proofs.Common.{◌≡◌, ◌++◌, map}
use Rattle.examples.specs.GridCalls.{make_row}
use Rattle.examples.proofs.grid.push_rows.Given as goal

-- the rows so far are made, and those left are the others
abbrev pub invariant-loop-row : goal.invariant-loop-row
invariant-loop-row l = record {
  all : l.fn.rows.items ≡ l.yielded ++ l.row-iterator.rest.items;
  made : l.calls.items ≡ l.fn.calls.items ++ map make_row l.yielded;
}
