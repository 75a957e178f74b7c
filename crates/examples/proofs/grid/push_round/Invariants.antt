use Rattle.std.proofs.Common.{◌≡◌, ◌∷◌, ◌++◌}
use Rattle.std.specs.List.{flat_map, range_with_len}
use Rattle.execution_definitions.specs.declared.call.Call.TheVariants.{Begin}
use Rattle.examples.specs.GridCalls.{row_calls}
use Rattle.examples.proofs.grid.push_round.Given as goal

-- the epoch is begun, and has the calls of the rows so far
abbrev pub invariant-loop-place : goal.invariant-loop-place
invariant-loop-place l =
    l.calls.items
    ≡ l.fn.calls.items ++ (Begin ∷ flat_map (row_calls l.from l.to) (range_with_len 0 l.place))
