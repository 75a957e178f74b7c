use Rattle.std.proofs.Common.{◌≡◌, ◌%◌, ◌^◌, take}
use Rattle.std.specs.List.{sum_by}
use Rattle.index_definitions.specs.IndexText.{sum_of_positions}
use Rattle.report.proofs.summary.sum_positions.Given as goal

-- the terms so far
abbrev pub invariant-loop-term : goal.invariant-loop-term
invariant-loop-term l = l.sum ≡ sum_by sum_of_positions (take l.term-index l.terms) % (2 ^ 32)
