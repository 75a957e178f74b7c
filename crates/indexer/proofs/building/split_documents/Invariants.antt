use Rattle.std.proofs.Common.{◌≤◌, ◌∷◌, map}
use Rattle.std.specs.List.{range_with_len}
use Rattle.execution_definitions.specs.declared.call.Call.TheVariants as call
use Rattle.indexer.specs.BuildCalls.{split_call}
use Rattle.indexer.specs.Parts.{HasMade}
use Rattle.indexer.proofs.building.split_documents.Given as goal

-- so many documents are split
abbrev pub invariant-loop-number : goal.invariant-loop-number
invariant-loop-number g l = record {
  within : l.number ≤ l.count;
  made : HasMade (g.D.Runtime.seen l.fn.d) (g.D.Runtime.seen l.d)
      (call.Begin ∷ map split_call (range_with_len 0 l.number));
}
