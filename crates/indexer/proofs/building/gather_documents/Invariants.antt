use Rattle.std.proofs.Common.{◌≤◌, ◌∷◌}
use Rattle.std.specs.List.{flat_map, range_with_len}
use Rattle.execution_definitions.specs.declared.call.Call.TheVariants as call
use Rattle.indexer.specs.BuildCalls.{gather_document_calls}
use Rattle.indexer.specs.Parts.{HasMade}
use Rattle.indexer.proofs.building.gather_documents.Given as goal

-- so many documents are gathered
abbrev pub invariant-loop-place : goal.invariant-loop-place
invariant-loop-place g l = record {
  within : l.place ≤ l.count;
  made : HasMade (g.D.Runtime.seen l.fn.d) (g.D.Runtime.seen l.d)
      (call.Begin ∷ flat_map (gather_document_calls l.count) (range_with_len 0 l.place));
}
