use Rattle.std.proofs.Common.{◌≤◌, map}
use Rattle.std.specs.List.{range_with_len}
use Rattle.indexer.specs.BuildCalls.{gather_call}
use Rattle.indexer.specs.Parts.{HasMade}
use Rattle.indexer.proofs.building.gather_document.Given as goal

-- the document is gathered into so many shards
abbrev pub invariant-loop-number : goal.invariant-loop-number
invariant-loop-number g l = record {
  within : l.number ≤ 16;
  made : HasMade (g.D.Runtime.seen l.fn.d) (g.D.Runtime.seen l.d)
      (map (gather_call l.count l.place) (range_with_len 0 l.number));
}
