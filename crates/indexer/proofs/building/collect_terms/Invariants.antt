use Rattle.std.proofs.Common.{ℕ, ◌≤◌, map}
use Rattle.std.specs.List.{range_with_len}
use Rattle.shard.specs.Shards.{ShardParts}
use Rattle.indexer.specs.BuildCalls.{get_call}
use Rattle.indexer.specs.Parts.{HasMade}
use Rattle.indexer.specs.Collected.{HasShards, CollectsTerms}
use Rattle.indexer.proofs.building.collect_terms.Given as goal

-- the terms of so many shards are collected
abbrev pub invariant-loop-number : goal.invariant-loop-number
invariant-loop-number g l = record {
  within : l.number ≤ 16;
  terms : (parts : ℕ → ShardParts) →
      HasShards (g.D.Runtime.seen l.fn.d).state l.count parts →
      CollectsTerms parts l.number l.terms.items;
  made : HasMade (g.D.Runtime.seen l.fn.d) (g.D.Runtime.seen l.d)
      (map (get_call l.count) (range_with_len 0 l.number));
}
