use Rattle.std.proofs.Common.{◌∙◌, ap, sym}
use Rattle.text_table.specs.TextMaps.{map_of}
use Rattle.shard.specs.Shards.{last_in}
use Rattle.shard.proofs.ShardLemmas.{last_in-empty}
use Rattle.shard.proofs.shard.Shard.new.Goals as goal

pub invariant_of-result : goal.invariant_of-result
invariant_of-result c =
    sym (ap (λ entries. last_in (map_of entries)) c.new.ensures ∙ last_in-empty)
