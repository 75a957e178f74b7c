use Rattle.std.proofs.Common.{◌≡◌, take, map}
use Rattle.document_terms.specs.Shards.{shard_of}
use Rattle.document_terms.proofs.counted_words.shards_of.Given as goal

-- the shards so far
abbrev pub invariant-loop-number : goal.invariant-loop-number
invariant-loop-number l = l.shards.items ≡ map shard_of (take l.number l.terms)
