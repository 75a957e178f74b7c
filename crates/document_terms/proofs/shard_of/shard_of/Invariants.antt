use Rattle.std.proofs.Common.{◌≡◌, ◌%◌, take}
use Rattle.std.specs.Prelude.{sum}
use Rattle.document_terms.proofs.shard_of.shard_of.Given as goal

-- the sum so far
abbrev pub invariant-loop-byte : goal.invariant-loop-byte
invariant-loop-byte l = l.sum ≡ sum (take l.byte-index l.byte-items) % 16
