use Rattle.std.proofs.Common.{◌≡◌, ◌++◌, take}
use Rattle.shard.proofs.ShardTermsLemmas.{uncounted_terms}
use Rattle.shard.proofs.shard.Shard.push_terms.Given as goal

-- the terms so far are appended
abbrev pub invariant-loop-number : goal.invariant-loop-number
invariant-loop-number l =
    l.terms.items ≡ l.fn.terms.items ++ take l.number (uncounted_terms l.self-inside.lists)
