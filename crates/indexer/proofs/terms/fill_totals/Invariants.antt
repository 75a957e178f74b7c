use Rattle.std.proofs.Common.{◌≡◌, ◌++◌, map, take, drop}
use Rattle.indexer.specs.Collected.{with_count}
use Rattle.indexer.proofs.terms.fill_totals.Given as goal

-- the terms so far are counted
abbrev pub invariant-loop-term : goal.invariant-loop-term
invariant-loop-term l =
    l.term-items
    ≡ map (with_count l.counts) (take l.term-index l.fn.terms.items)
    ++ drop l.term-index l.fn.terms.items
