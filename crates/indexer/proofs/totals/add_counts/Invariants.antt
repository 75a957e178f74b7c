use Rattle.std.proofs.Common.{◌≡◌, drop, map}
use Rattle.class_laws.specs.Counts.{counts_join}
use Rattle.class_laws.specs.CountTables.{counts_of}
use Rattle.indexer.specs.Totals.{counts_in}
use Rattle.indexer.proofs.TotalsLemmas.{size_in}
use Rattle.indexer.proofs.totals.add_counts.Given as goal

-- what is left, joined to what was added, comes to the join of the whole
abbrev pub invariant-loop-number : goal.invariant-loop-number
invariant-loop-number l =
    counts_join l.counts
    (counts_of (drop l.number l.words.terms)
    (drop l.number (map (size_in l.words.words) l.words.terms)))
    ≡ counts_join l.fn.counts (counts_in l.words.words)
