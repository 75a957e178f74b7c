use Rattle.std.proofs.Common.{◌≡◌, drop}
use Rattle.text_table.specs.TextMaps.{map_of}
use Rattle.class_laws.specs.Counts.{counts_join}
use Rattle.class_laws.proofs.count_table.CountTable.pour.Given as goal

-- what is left, joined to what was poured, comes to the join of the whole
abbrev pub invariant-loop-number : goal.invariant-loop-number
invariant-loop-number l =
    counts_join l.self (map_of (drop l.number l.other-inside.counts))
    ≡ counts_join l.fn.self l.fn.other
