use Rattle.std.proofs.Common.{◌≡◌, ◌+◌, ◌%◌, ◌^◌}
use Rattle.std.specs.List.{sum_by}
use Rattle.index_definitions.specs.PostingLists.{pairs_of}
use Rattle.report.proofs.summary.add_positions.Given as goal

-- with the positions that are left, the sum comes to that of all
abbrev pub invariant-loop-position : goal.invariant-loop-position
invariant-loop-position l =
    (l.sum + sum_by (λ pair. pair.1) l.position-iterator) % (2 ^ 32)
    ≡ (l.fn.sum + sum_by (λ pair. pair.1) (pairs_of l.postings)) % (2 ^ 32)
