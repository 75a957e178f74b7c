use Rattle.std.proofs.Common.{ℕ, ◌++◌, List, drop}
use Rattle.index_definitions.specs.PostingLists.{RisesAbove}
use Rattle.postings.specs.Appending.{Appends}
use Rattle.postings.specs.Spelling.{SpellsPositions}
use Rattle.postings.proofs.encoding.push_positions.Given as goal

-- whatever spells the positions that are left completes them
abbrev pub invariant-loop-position : goal.invariant-loop-position
invariant-loop-position l =
    record {
      rises : RisesAbove l.before (drop l.position-index l.positions);
      goes_on : (tail : List ℕ)
          → SpellsPositions l.before tail (drop l.position-index l.positions)
          → Appends (λ more. SpellsPositions 0 more l.fn.positions) l.fn.bytes.items
          (l.bytes.items ++ tail);
    }
