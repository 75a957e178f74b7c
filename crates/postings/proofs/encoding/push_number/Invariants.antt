use Rattle.std.proofs.Common.{ℕ, ◌<◌, ◌++◌, List}
use Rattle.postings.specs.Appending.{Appends}
use Rattle.postings.specs.Spelling.{SpellsNumber}
use Rattle.postings.proofs.encoding.push_number.Given as goal

-- whatever spells the rest completes the number
abbrev pub invariant-loop-rest : goal.invariant-loop-rest
invariant-loop-rest l =
    record {
      some : 0 < l.rest;
      goes_on : (tail : List ℕ) → SpellsNumber tail l.rest
          → Appends (λ more. SpellsNumber more l.fn.number) l.fn.bytes.items
          (l.bytes.items ++ tail);
    }

abbrev pub decreases-loop-rest : goal.decreases-loop-rest
decreases-loop-rest l = l.rest
