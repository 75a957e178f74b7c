use Rattle.std.proofs.Common.{◌≡◌, ℕ, List, length}
use Rattle.std.specs.Prelude.{◌||◌}
use Rattle.std.specs.Cmp.Lexicographic.{slice_cmp}
use Rattle.std.specs.List.Sorted.{IsStrictlySortedBy}
use Rattle.std.specs.Ordering.{nat_cmp}
use Rattle.index_definitions.specs.Words.{terms_in}
use Rattle.index_definitions.specs.Terms.{has_term}
use Rattle.doc_words.proofs.stop_set.StopSet.of.Given as goal

-- the terms that are known and those that are left are all
abbrev pub invariant-loop-set : goal.invariant-loop-set
invariant-loop-set l =
    record {
      rises : IsStrictlySortedBy (slice_cmp nat_cmp) l.set;
      members :
          (q : List ℕ)
          → (has_term l.set q || has_term l.terms q) ≡ has_term (terms_in l.fn.bytes) q;
    }

abbrev pub decreases-loop-set : goal.decreases-loop-set
decreases-loop-set l = length l.terms
