use Rattle.std.proofs.Common.{subst, sym, ◌∙◌}
use Rattle.std.specs.Cmp.Lexicographic.{slice_cmp}
use Rattle.std.specs.List.Sorted.{IsStrictlySortedBy}
use Rattle.std.specs.Ordering.{nat_cmp}
use Rattle.doc_words.proofs.StopSetLemmas.{texts-clone}
use Rattle.doc_words.proofs.stop_set.StopSet.copy.Goals as goal

pub invariant_of-result : goal.invariant_of-result
invariant_of-result c =
    subst (IsStrictlySortedBy (slice_cmp nat_cmp))
    (sym (texts-clone (λ s t e. e) _ _ c.in_ok-terms.ensures.cases)) c.self.invariant

pub returns : goal.returns
returns c = texts-clone (λ s t e. e) _ _ c.in_ok-terms.ensures.cases ∙ c.self.view_is
