use Rattle.doc_words.proofs.StopSetLemmas.{IsStrictlySortedBy-texts}
use Rattle.doc_words.proofs.stop_set.StopSet.empty.Goals as goal

pub invariant_of-result : goal.invariant_of-result
invariant_of-result c = IsStrictlySortedBy-texts _ c.new.ensures.ordered
