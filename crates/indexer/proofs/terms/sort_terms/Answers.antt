use Rattle.std.proofs.Common.{rules}
use Rattle.std.proofs.lemmas.List.MinMax.{ranks_by}
use Rattle.std.proofs.lemmas.List.Sorted.{answers_always}
use Rattle.std.specs.Ordering.{is_lt}
use Rattle.index_definitions.specs.Index.{TermRecord}
use Rattle.class_laws.specs.Counts.{text_order}
use Rattle.class_laws.specs.Laws.Counts.{text_order_total}
use Rattle.index_definitions.specs.Indexes.{texts_of}
use Rattle.indexer.proofs.CollectedLemmas.{texts_rise, texts_of-permutation}
use Rattle.indexer.proofs.CollectedLemmas.{AreDistinct-permutation}
use Rattle.indexer.proofs.terms.sort_terms.Goals as goal

pub returns-clause-sorted : goal.returns-clause-sorted
returns-clause-sorted c distinct =
    let old = c.args.terms.now.items in
    let new = c.sort_unstable_by.new.self.items in
    texts_rise new
    (c.sort_unstable_by.ensures.sorted (λ x y. is_lt (text_order x.text y.text))
    (ranks_by text_order_total (λ (r : TermRecord). r.text))
    (answers_always _ _ _ (λ f a r f' called. search rules)))
    (AreDistinct-permutation (texts_of old) (texts_of new)
    (texts_of-permutation old new c.sort_unstable_by.ensures.permutation) distinct)
