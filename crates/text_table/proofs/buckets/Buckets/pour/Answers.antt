use Rattle.std.proofs.Common.{arith}
use Rattle.std.proofs.lemmas.List.Elements.{All-from_all_within}
use Rattle.std.specs.List.{All}
use Rattle.text_table.specs.Buckets.{IsHeldBy}
use Rattle.text_table.proofs.BucketsLemmas.{AreHeldBy-from_each}
use Rattle.text_table.proofs.buckets.Buckets.pour.Goals as goal

-- all buckets were passed
pub returns-clause-put : goal.returns-clause-put
returns-clause-put c = λ _.
    let others = c.loop-bucket.others in
    let buckets = c.deref-bucket-items.result.now in
    rw (← c.self.view_is, ← c.deref-bucket-items.ensures.value)
    (AreHeldBy-from_each buckets others
    (All-from_all_within (All (IsHeldBy others)) buckets
    (λ k d low high. c.loop-bucket.invariant.put k d low (omega arith))))
