use Rattle.indexer.proofs.BuildLeavesLemmas.{build_leaves}
use Rattle.indexer.proofs.laws.what_the_calls_of_build_leave.Goals as goal

pub returns : goal.returns
returns c = build_leaves
