use Rattle.partition_check.proofs.represents.TheoremLemmas.{marks_follow}
use Rattle.partition_check.proofs.law.marks_follow_the_rule.Goals as goal

pub returns : goal.returns
returns c = marks_follow
