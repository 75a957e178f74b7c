use Rattle.report.proofs.EpochSetsLemmas.{epoch_sets-unique}
use Rattle.report.proofs.laws.epoch_sets_are_the_one_rising_list.Goals as goal

pub returns : goal.returns
returns c = epoch_sets-unique
