use Rattle.execution_definitions.proofs.shapes.LawsLemmas.{epoch_is_open}
use Rattle.execution_definitions.proofs.laws.an_epoch_is_open_from_its_begin.Goals as goal

pub returns : goal.returns
returns c = epoch_is_open
