use Rattle.index_definitions.proofs.IndexesLemmas.{is_index}
use Rattle.index_definitions.proofs.an_index_is_well_formed.Goals as goal

pub returns : goal.returns
returns c = is_index
