use Rattle.index_definitions.proofs.SaidLemmas.{is_index_of-said}
use Rattle.index_definitions.proofs.an_index_is_that_of_its_postings.Goals as goal

pub returns : goal.returns
returns c = is_index_of-said
