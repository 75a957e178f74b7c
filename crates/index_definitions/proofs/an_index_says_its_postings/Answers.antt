use Rattle.index_definitions.proofs.IndexesLemmas.{says_its_postings}
use Rattle.index_definitions.proofs.an_index_says_its_postings.Goals as goal

pub returns : goal.returns
returns c = says_its_postings
