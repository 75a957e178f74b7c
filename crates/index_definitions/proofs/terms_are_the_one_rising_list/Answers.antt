use Rattle.index_definitions.proofs.TermsLemmas.{rising_terms-unique}
use Rattle.index_definitions.proofs.terms_are_the_one_rising_list.Goals as goal

pub returns : goal.returns
returns c = rising_terms-unique
