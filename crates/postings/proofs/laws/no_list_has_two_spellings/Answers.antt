use Rattle.postings.proofs.SpellingLemmas.{no_two_spellings}
use Rattle.postings.proofs.laws.no_list_has_two_spellings.Goals as goal

pub returns : goal.returns
returns c = no_two_spellings
