use Rattle.postings.proofs.SpellingLemmas.{no_two_lists}
use Rattle.postings.proofs.laws.no_bytes_spell_two_lists.Goals as goal

pub returns : goal.returns
returns c = no_two_lists
