use Rattle.ascii_words.proofs.ascii.WordsLemmas.{words-ascii}
use Rattle.ascii_words.proofs.laws.words_of_ascii.Goals as goal

pub returns : goal.returns
returns c = words-ascii
