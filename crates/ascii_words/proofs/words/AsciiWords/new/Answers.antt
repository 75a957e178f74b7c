use Rattle.ascii_words.proofs.places.PlaceLemmas.{words_left-start}
use Rattle.ascii_words.proofs.words.AsciiWords.new.Goals as goal

pub returns : goal.returns
returns c = words_left-start c.args.text.now c.requires
