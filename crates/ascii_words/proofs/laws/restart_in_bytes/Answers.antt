use Rattle.ascii_words.proofs.reading.LossyLemmas.{words-restart_in_bytes}
use Rattle.ascii_words.proofs.laws.restart_in_bytes.Goals as goal

pub returns : goal.returns
returns c = words-restart_in_bytes
