use Rattle.ascii_words.proofs.lines.RestartLemmas.{words-restart}
use Rattle.ascii_words.proofs.laws.restart_at_line_end.Goals as goal

pub returns : goal.returns
returns c = words-restart
