use Rattle.ss_top.specs.Texts.{word_text}
use Rattle.ss_top.proofs.tell.tell_fault.Goals as goal

pub returns-in-Schedule : goal.returns-in-Schedule
unfolding word_text
returns-in-Schedule g c = rw (c.in-Schedule.is, ← c.from.ensures) c.tell_number.ensures
