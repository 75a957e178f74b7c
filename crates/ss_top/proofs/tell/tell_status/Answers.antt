use Rattle.ss_top.specs.Texts.{write_fault_text}
use Rattle.ss_top.proofs.tell.tell_status.Goals as goal

pub returns-in-WriteFault : goal.returns-in-WriteFault
unfolding write_fault_text
returns-in-WriteFault g c = rw c.in-WriteFault.is c.tell.ensures
