use Rattle.schedule_core.proofs.calls.answer.Goals as goal

pub returns-in-Make-clause-answers : goal.returns-in-Make-clause-answers
returns-in-Make-clause-answers g c = rw c.in-Make.is c.make.ensures.answers

pub returns-in-MakeFixed-clause-answers : goal.returns-in-MakeFixed-clause-answers
returns-in-MakeFixed-clause-answers g c = rw c.in-MakeFixed.is c.make-in-MakeFixed.ensures.answers

pub returns-in-Begin-clause-answers : goal.returns-in-Begin-clause-answers
returns-in-Begin-clause-answers g c = rw c.in-Begin.is c.begin.ensures.answers

pub returns-in-Delegate-clause-answers : goal.returns-in-Delegate-clause-answers
returns-in-Delegate-clause-answers g c = rw c.in-Delegate.is c.delegate.ensures.answers

pub returns-in-Write-clause-answers : goal.returns-in-Write-clause-answers
returns-in-Write-clause-answers g c = rw c.in-Write.is c.write.ensures.answers

pub returns-in-Get-clause-answers : goal.returns-in-Get-clause-answers
returns-in-Get-clause-answers g c = rw c.in-Get.is c.get.ensures.answers

pub returns-in-End-clause-answers : goal.returns-in-End-clause-answers
returns-in-End-clause-answers g c = rw c.in-End.is c.end.ensures.answers

pub returns-in-Total-clause-answers : goal.returns-in-Total-clause-answers
returns-in-Total-clause-answers g c = rw c.in-Total.is c.total.ensures.answers
