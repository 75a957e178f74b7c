use Rattle.std.proofs.Common.{sym}
use Rattle.legal_merges.proofs.step.step_of.Goals as goal

pub returns-in_ok-delegate_step-in-Delegate-clause-rule :
    goal.returns-in_ok-delegate_step-in-Delegate-clause-rule
returns-in_ok-delegate_step-in-Delegate-clause-rule g c = λ calls represents.
    rw (c.in-Delegate.is, sym c.own_set.ensures)
    (c.in_ok-delegate_step-in-Delegate.ensures.rule calls represents)

pub returns-in_ok-write_step-in-Write-clause-rule :
    goal.returns-in_ok-write_step-in-Write-clause-rule
returns-in_ok-write_step-in-Write-clause-rule g c = λ calls represents.
    rw c.in-Write.is (c.in_ok-write_step-in-Write.ensures.rule calls represents)
