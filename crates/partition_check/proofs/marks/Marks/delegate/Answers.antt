use Rattle.std.proofs.Common.{◌++◌, ◌∷◌, [], sym, subst}
use Rattle.execution_definitions.specs.Shapes.{delegate}
use Rattle.execution_definitions.specs.Meanings.{number_given}
use Rattle.partition_check.specs.Represents.{Represents}
use Rattle.partition_check.proofs.marked.AcceptedLemmas.{delegable}
use Rattle.partition_check.proofs.represents.DelegateLemmas.{delegate-represents}
use Rattle.partition_check.proofs.marks.Marks.delegate.Goals as goal

pub mark_delegation-requires-clause-delegable : goal.mark_delegation-requires-clause-delegable
mark_delegation-requires-clause-delegable c =
    delegable c.args.self.now c.args.o.0 c.args.own (number_given c.args.reading)
    c.in_ok-set.ensures.judged

pub returns-clause-represents : goal.returns-clause-represents
returns-clause-represents c = λ calls r.
    let reading = number_given c.args.reading in
    subst (λ v. Represents v (calls ++ delegate c.args.o.0 c.args.own reading ∷ []))
    (sym (c.mark_delegation.ensures c.args.own c.in_ok-set.ensures.set_marked))
    (delegate-represents _ calls c.args.o.0 c.args.own reading r
    (c.in_ok-set.ensures.breaks calls r))
