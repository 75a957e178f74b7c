use Rattle.std.proofs.Common.{refl, ◌++◌, ◌∷◌, [], sym, subst, ◌∙◌}
use Rattle.execution_definitions.specs.Shapes.{delegate}
use Rattle.execution_definitions.specs.Meanings.{number_given}
use Rattle.partition_check.specs.Represents.{Represents}
use Rattle.partition_check.proofs.represents.JudgedLemmas.{judged_delegate-represents}
use Rattle.partition_check.proofs.marked.AcceptedLemmas.{delegable}
use Rattle.partition_check.proofs.represents.DelegateLemmas.{delegate-represents}
use Rattle.partition_check.proofs.marks.Marks.note_delegate.Goals as goal

pub mark_delegation-requires : goal.mark_delegation-requires
mark_delegation-requires c = record {
  delegable = delegable c.args.self.now c.args.o.0 c.args.own (number_given c.args.reading)
      c.requires;
  set = (c.args.own, c.set_for-set.ensures);
}

pub returns-clause-represents : goal.returns-clause-represents
returns-clause-represents c = λ calls r.
    let reading = number_given c.args.reading in
    let judged_none = sym (judged_delegate-represents _ calls r c.args.o.0 c.args.own reading _
    refl) ∙ c.requires in
    subst (λ v. Represents v (calls ++ delegate c.args.o.0 c.args.own reading ∷ []))
    (sym (c.mark_delegation.ensures c.args.own c.set_for-set.ensures))
    (delegate-represents _ calls c.args.o.0 c.args.own reading r judged_none)
