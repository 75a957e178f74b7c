use Rattle.std.proofs.Common.{subst, refl}
use Rattle.partition_check.specs.Answers.{Answers}
use Rattle.partition_check.proofs.represents.JudgedLemmas.{judged_write-represents}
use Rattle.partition_check.proofs.marked.AcceptedLemmas.{write_known, known_when_ok}
use Rattle.partition_check.proofs.marks.Marks.check_write.Goals as goal

pub returns-clause-breaks : goal.returns-clause-breaks
returns-clause-breaks c = λ calls r.
    subst (λ cause. Answers c.judge_write.result cause)
    (judged_write-represents _ calls r _ _ refl) c.judge_write.ensures

pub returns-clause-known : goal.returns-clause-known
returns-clause-known c =
    known_when_ok c.judge_write.result _ _ c.judge_write.ensures
    (write_known c.args.self.now c.args.o.0)
