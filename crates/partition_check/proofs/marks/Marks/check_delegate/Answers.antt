use Rattle.std.proofs.Common.{subst, refl, ◌∙◌}
use Rattle.std.proofs.lemmas.Result.{IfOk-weaker}
use Rattle.partition_check.specs.Answers.{Answers}
use Rattle.partition_check.proofs.represents.JudgedLemmas.{judged_delegate-represents, set_marked-represents}
use Rattle.partition_check.proofs.marks.Marks.check_delegate.Goals as goal

pub returns-clause-breaks : goal.returns-clause-breaks
returns-clause-breaks c = λ calls r.
    subst (λ cause. Answers c.judge_delegate.result cause)
    (judged_delegate-represents _ calls r _ _ _ _ refl)
    c.judge_delegate.ensures.judged

pub returns-clause-set : goal.returns-clause-set
returns-clause-set c =
    IfOk-weaker c.judge_delegate.result _ _
    (λ set is calls r. is ∙ set_marked-represents _ calls r _ _ _ refl)
    c.judge_delegate.ensures.set
