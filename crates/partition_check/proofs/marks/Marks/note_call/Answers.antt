use Rattle.std.proofs.Common.{◌+◌, ◌++◌, ◌∷◌, [], sym, subst, ◌∙◌}
use Rattle.partition_check.specs.Marked.{Marked}
use Rattle.execution_definitions.specs.Meanings.{number_given}
use Rattle.partition_check.specs.Represents.{Represents}
use Rattle.partition_check.proofs.represents.NoteLemmas.{noted-represents}
use Rattle.partition_check.proofs.marks.Marks.note_call.Goals as goal

pub returns-clause-represents : goal.returns-clause-represents
returns-clause-represents c = λ calls call noted r ok.
    subst (λ (v : Marked). Represents (record v { calls = v.calls + 1 }) (calls ++ call ∷ []))
    (sym (c.self.view_is ∙ c.free.ensures))
    (noted-represents _ calls call r (number_given c.args.o) noted ok)
