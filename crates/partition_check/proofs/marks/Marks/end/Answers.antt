use Rattle.std.proofs.Common.{◌≡◌, None, ◌++◌, ◌∷◌, [], sym, subst, rules}
use Rattle.execution_definitions.specs.Shapes.{end}
use Rattle.execution_definitions.specs.Refusals.{breaks}
use Rattle.partition_check.specs.Represents.{Represents}
use Rattle.partition_check.proofs.represents.RepresentsLemmas.{end-represents}
use Rattle.partition_check.proofs.cells.CellsLemmas.{map-end}
use Rattle.partition_check.proofs.marks.Marks.end.Goals as goal

pub returns-clause-after : goal.returns-clause-after
returns-clause-after c =
    let clear = map-end c.self.inside.epochs c.self.inside.is_open c.self.inside.cells.items in
    rw (← c.self.view_is, clear) (search rules)

pub returns-clause-represents : goal.returns-clause-represents
returns-clause-represents c = λ calls r.
    let ok : breaks calls end ≡ None = search rules in
    subst (λ v. Represents v (calls ++ end ∷ [])) (sym (returns-clause-after c))
    (end-represents _ calls r ok)
