use Rattle.std.proofs.Common.{◌≡◌, None, ◌++◌, ◌∷◌, [], sym, subst, rules}
use Rattle.execution_definitions.specs.Shapes.{begin}
use Rattle.execution_definitions.specs.Refusals.{breaks}
use Rattle.partition_check.specs.Represents.{Represents}
use Rattle.partition_check.proofs.represents.RepresentsLemmas.{begin-represents}
use Rattle.partition_check.proofs.cells.CellsLemmas.{map-begin}
use Rattle.partition_check.proofs.marks.Marks.begin.Goals as goal

pub returns-clause-after : goal.returns-clause-after
returns-clause-after c =
    let clear = map-begin c.self.inside.epochs c.self.inside.is_open c.self.inside.cells.items
    c.self.invariant.stamped in
    rw (← c.self.view_is, clear) (search rules)

pub returns-clause-represents : goal.returns-clause-represents
returns-clause-represents c = λ calls r.
    let ok : breaks calls begin ≡ None = search rules in
    subst (λ v. Represents v (calls ++ begin ∷ [])) (sym (returns-clause-after c))
    (begin-represents _ calls r ok)
