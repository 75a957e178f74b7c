use Rattle.std.proofs.Common.{sym, subst}
use Rattle.class_laws.specs.Laws.{ReducibleLaws}
use Rattle.lane_core.proofs.laws.joins_are_lawful.Goals as goal

pub returns : goal.returns
returns g c =
    subst (λ unit. ReducibleLaws unit g.C.Class.meaning.join)
    (sym c.contributes_as_its_reducible.ensures.unit)
    (subst (λ join. ReducibleLaws g.C.Red.Reducible.unit_value join)
    (sym c.contributes_as_its_reducible.ensures.join) c.reducible_laws.ensures)
