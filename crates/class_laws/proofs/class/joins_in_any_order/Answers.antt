use Rattle.class_laws.proofs.JoinLemmas.{any_order}
use Rattle.class_laws.proofs.class.joins_in_any_order.Goals as goal

pub returns : goal.returns
returns g c =
    any_order g.C.Red.Reducible.unit_value g.C.Red.Reducible.join_of g.C.Class.meaning.join
    c.joins_as_its_reducible.ensures c.reducible_laws.ensures
