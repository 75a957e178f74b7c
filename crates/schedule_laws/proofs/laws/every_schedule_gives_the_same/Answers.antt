use Rattle.schedule_laws.proofs.ReachedLemmas.{schedules_give_the_same}
use Rattle.schedule_laws.proofs.laws.every_schedule_gives_the_same.Goals as goal

pub returns : goal.returns
returns g c = schedules_give_the_same g.C.Class.meaning c.joins_in_any_order.ensures
