use Rattle.schedule_laws.proofs.ReachedLemmas.{replays_give_the_same}
use Rattle.schedule_laws.proofs.laws.every_replay_gives_the_same.Goals as goal

pub returns : goal.returns
returns g c = replays_give_the_same g.C.Class.meaning c.joins_in_any_order.ensures
