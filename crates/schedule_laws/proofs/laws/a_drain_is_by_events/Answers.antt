use Rattle.schedule_laws.proofs.ReachedLemmas.{drain_is_by_events}
use Rattle.schedule_laws.proofs.laws.a_drain_is_by_events.Goals as goal

pub returns : goal.returns
returns g c = drain_is_by_events g.C.Class.meaning
