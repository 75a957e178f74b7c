use Rattle.schedule_laws.proofs.RuleLemmas.{replays_are_computed}
use Rattle.schedule_laws.proofs.laws.every_replay_is_computed.Goals as goal

pub returns : goal.returns
returns g c = replays_are_computed g.C.Class.meaning
