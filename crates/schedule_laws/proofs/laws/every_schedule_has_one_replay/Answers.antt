use Rattle.schedule_laws.proofs.RuleLemmas.{replays_are_one}
use Rattle.schedule_laws.proofs.laws.every_schedule_has_one_replay.Goals as goal

pub returns : goal.returns
returns g c = replays_are_one g.C.Class.meaning
