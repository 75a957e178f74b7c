use Rattle.lane_core.proofs.EventLemmas.{cuts_go_on}
use Rattle.lane_core.proofs.laws.cut_event.Goals as goal

pub returns : goal.returns
returns g c = λ view kept. cuts_go_on g.C.Class.meaning c.joins_are_lawful.ensures view kept
