use Rattle.lane_rt.proofs.RunningLemmas.{failed_moves}
use Rattle.lane_rt.proofs.lanes.LanesRuntime.has_failed.Goals as goal

pub returns-clause-moves : goal.returns-clause-moves
returns-clause-moves g c =
    rw (← c.self.view_is) (λ failed made. failed_moves g.C.Class.meaning _ made failed)
