use Rattle.lane_rt.proofs.ViewLemmas.{lanes_kept, state_shown}
use Rattle.lane_rt.proofs.lanes.Lanes.hold_together.Goals as goal

pub returns : goal.returns
returns g c =
    let lanes = c.self.inside in
    rw (← c.self.view_is)
    (record {
      kept = λ usable. lanes_kept g.C.Class.meaning lanes.store lanes.marks lanes.delegates
          lanes.has_failed (c.self.invariant.kept usable);
      shown = λ usable. state_shown g.C.Class.meaning lanes.store lanes.marks lanes.delegates
          lanes.has_failed (c.self.invariant.kept usable);
    })
