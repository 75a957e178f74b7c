use Rattle.lane_core.specs.Cuts.{least_cut}
use Rattle.lane_core.proofs.DrainLemmas.{least-is_cut, cuts_drain_alike}
use Rattle.lane_core.proofs.laws.cut_drain.Goals as goal

pub returns : goal.returns
returns g c =
    let alike = cuts_drain_alike g.C.Class.meaning c.joins_are_lawful.ensures in
    record {
      same = λ view kept. alike view kept;
      least = λ view. least-is_cut view.lanes;
      logical = λ view kept cut is.
          alike view kept cut (least_cut view.lanes) is (least-is_cut view.lanes);
    }
