use Rattle.std.proofs.Common.{rules}
use Rattle.lane_ends.proofs.EndLemmas.{goes_on_takes_in}
use Rattle.lane_ends.proofs.posting.post.Goals as goal

pub returns-clause-takes : goal.returns-clause-takes
returns-clause-takes g c =
    search (
      rules,
      goes_on_takes_in g.C.LocalClass.local_meaning g.W.LaneWorker.home_of
          c.args.end.now c.hire.new.end c.send.new.end c.args.m c.in_ok-hire.ensures.goes_on,
    )
