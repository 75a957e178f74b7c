use Rattle.lane_store.proofs.StoreLemmas.{continues_on}
use Rattle.lane_store.proofs.sends.share.Goals as goal

pub returns-clause-continues : goal.returns-clause-continues
returns-clause-continues g c =
    continues_on g.C.LocalClass.local_meaning g.W.LaneWorker.home_of c.args.store.now
    c.bring_object_home.new.store c.share_one.new.store
    c.in_ok-bring_object_home.ensures.continues c.in_ok-share_one.ensures.continues
