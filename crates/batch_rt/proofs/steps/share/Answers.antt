use Rattle.batch_rt.proofs.ContinueLemmas.{continues_on}
use Rattle.batch_rt.proofs.steps.share.Goals as goal

pub returns-clause-continues : goal.returns-clause-continues
returns-clause-continues g c =
    continues_on g.C.LocalClass.local_meaning c.args.store.now c.bring_object_home.new.store
    c.share_one.new.store c.in_ok-bring_object_home.ensures.continues
    c.in_ok-share_one.ensures.continues
