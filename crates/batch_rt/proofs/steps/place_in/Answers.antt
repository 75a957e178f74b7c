use Rattle.std.proofs.lemmas.Result.{on_ok_weaker}
use Rattle.batch_rt.proofs.ContinueLemmas.{continues_on}
use Rattle.batch_rt.proofs.steps.place_in.Goals as goal

pub returns-2-clause-continues : goal.returns-2-clause-continues
returns-2-clause-continues g c =
    on_ok_weaker c.send_to.result
    (λ on. continues_on g.C.LocalClass.local_meaning c.args.store.now
    c.bring_object_home.new.store c.send_to.new.store
    c.in_ok-bring_object_home.ensures.continues on)
    c.send_to.ensures.continues
