use Rattle.std.proofs.lemmas.Result.{on_ok_weaker}
use Rattle.delegation.proofs.runs.FrontLemmas.{fronts_trans}
use Rattle.batch_rt.proofs.steps.send.Goals as goal

pub returns-clause-logs : goal.returns-clause-logs
returns-clause-logs g c =
    on_ok_weaker c.push_entry.result
    (λ state. rw c.push_entry.ensures.logs (fronts_trans c.args.store.now.logs.items
    c.share.new.store.logs.items c.place_in.new.store.logs.items
    c.in_ok-reading.ensures.continues.logs c.in_ok-place.ensures.continues.logs))
    c.push_entry.ensures.state
