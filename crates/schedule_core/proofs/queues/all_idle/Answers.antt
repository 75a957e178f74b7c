use Rattle.schedule_core.specs.Queues.{queued}
use Rattle.schedule_core.proofs.QueueLemmas.{none_busy}
use Rattle.schedule_core.proofs.queues.all_idle.Goals as goal

pub returns : goal.returns
returns g c =
    none_busy c.least_busy.result (queued c.args.lanes.now.items) c.is_none.result
    c.is_none.ensures c.least_busy.ensures
