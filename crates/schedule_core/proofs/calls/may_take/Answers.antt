use Rattle.std.proofs.Common.{sym, ◌∙◌}
use Rattle.schedule_core.specs.Queues.{queued}
use Rattle.schedule_core.specs.Stores.{entry_of}
use Rattle.schedule_core.proofs.StoreLemmas.{all_empty-map}
use Rattle.schedule_core.proofs.calls.may_take.Goals as goal

pub returns-in-End : goal.returns-in-End
returns-in-End g c = λ before is.
    rw c.in-End.is
    (c.all_idle.ensures ∙ sym (all_empty-map entry_of (queued c.args.store.now.lanes.items)))
