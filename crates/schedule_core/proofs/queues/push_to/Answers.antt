use Rattle.std.proofs.Common.{◌<◌, refl, length, ap, ◌∙◌}
use Rattle.std.proofs.lemmas.Option.{slice_get_read}
use Rattle.interleavings.specs.Machines.{with_entry}
use Rattle.schedule_core.specs.Queues.{queued}
use Rattle.schedule_core.proofs.QueueLemmas.{set-entered}
use Rattle.schedule_core.proofs.queues.push_to.Goals as goal

pub returns-clause-entered : goal.returns-clause-entered
returns-clause-entered g c =
    let lanes = c.args.lanes.now in
    let old = c.index_mut.result.now in
    let within : c.from.result < length lanes.items = rw c.from.ensures c.requires in
    let here = slice_get_read lanes.items (length lanes.items) c.from.result old refl within
    c.index_mut.ensures.value in
    set-entered lanes.items c.from.result old _ c.args.entry here c.in_ok-push_back.ensures.items
    ∙ ap (λ n. with_entry n c.args.entry (queued lanes.items)) c.from.ensures
