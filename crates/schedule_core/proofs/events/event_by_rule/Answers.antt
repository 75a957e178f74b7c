use Rattle.std.proofs.Common.{sym, ap, ◌∙◌}
use Rattle.std.specs.Option.{option_map}
use Rattle.ss_base.specs.declared.ids.Event.TheVariants as event
use Rattle.schedule_core.specs.Queues.{queued}
use Rattle.schedule_core.specs.Stores.{entry_of}
use Rattle.schedule_core.specs.Kept.{program_of, machine_of}
use Rattle.schedule_core.proofs.StoreLemmas.{least_busy-map}
use Rattle.schedule_core.proofs.EventLemmas.{rule_lane}
use Rattle.schedule_core.proofs.events.event_by_rule.Goals as goal

pub returns-in-None : goal.returns-in-None
returns-in-None g c =
    let m = g.C.LocalClass.local_meaning in
    let parts = c.args.parts.now in
    ap (option_map event.Delegate) (sym c.in-None.is)
    ∙ rule_lane m (program_of parts) (machine_of parts) c.least_busy.result
    (sym c.may_take_next.ensures ∙ c.if-may_take_next.false)
    (c.least_busy.ensures ∙ sym (least_busy-map entry_of (queued parts.store.lanes.items)))

pub returns-in-Some : goal.returns-in-Some
returns-in-Some g c =
    let m = g.C.LocalClass.local_meaning in
    let parts = c.args.parts.now in
    ap (option_map event.Delegate) (sym c.in-Some.is)
    ∙ rule_lane m (program_of parts) (machine_of parts) c.least_busy.result
    (sym c.may_take_next.ensures ∙ c.if-may_take_next.false)
    (c.least_busy.ensures ∙ sym (least_busy-map entry_of (queued parts.store.lanes.items)))
