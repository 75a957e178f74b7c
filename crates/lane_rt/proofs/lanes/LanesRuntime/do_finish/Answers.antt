use Rattle.std.proofs.Common.{◌≡◌, ◌∙◌, false, sym, ap}
use Rattle.lane_ends.specs.Workers.{home_given}
use Rattle.lane_objects.proofs.OutcomeLemmas.{values_out}
use Rattle.lane_store.specs.LaneStores.{stores_of}
use Rattle.lane_store.proofs.IdleLemmas.{idle_home, idle_sent, idle_total}
use Rattle.lane_rt.proofs.lanes.LanesRuntime.do_finish.Goals as goal

pub bring_all_home-requires-clause-logged : goal.bring_all_home-requires-clause-logged
bring_all_home-requires-clause-logged g c =
    let usable : c.self.inside.has_failed ≡ false =
    ap (λ seen. seen.runtime.has_failed) c.self.view_is ∙ c.requires.usable in
    let kept = c.self.invariant.kept usable in
    kept.log_count ∙ sym kept.lane_count

pub into_values-requires : goal.into_values-requires
into_values-requires g c =
    let home = c.in-Ok.ensures in
    let new = c.bring_all_home.new.store in
    idle_home g.C.Class.meaning home_given new.objects.items new.ends.items
    home.continues.whole.apart home.idle

pub returns-clause-values : goal.returns-clause-values
returns-clause-values g c =
    let m = g.C.Class.meaning in
    let home = c.in-Ok.ensures in
    let on = home.continues in
    let new = c.bring_all_home.new.store in
    rw (← c.self.view_is)
    (values_out (stores_of m home_given new.ends.items) new.objects.items
    c.in_ok-values.values.items
    (idle_home m home_given new.objects.items new.ends.items on.whole.apart home.idle)
    c.in_ok-values.ensures
    ∙ ap (λ state. state.values) on.state)

pub returns-clause-total : goal.returns-clause-total
returns-clause-total g c =
    let m = g.C.Class.meaning in
    let home = c.in-Ok.ensures in
    let on = home.continues in
    let new = c.bring_all_home.new.store in
    rw (← c.self.view_is)
    (sym (idle_total m home_given new.total new.ends.items on.whole.made home.idle)
    ∙ ap (λ state. state.total) on.state)

pub returns-clause-logs : goal.returns-clause-logs
returns-clause-logs g c =
    let usable : c.self.inside.has_failed ≡ false =
    ap (λ seen. seen.runtime.has_failed) c.self.view_is ∙ c.requires.usable in
    let kept = c.self.invariant.kept usable in
    let m = g.C.Class.meaning in
    let home = c.in-Ok.ensures in
    let on = home.continues in
    let new = c.bring_all_home.new.store in
    rw (← c.self.view_is)
    (sym (idle_sent m home_given new.logs.items new.ends.items home.idle
    (sym on.logs.count ∙ kept.log_count ∙ sym (on.lanes ∙ kept.lane_count)))
    ∙ on.sent)
