use Rattle.std.proofs.Common.{sym, ap, ◌∙◌}
use Rattle.batch_rt.proofs.IdleLemmas.{idle_home, idle_sent, idle_total}
use Rattle.batch_rt.proofs.StoreLemmas.{values_out}
use Rattle.batch_rt.proofs.batch.BatchRuntime.do_finish.Goals as goal

pub into_values-requires : goal.into_values-requires
into_values-requires g c =
    let home = c.in_ok-bring_all_home.ensures in
    let new = c.bring_all_home.new.store in
    idle_home new.objects.items new.lanes.items home.continues.whole home.idle

pub returns : goal.returns
returns g c =
    let m = g.C.Class.meaning in
    let home = c.in_ok-bring_all_home.ensures in
    let on = home.continues in
    let new = c.bring_all_home.new.store in
    let kept = c.args.self.kept c.requires.usable in
    record {
      values = values_out m new.lanes.items new.objects.items c.in_ok-values.values.items
          (idle_home new.objects.items new.lanes.items on.whole home.idle) c.in_ok-values.ensures
          ∙ ap (λ state. state.values) on.state;
      total = sym (idle_total m new.total new.lanes.items home.idle)
          ∙ ap (λ state. state.total) on.state;
      logs = sym (idle_sent new.logs.items new.lanes.items home.idle
          (sym on.logs.count ∙ kept.log_count ∙ sym (on.lanes ∙ kept.lane_count)))
          ∙ on.sent;
    }
