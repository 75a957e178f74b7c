use Rattle.std.proofs.Common.{◌≡◌, ◌∙◌, false, length, refl, sym, ap}
use Rattle.std.proofs.lemmas.List.{length-map}
use Rattle.std.specs.Prelude.{is_some}
use Rattle.lane_ends.specs.Workers.{home_given}
use Rattle.partition_check.specs.MarkedAfter.{cleared_mark}
use Rattle.lane_store.proofs.IdleLemmas.{idle_home}
use Rattle.lane_rt.proofs.CallLemmas.{store_done}
use Rattle.lane_rt.proofs.PlacedLemmas.{placed_home}
use Rattle.lane_rt.proofs.RunningLemmas.{out_is}
use Rattle.lane_rt.proofs.EventLemmas.{end_event}
use Rattle.lane_rt.proofs.lanes.LanesRuntime.do_end.Goals as goal

pub invariant_of-self-in-Ok : goal.invariant_of-self-in-Ok
invariant_of-self-in-Ok g c =
    let on = c.in-Ok.ensures.continues in
    let new = c.bring_all_home.new.store in
    record {
      some_delegate = c.self.invariant.some_delegate;
      at_most_64 = c.self.invariant.at_most_64;
      kept = λ usable. let kept = c.self.invariant.kept usable in record {
        whole = on.whole;
        marked = on.objects ∙ kept.marked ∙ sym (ap (λ marks. length marks.objects)
            c.in_ok-end.ensures.after ∙ length-map c.self.inside.marks.objects cleared_mark);
        lane_count = on.lanes ∙ kept.lane_count;
        log_count = sym on.logs.count ∙ kept.log_count;
        idle = λ closed. c.in-Ok.ensures.idle;
        placed = placed_home new.objects.items _ _ (idle_home g.C.Class.meaning home_given
            new.objects.items new.ends.items on.whole.apart c.in-Ok.ensures.idle);
      };
    }

pub returns-clause-moves : goal.returns-clause-moves
returns-clause-moves g c =
    let usable : c.self.inside.has_failed ≡ false =
    ap (λ seen. seen.runtime.has_failed) c.self.view_is ∙ c.requires.usable in
    let m = g.C.Class.meaning in
    let kept = c.self.invariant.kept usable in
    let on = c.in-Ok.ensures.continues in
    let idle = c.in-Ok.ensures.idle in
    let new = c.bring_all_home.new.store in
    let home = idle_home m home_given new.objects.items new.ends.items on.whole.apart idle in
    rw (← c.self.view_is) (record {
      objects = λ done object. out_is new.objects.items object
          ∙ ap (λ found. is_some found) (home object);
      event = λ done before after. end_event m c.self.inside.store new c.self.inside.marks _
          c.self.inside.delegates c.self.inside.has_failed before usable kept
          (record {
            whole = on.whole;
            marked = on.objects ∙ kept.marked ∙ sym (ap (λ marks. length marks.objects)
                c.in_ok-end.ensures.after ∙ length-map c.self.inside.marks.objects cleared_mark);
            lane_count = on.lanes ∙ kept.lane_count;
            log_count = sym on.logs.count ∙ kept.log_count;
            idle = λ closed. idle;
            placed = placed_home new.objects.items _ _ home;
          })
          on.comes_on idle;
    })

pub returns-clause-answered : goal.returns-clause-answered
returns-clause-answered g c =
    let usable : c.self.inside.has_failed ≡ false =
    ap (λ seen. seen.runtime.has_failed) c.self.view_is ∙ c.requires.usable in
    let kept = c.self.invariant.kept usable in
    let on = c.in-Ok.ensures.continues in
    let count = sym on.logs.count ∙ kept.log_count ∙ sym (on.lanes ∙ kept.lane_count) in
    rw (← c.self.view_is) (
      record {
        allowed = c.in_ok-end.ensures.judged;
        delegates = refl;
        state = on.state;
        marks = c.in_ok-end.ensures.after;
        sent = on.sent;
        logs = on.logs;
        done = store_done g.C.Class.meaning home_given c.bring_all_home.new.store _ count
            (λ closed. c.in-Ok.ensures.idle);
        reclaimed = tt;
        was_usable = usable;
        usable = usable;
      },
      refl,
    )
