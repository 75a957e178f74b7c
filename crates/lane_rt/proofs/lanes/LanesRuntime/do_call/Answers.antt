use Rattle.std.proofs.Common.{◌≡◌, ◌∙◌, Some, None, false, refl, sym, ap, subst, length}
use Rattle.std.specs.Prelude.{is_some}
use Rattle.execution_definitions.specs.Sequential.{operated}
use Rattle.delegation.proofs.plains.PlainLemmas.{length-noted}
use Rattle.lane_ends.specs.LaneEnds.{IsIdle}
use Rattle.lane_ends.specs.Workers.{home_given}
use Rattle.lane_store.specs.LaneStores.{Each}
use Rattle.lane_rt.specs.Seen.{seen_of}
use Rattle.lane_rt.proofs.CallLemmas.{store_done, caught_up}
use Rattle.lane_store.proofs.IdleLemmas.{still_home}
use Rattle.lane_rt.proofs.PlacedLemmas.{placed_on, placed_freed}
use Rattle.lane_rt.proofs.RunningLemmas.{out_is}
use Rattle.lane_rt.proofs.EventLemmas.{called_event}
use Rattle.lane_rt.proofs.lanes.LanesRuntime.do_call.Goals as goal

pub reclaim-requires-clause-idle : goal.reclaim-requires-clause-idle
reclaim-requires-clause-idle g c =
    let usable : c.self.inside.has_failed ≡ false =
    ap (λ seen. seen.runtime.has_failed) c.self.view_is ∙ c.requires.usable in
    (c.self.invariant.kept usable).idle

pub invariant_of-self-2 : goal.invariant_of-self-2
invariant_of-self-2 g c =
    let on = c.in-Ok.ensures.continues in
    let ran = c.in-Ok-operate.ensures in
    record {
      some_delegate = c.self.invariant.some_delegate;
      at_most_64 = c.self.invariant.at_most_64;
      kept = λ usable. let kept = c.self.invariant.kept usable in record {
        whole = ran.whole;
        marked = ran.objects ∙ on.objects ∙ kept.marked
            ∙ sym (length-noted _ _ (Some c.args.o.0) c.note_call.ensures.after);
        lane_count = ap length ran.lanes ∙ on.lanes ∙ kept.lane_count;
        log_count = ap length ran.logs ∙ sym on.logs.count ∙ kept.log_count;
        idle = λ closed. subst (Each (IsIdle g.C.Class.meaning home_given)) (sym ran.lanes)
            (c.in-Ok.ensures.idle
            (sym (ap (λ marks. marks.is_open) c.note_call.ensures.after) ∙ closed));
        placed = placed_freed c.self.inside.store.objects.items c.operate.new.store.objects.items
            c.self.inside.marks c.note_call.new.self c.self.inside.delegates c.args.o.0
            (λ n k number is. on.found n k number (ran.found n k number is))
            c.note_call.ensures.after
            (still_home c.reclaim.new.store.objects.items c.operate.new.store.objects.items
            c.args.o.0 _ ran.found c.in-Ok.ensures.home refl)
            kept.placed;
      };
    }

pub returns-clause-moves : goal.returns-clause-moves
returns-clause-moves g c =
    let usable : c.self.inside.has_failed ≡ false =
    ap (λ seen. seen.runtime.has_failed) c.self.view_is ∙ c.requires.usable in
    let m = g.C.Class.meaning in
    let kept = c.self.invariant.kept usable in
    let on = c.in-Ok.ensures.continues in
    let ran = c.in-Ok-operate.ensures in
    let store = c.self.inside.store in
    let mid = c.reclaim.new.store in
    let new = c.operate.new.store in
    let home = still_home mid.objects.items new.objects.items c.args.o.0 _ ran.found
    c.in-Ok.ensures.home refl in
    rw (← c.self.view_is) (record {
      objects = λ done. out_is new.objects.items c.args.o.0 ∙ ap (λ found. is_some found) home;
      event = λ done before after. called_event m store new c.self.inside.marks c.note_call.new.self
          c.self.inside.delegates c.self.inside.has_failed before usable kept
          (record {
            whole = ran.whole;
            marked = ran.objects ∙ on.objects ∙ kept.marked
                ∙ sym (length-noted _ _ (Some c.args.o.0) c.note_call.ensures.after);
            lane_count = ap length ran.lanes ∙ on.lanes ∙ kept.lane_count;
            log_count = ap length ran.logs ∙ sym on.logs.count ∙ kept.log_count;
            idle = λ closed. subst (Each (IsIdle m home_given)) (sym ran.lanes)
                (c.in-Ok.ensures.idle
                (sym (ap (λ marks. marks.is_open) c.note_call.ensures.after) ∙ closed));
            placed = placed_freed store.objects.items new.objects.items c.self.inside.marks
                c.note_call.new.self c.self.inside.delegates c.args.o.0
                (λ n k number is. on.found n k number (ran.found n k number is))
                c.note_call.ensures.after home kept.placed;
          })
          ran.lawful mid
          (record {
            whole = on.whole;
            marked = on.objects ∙ kept.marked;
            lane_count = on.lanes ∙ kept.lane_count;
            log_count = sym on.logs.count ∙ kept.log_count;
            idle = c.in-Ok.ensures.idle;
            placed = placed_on store.objects.items mid.objects.items c.self.inside.marks
                c.self.inside.marks c.self.inside.delegates on.found refl kept.placed;
          })
          c.args.o c.args.op on.comes_on ran.effect ran.lanes ran.logs after.marks
          c.in-Ok.ensures.idle_for;
    })

pub returns-clause-answered : goal.returns-clause-answered
returns-clause-answered g c =
    let usable : c.self.inside.has_failed ≡ false =
    ap (λ seen. seen.runtime.has_failed) c.self.view_is ∙ c.requires.usable in
    let kept = c.self.invariant.kept usable in
    let on = c.in-Ok.ensures.continues in
    let ran = c.in-Ok-operate.ensures in
    let m = g.C.Class.meaning in
    let count = ap length ran.logs ∙ sym on.logs.count ∙ kept.log_count
    ∙ sym (ap length ran.lanes ∙ on.lanes ∙ kept.lane_count) in
    rw (← c.self.view_is) (
      record {
        allowed = c.in_ok-check_write.ensures.judged;
        delegates = refl;
        state = ran.state ∙ ap (λ s. operated m s c.args.o.0 c.args.op None) on.state;
        marks = c.note_call.ensures.after;
        sent = rw (ran.logs, ran.lanes) on.sent;
        logs = rw ran.logs on.logs;
        done = store_done m home_given c.operate.new.store _ count
            (λ closed. subst (Each (IsIdle m home_given)) (sym ran.lanes) (c.in-Ok.ensures.idle
            (sym (ap (λ marks. marks.is_open) c.note_call.ensures.after) ∙ closed)));
        reclaimed = caught_up m home_given c.reclaim.new.store c.self.inside.delegates _
            (seen_of m c.operate.new.store c.note_call.new.self c.self.inside.delegates
            c.self.inside.has_failed)
            refl ran.logs (rw (ran.logs, ran.lanes) refl) c.in-Ok.ensures.caught_up;
        was_usable = usable;
        usable = usable;
      },
      refl,
    )
