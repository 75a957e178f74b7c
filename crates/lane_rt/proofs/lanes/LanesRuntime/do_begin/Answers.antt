use Rattle.std.proofs.Common.{◌≡◌, ◌∙◌, false, length, refl, sym, ap}
use Rattle.std.proofs.lemmas.List.{length-map}
use Rattle.delegation.proofs.runs.FrontLemmas.{fronts_same}
use Rattle.lane_ends.specs.Workers.{home_given}
use Rattle.partition_check.specs.MarkedAfter.{cleared_mark}
use Rattle.lane_store.proofs.IdleLemmas.{idle_home}
use Rattle.partition_check.proofs.represents.JudgedLemmas.{closed_from}
use Rattle.lane_store.proofs.ComeLemmas.{comes_on_itself}
use Rattle.lane_rt.proofs.CallLemmas.{store_done}
use Rattle.lane_rt.proofs.EventLemmas.{begin_event}
use Rattle.lane_rt.proofs.PlacedLemmas.{placed_home}
use Rattle.lane_rt.proofs.lanes.LanesRuntime.do_begin.Goals as goal

pub invariant_of-self-2 : goal.invariant_of-self-2
invariant_of-self-2 g c =
    let store = c.self.inside.store in
    record {
      some_delegate = c.self.invariant.some_delegate;
      at_most_64 = c.self.invariant.at_most_64;
      kept = λ usable. let kept = c.self.invariant.kept usable in
          let idle = kept.idle (closed_from c.self.inside.marks.is_open _ _
          c.in_ok-begin.ensures.judged) in
          record {
            whole = kept.whole;
            marked = kept.marked ∙ sym (ap (λ marks. length marks.objects)
                c.in_ok-begin.ensures.after ∙ length-map c.self.inside.marks.objects cleared_mark);
            lane_count = kept.lane_count;
            log_count = kept.log_count;
            idle = λ closed. idle;
            placed = placed_home store.objects.items _ _ (idle_home g.C.Class.meaning home_given
                store.objects.items store.ends.items kept.whole.apart idle);
          };
    }

pub returns-clause-answered : goal.returns-clause-answered
returns-clause-answered g c =
    let usable : c.self.inside.has_failed ≡ false =
    ap (λ seen. seen.runtime.has_failed) c.self.view_is ∙ c.requires.usable in
    let kept = c.self.invariant.kept usable in
    let store = c.self.inside.store in
    let judged = c.in_ok-begin.ensures.judged in
    let idle = kept.idle (closed_from c.self.inside.marks.is_open _ _ judged) in
    rw (← c.self.view_is) (
      record {
        allowed = judged;
        delegates = refl;
        state = refl;
        marks = c.in_ok-begin.ensures.after;
        sent = refl;
        logs = fronts_same store.logs.items;
        done = store_done g.C.Class.meaning home_given store _ (kept.log_count ∙ sym kept.lane_count)
            (λ closed. idle);
        reclaimed = tt;
        was_usable = usable;
        usable = usable;
      },
      refl,
    )

pub returns-clause-moves : goal.returns-clause-moves
returns-clause-moves g c =
    let usable : c.self.inside.has_failed ≡ false =
    ap (λ seen. seen.runtime.has_failed) c.self.view_is ∙ c.requires.usable in
    let m = g.C.Class.meaning in
    let kept = c.self.invariant.kept usable in
    let store = c.self.inside.store in
    let idle = kept.idle (closed_from c.self.inside.marks.is_open _ _ c.in_ok-begin.ensures.judged) in
    rw (← c.self.view_is) (record {
      objects = tt;
      event = λ done before after. begin_event m store store c.self.inside.marks _
          c.self.inside.delegates c.self.inside.has_failed before usable kept
          (record {
            whole = kept.whole;
            marked = kept.marked ∙ sym (ap (λ marks. length marks.objects)
                c.in_ok-begin.ensures.after ∙ length-map c.self.inside.marks.objects cleared_mark);
            lane_count = kept.lane_count;
            log_count = kept.log_count;
            idle = λ closed. idle;
            placed = placed_home store.objects.items _ _ (idle_home m home_given store.objects.items
                store.ends.items kept.whole.apart idle);
          })
          (comes_on_itself m home_given store store refl refl refl refl);
    })
