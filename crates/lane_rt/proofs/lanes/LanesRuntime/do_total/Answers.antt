use Rattle.std.proofs.Common.{◌≡◌, ◌∙◌, Some, None, false, refl, sym, ap}
use Rattle.execution_definitions.specs.declared.call.Reply.TheVariants as reply
use Rattle.delegation.proofs.plains.PlainLemmas.{length-noted}
use Rattle.delegation.proofs.runs.FrontLemmas.{fronts_same}
use Rattle.lane_ends.specs.Workers.{home_given}
use Rattle.lane_store.proofs.IdleLemmas.{idle_total}
use Rattle.partition_check.proofs.represents.JudgedLemmas.{closed_from}
use Rattle.lane_store.proofs.ComeLemmas.{comes_on_itself}
use Rattle.lane_rt.proofs.CallLemmas.{store_done}
use Rattle.lane_rt.proofs.EventLemmas.{total_event}
use Rattle.lane_rt.proofs.PlacedLemmas.{placed_on}
use Rattle.lane_rt.proofs.lanes.LanesRuntime.do_total.Goals as goal

pub invariant_of-self-2 : goal.invariant_of-self-2
invariant_of-self-2 g c =
    let noted = c.note_call.ensures.after in
    record {
      some_delegate = c.self.invariant.some_delegate;
      at_most_64 = c.self.invariant.at_most_64;
      kept = λ usable. let kept = c.self.invariant.kept usable in record {
        whole = kept.whole;
        marked = kept.marked ∙ sym (length-noted _ _ None noted);
        lane_count = kept.lane_count;
        log_count = kept.log_count;
        idle = λ closed. kept.idle (sym (ap (λ marks. marks.is_open) noted) ∙ closed);
        placed = placed_on c.self.inside.store.objects.items c.self.inside.store.objects.items
            c.self.inside.marks c.note_call.new.self c.self.inside.delegates
            (λ n k number is. is) (ap (λ marks. marks.objects) noted) kept.placed;
      };
    }

pub returns : goal.returns
returns g c =
    let usable : c.self.inside.has_failed ≡ false =
    ap (λ seen. seen.runtime.has_failed) c.self.view_is ∙ c.requires.usable in
    let kept = c.self.invariant.kept usable in
    let store = c.self.inside.store in
    let m = g.C.Class.meaning in
    let judged = c.in_ok-check_total.ensures.judged in
    let idle = kept.idle (closed_from c.self.inside.marks.is_open _ _ judged) in
    let total = sym (idle_total m home_given store.total store.ends.items kept.whole.made idle) in
    rw (← c.self.view_is) (
      (
        refl,
        (λ w. tt),
        (
          (
            record {
              allowed = judged;
              delegates = refl;
              state = refl;
              marks = c.note_call.ensures.after;
              sent = refl;
              logs = fronts_same store.logs.items;
              done = store_done m home_given store _ (kept.log_count ∙ sym kept.lane_count)
                  (λ closed. idle);
              reclaimed = tt;
              was_usable = usable;
              usable = usable;
            },
            ap (λ total. Some (reply.Total total)) total,
          ),
          record {
            objects = tt;
            event = λ done before after. total_event m store store c.self.inside.marks
                c.note_call.new.self c.self.inside.delegates c.self.inside.has_failed before usable kept
                (record {
                  whole = kept.whole;
                  marked = kept.marked ∙ sym (length-noted _ _ None c.note_call.ensures.after);
                  lane_count = kept.lane_count;
                  log_count = kept.log_count;
                  idle = λ closed. idle;
                  placed = placed_on store.objects.items store.objects.items c.self.inside.marks
                      c.note_call.new.self c.self.inside.delegates (λ n k number is. is)
                      (ap (λ marks. marks.objects) c.note_call.ensures.after) kept.placed;
                })
                (comes_on_itself m home_given store store refl refl refl refl);
          },
        ),
      ),
      record { after = tt; total = total },
    )
