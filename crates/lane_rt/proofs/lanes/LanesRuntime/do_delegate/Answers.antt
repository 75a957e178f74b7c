use Rattle.std.proofs.Common.{◌≡◌, ◌∙◌, false, rules, refl, sym, ap}
use Rattle.std.proofs.lemmas.Bool.{false≢true}
use Rattle.std.specs.Prelude.{is_some}
use Rattle.execution_definitions.specs.Meanings.{shapes_of, number_given}
use Rattle.partition_check.specs.Marked.{mark_at, set_marked}
use Rattle.partition_check.proofs.marked.AcceptedLemmas.{delegable}
use Rattle.delegation.proofs.plains.PlainLemmas.{length-delegated}
use Rattle.lane_ends.specs.Workers.{home_given}
use Rattle.lane_rt.proofs.CallLemmas.{store_done}
use Rattle.lane_rt.proofs.PlacedLemmas.{placed_sent}
use Rattle.lane_rt.proofs.RunningLemmas.{out_is, away_sent}
use Rattle.lane_rt.proofs.EventLemmas.{run_is, same_run, sent_event}
use Rattle.lane_rt.proofs.lanes.LanesRuntime.do_delegate.Goals as goal

pub invariant_of-self-2 : goal.invariant_of-self-2
invariant_of-self-2 g c =
    let sent = c.in-Ok.ensures.sends in
    let may = delegable c.self.inside.marks c.args.o.0 c.own_set.result
    (number_given c.args.reading) c.in_ok-set.ensures.judged in
    record {
      some_delegate = c.self.invariant.some_delegate;
      at_most_64 = c.self.invariant.at_most_64;
      kept = λ usable. let kept = c.self.invariant.kept usable in record {
        whole = sent.whole;
        marked = sent.objects ∙ kept.marked
            ∙ sym (length-delegated _ _ c.args.o.0 _ _ c.in_ok-set.ensures.after);
        lane_count = sent.lanes ∙ kept.lane_count;
        log_count = sym sent.logs.count ∙ kept.log_count;
        idle = λ closed. absurd (false≢true
            (sym closed ∙ ap (λ marks. marks.is_open) c.in_ok-set.ensures.after ∙ may.isolating));
        placed = placed_sent c.self.inside.store.objects.items c.delegate-2.new.store.objects.items
            c.self.inside.marks _ c.self.inside.delegates c.args.o.0 c.own_set.result _
            (number_given c.args.reading) c.in_ok-set.set c.in_ok-set.ensures.after may.known
            c.in_ok-set.ensures.set_marked (c.from-lane.ensures ∙ c.lane_of.ensures) sent.there
            sent.others kept.placed;
      };
    }

pub returns-in_default-clause-moves : goal.returns-in_default-clause-moves
returns-in_default-clause-moves g c =
    let usable : c.self.inside.has_failed ≡ false =
    ap (λ seen. seen.runtime.has_failed) c.self.view_is ∙ c.requires.usable in
    let there = away_sent g.C.Class.meaning c.self.inside.store c.self.inside.marks
    c.self.inside.delegates c.args.o.0 c.own_set.result _ (number_given c.args.reading)
    c.in_ok-set.set (c.self.invariant.kept usable) c.in_ok-set.ensures.judged
    c.in_ok-set.ensures.set_marked (c.from-lane.ensures ∙ c.lane_of.ensures) in
    rw (← c.self.view_is) (record {
      objects = record {
        out = λ done. absurd cc;
        succeeds = λ none away is. let sent = there away in
            absurd (false≢true (c.in_default.ensures.succeeds none sent.0 sent.1));
      };
      event = λ done. absurd cc;
    })

pub returns-clause-moves : goal.returns-clause-moves
returns-clause-moves g c =
    let usable : c.self.inside.has_failed ≡ false =
    ap (λ seen. seen.runtime.has_failed) c.self.view_is ∙ c.requires.usable in
    let m = g.C.Class.meaning in
    let kept = c.self.invariant.kept usable in
    let sent = c.in-Ok.ensures.sends in
    let new = c.delegate-2.new.store in
    let marks = c.self.inside.marks in
    let may = delegable marks c.args.o.0 c.own_set.result (number_given c.args.reading)
    c.in_ok-set.ensures.judged in
    rw (← c.self.view_is) (record {
      objects = record {
        out = λ done. out_is new.objects.items c.args.o.0 ∙ ap (λ found. is_some found) sent.there;
        succeeds = λ none away is. absurd cc;
      };
      event = λ done before after. sent_event m c.self.inside.store new marks _
          c.self.inside.delegates c.self.inside.has_failed before usable kept
          (record {
            whole = sent.whole;
            marked = sent.objects ∙ kept.marked
                ∙ sym (length-delegated _ _ c.args.o.0 _ _ c.in_ok-set.ensures.after);
            lane_count = sent.lanes ∙ kept.lane_count;
            log_count = sym sent.logs.count ∙ kept.log_count;
            idle = λ closed. absurd (false≢true
                (sym closed ∙ ap (λ marks. marks.is_open) c.in_ok-set.ensures.after ∙ may.isolating));
            placed = placed_sent c.self.inside.store.objects.items new.objects.items marks _
                c.self.inside.delegates c.args.o.0 c.own_set.result _
                (number_given c.args.reading) c.in_ok-set.set c.in_ok-set.ensures.after may.known
                c.in_ok-set.ensures.set_marked (c.from-lane.ensures ∙ c.lane_of.ensures) sent.there
                sent.others kept.placed;
          })
          _ _ c.args.o c.args.op c.args.reading _ sent.enters
          (run_is marks (shapes_of m before) after.marks c.args.o.0 (m.own c.args.op)
          (number_given c.args.reading)
          ∙ same_run marks.calls c.calls.result marks.epochs c.epoch-epoch.result
          (set_marked (mark_at marks c.args.o.0) c.args.o.0 (m.own c.args.op)) c.in_ok-set.set.0
          c.args.o c.calls.ensures c.epoch-epoch.ensures
          (c.in_ok-set.ensures.set_marked
          ∙ ap (set_marked (mark_at marks c.args.o.0) c.args.o.0) c.own_set.ensures))
          (c.from-lane.ensures ∙ c.lane_of.ensures) may.read_other c.in-Ok.ensures.reads;
    })

pub returns-clause-answered : goal.returns-clause-answered
returns-clause-answered g c =
    let usable : c.self.inside.has_failed ≡ false =
    ap (λ seen. seen.runtime.has_failed) c.self.view_is ∙ c.requires.usable in
    let kept = c.self.invariant.kept usable in
    let sent = c.in-Ok.ensures.sends in
    let opened = (delegable c.self.inside.marks c.args.o.0 c.own_set.result
    (number_given c.args.reading) c.in_ok-set.ensures.judged).isolating in
    let count = sym sent.logs.count ∙ kept.log_count ∙ sym (sent.lanes ∙ kept.lane_count) in
    rw (← c.self.view_is) (
      record {
        allowed = search rules;
        delegates = refl;
        state = sent.state;
        marks = search rules;
        sent = search rules;
        logs = sent.logs;
        done = store_done g.C.Class.meaning home_given c.delegate-2.new.store _ count
            (λ closed. absurd (false≢true
            (sym closed ∙ ap (λ marks. marks.is_open) c.in_ok-set.ensures.after ∙ opened)));
        reclaimed = tt;
        was_usable = usable;
        usable = usable;
      },
      search rules,
    )
