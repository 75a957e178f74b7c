use Rattle.std.proofs.Common.{◌≡◌, ◌∙◌, Some, false, refl, sym, ap}
use Rattle.std.proofs.lemmas.List.{length-map}
use Rattle.ss_base.specs.Ids.{object_id}
use Rattle.execution_definitions.specs.declared.call.Reply.TheVariants as reply
use Rattle.delegation.proofs.runs.FrontLemmas.{fronts_same}
use Rattle.lane_ends.specs.Workers.{home_given}
use Rattle.lane_objects.specs.Outcomes.{value_after}
use Rattle.lane_store.specs.LaneStores.{stores_of}
use Rattle.lane_rt.proofs.CallLemmas.{store_done}
use Rattle.lane_rt.proofs.KeptLemmas.{kept_added}
use Rattle.lane_rt.proofs.EventLemmas.{made_event}
use Rattle.lane_rt.proofs.lanes.LanesRuntime.do_make.Goals as goal

pub invariant_of-self : goal.invariant_of-self
invariant_of-self g c =
    let made = c.in-Ok.ensures in
    record {
      some_delegate = c.self.invariant.some_delegate;
      at_most_64 = c.self.invariant.at_most_64;
      kept = λ usable. kept_added g.C.Class.meaning c.self.inside.store c.add.new.store
          c.self.inside.marks c.add.new.marks c.self.inside.delegates
          (c.self.invariant.kept usable) c.args.value made.added
          _ (ap (λ marks. marks.objects) made.marks)
          (ap (λ marks. marks.is_open) made.marks);
    }

pub returns-in-Ok-clause-answered : goal.returns-in-Ok-clause-answered
returns-in-Ok-clause-answered g c =
    let usable : c.self.inside.has_failed ≡ false =
    ap (λ seen. seen.runtime.has_failed) c.self.view_is ∙ c.requires.usable in
    let kept = c.self.invariant.kept usable in
    let store = c.self.inside.store in
    let m = g.C.Class.meaning in
    let made = c.in-Ok.ensures in
    let count = kept.log_count ∙ sym kept.lane_count in
    rw (← c.self.view_is) (
      record {
        allowed = made.judged;
        delegates = refl;
        state = made.added.state;
        marks = made.marks;
        sent = rw (made.added.logs, made.added.lanes) refl;
        logs = rw made.added.logs (fronts_same store.logs.items);
        done = rw (made.added.logs, made.added.lanes, made.marks)
            (store_done m home_given store c.self.inside.marks.is_open count kept.idle);
        reclaimed = tt;
        was_usable = usable;
        usable = usable;
      },
      ap (λ number. Some (reply.Made (object_id number)))
          (made.number ∙ sym kept.marked
          ∙ sym (length-map store.objects.items (value_after (stores_of m home_given store.ends.items)))),
    )

pub returns-in-Ok-clause-moves : goal.returns-in-Ok-clause-moves
returns-in-Ok-clause-moves g c =
    let usable : c.self.inside.has_failed ≡ false =
    ap (λ seen. seen.runtime.has_failed) c.self.view_is ∙ c.requires.usable in
    let m = g.C.Class.meaning in
    let kept = c.self.invariant.kept usable in
    let made = c.in-Ok.ensures in
    rw (← c.self.view_is) (record {
      objects = tt;
      event = λ done before after. made_event m c.self.inside.store c.add.new.store
          c.self.inside.marks c.add.new.marks c.self.inside.delegates c.self.inside.has_failed before
          usable kept
          (kept_added m c.self.inside.store c.add.new.store c.self.inside.marks c.add.new.marks
          c.self.inside.delegates kept c.args.value made.added _ (ap (λ marks. marks.objects) made.marks)
          (ap (λ marks. marks.is_open) made.marks))
          c.args.value c.args.by made.added;
    })
