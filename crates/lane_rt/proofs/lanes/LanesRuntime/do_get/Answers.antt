use Rattle.std.proofs.Common.{◌≡◌, ◌∙◌, Some, false, refl, sym, ap}
use Rattle.std.specs.Prelude.{is_some, slice_get}
use Rattle.std.specs.Option.{option_map}
use Rattle.execution_definitions.specs.declared.call.Reply.TheVariants as reply
use Rattle.delegation.proofs.plains.PlainLemmas.{length-noted}
use Rattle.lane_ends.specs.Workers.{home_given}
use Rattle.lane_rt.specs.Seen.{seen_of}
use Rattle.lane_rt.proofs.CallLemmas.{store_done, caught_up}
use Rattle.lane_rt.proofs.KeptLemmas.{kept_on}
use Rattle.lane_rt.proofs.RunningLemmas.{out_is}
use Rattle.lane_rt.proofs.EventLemmas.{get_event}
use Rattle.lane_rt.proofs.lanes.LanesRuntime.do_get.Goals as goal

pub reclaim-requires-clause-idle : goal.reclaim-requires-clause-idle
reclaim-requires-clause-idle g c =
    let usable : c.self.inside.has_failed ≡ false =
    ap (λ seen. seen.runtime.has_failed) c.self.view_is ∙ c.requires.usable in
    (c.self.invariant.kept usable).idle

pub invariant_of-self-2 : goal.invariant_of-self-2
invariant_of-self-2 g c =
    let noted = c.note_call.ensures.after in
    record {
      some_delegate = c.self.invariant.some_delegate;
      at_most_64 = c.self.invariant.at_most_64;
      kept = λ usable. kept_on g.C.Class.meaning c.self.inside.store c.reclaim.new.store
          c.self.inside.marks c.note_call.new.self c.self.inside.delegates
          (c.self.invariant.kept usable) c.in-Ok.ensures.continues
          (length-noted _ _ (Some c.args.o.0) noted)
          c.args.o.0 noted c.in-Ok.ensures.home
          (λ closed. c.in-Ok.ensures.idle (sym (ap (λ marks. marks.is_open) noted) ∙ closed));
    }

pub returns : goal.returns
returns g c =
    let usable : c.self.inside.has_failed ≡ false =
    ap (λ seen. seen.runtime.has_failed) c.self.view_is ∙ c.requires.usable in
    let kept = c.self.invariant.kept usable in
    let on = c.in-Ok.ensures.continues in
    let m = g.C.Class.meaning in
    let new = c.reclaim.new.store in
    let count = sym on.logs.count ∙ kept.log_count ∙ sym (on.lanes ∙ kept.lane_count) in
    let value = sym (ap (λ s. slice_get s.values c.args.o.0) on.state) ∙ c.value_of.ensures in
    rw (← c.self.view_is) (
      (
        refl,
        (λ w. tt),
        (
          (
            record {
              allowed = c.in_ok-check_get.ensures.judged;
              delegates = refl;
              state = on.state;
              marks = c.note_call.ensures.after;
              sent = on.sent;
              logs = on.logs;
              done = store_done m home_given new _ count (λ closed. c.in-Ok.ensures.idle
                  (sym (ap (λ marks. marks.is_open) c.note_call.ensures.after) ∙ closed));
              reclaimed = caught_up m home_given new c.self.inside.delegates _
                  (seen_of m new c.note_call.new.self c.self.inside.delegates
                  c.self.inside.has_failed)
                  refl refl refl c.in-Ok.ensures.caught_up;
              was_usable = usable;
              usable = usable;
            },
            sym (ap (λ found. option_map reply.Value found) value),
          ),
          record {
            objects = λ done. out_is new.objects.items c.args.o.0
                ∙ ap (λ found. is_some found) c.in-Ok.ensures.home;
            event = λ done before after. get_event m c.self.inside.store new c.self.inside.marks
                c.note_call.new.self c.self.inside.delegates c.self.inside.has_failed before usable kept
                (kept_on m c.self.inside.store new c.self.inside.marks c.note_call.new.self
                c.self.inside.delegates kept on
                (length-noted _ _ (Some c.args.o.0) c.note_call.ensures.after) c.args.o.0
                c.note_call.ensures.after c.in-Ok.ensures.home
                (λ closed. c.in-Ok.ensures.idle
                (sym (ap (λ marks. marks.is_open) c.note_call.ensures.after) ∙ closed)))
                c.args.o on.comes_on after.marks c.in-Ok.ensures.idle_for;
          },
        ),
      ),
      record { after = tt; value = value },
    )
