use Rattle.std.proofs.Common.{refl, sym, ap, ◌∙◌, Some}
use Rattle.execution_definitions.specs.declared.call.Reply.TheVariants as reply
use Rattle.delegation.proofs.runs.FrontLemmas.{fronts_same}
use Rattle.batch_rt.proofs.IdleLemmas.{idle_total}
use Rattle.partition_check.proofs.represents.JudgedLemmas.{closed_from}
use Rattle.batch_rt.proofs.CallLemmas.{store_done}
use Rattle.batch_rt.proofs.batch.BatchRuntime.do_total.Goals as goal

pub returns : goal.returns
returns g c =
    let usable = c.requires.usable in
    let kept = c.args.self.now.kept usable in
    let store = c.args.self.now.store in
    let m = g.C.Class.meaning in
    let idle = kept.idle (closed_from c.args.self.now.marks.is_open _ _
    c.in_ok-check_total.ensures.judged) in
    let total = sym (idle_total m store.total store.lanes.items idle) in (
      (
        refl,
        (λ w. tt),
        (
          (
            record {
              allowed = c.in_ok-check_total.ensures.judged;
              delegates = refl;
              state = refl;
              marks = c.note_call.ensures.after;
              sent = refl;
              logs = fronts_same store.logs.items;
              done = store_done store _ (kept.log_count ∙ sym kept.lane_count) (λ closed. idle);
              reclaimed = tt;
              was_usable = usable;
              usable = usable;
            },
            ap (λ total. Some (reply.Total total)) total,
          ),
          tt,
        ),
      ),
      record { after = tt; total = total },
    )
