use Rattle.std.proofs.Common.{refl, sym, ◌∙◌}
use Rattle.delegation.proofs.runs.FrontLemmas.{fronts_same}
use Rattle.partition_check.proofs.represents.JudgedLemmas.{closed_from}
use Rattle.batch_rt.proofs.CallLemmas.{store_done}
use Rattle.batch_rt.proofs.batch.BatchRuntime.do_begin.Goals as goal

pub returns-clause-answered : goal.returns-clause-answered
returns-clause-answered g c =
    let usable = c.requires.usable in
    let kept = c.args.self.now.kept usable in
    let store = c.args.self.now.store in
    let idle = kept.idle (closed_from c.args.self.now.marks.is_open _ _
    c.in_ok-begin.ensures.judged) in (
      record {
        allowed = c.in_ok-begin.ensures.judged;
        delegates = refl;
        state = refl;
        marks = c.in_ok-begin.ensures.after;
        sent = refl;
        logs = fronts_same store.logs.items;
        done = store_done store _ (kept.log_count ∙ sym kept.lane_count) (λ closed. idle);
        reclaimed = tt;
        was_usable = usable;
        usable = usable;
      },
      refl,
    )
