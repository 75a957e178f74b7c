use Rattle.report.proofs.TraceLemmas.{one_more, all_done}
use Rattle.report.proofs.trace.push_runs.Goals as goal

pub loop-run-preserved : goal.loop-run-preserved
loop-run-preserved c =
    one_more c.args.runs.now c.loop-run.run-index _ c.loop-run-test.true _ _ _ _ _ _
    c.loop-run.invariant c.epoch_set-at.ensures c.in_ok-push_lead.ensures c.in_ok-push_call.ensures

pub returns : goal.returns
returns c =
    all_done c.args.runs.now c.loop-run.run-index c.loop-run-test.false _ _ _ _
    c.loop-run.invariant c.in_ok-push_end.ensures
