use Rattle.std.proofs.Common.{◌+◌, ◌∙◌, sym, subst, eq-eqb}
use Rattle.history.proofs.LogsLemmas.{Agrees, other_lane, agrees-other, agrees-more, differs_here, ends_same, goes_past}
use Rattle.history.proofs.logs.first_difference.Goals.{then-from-lane+else-not-is_same, else-from-lane}
use Rattle.history.proofs.logs.first_difference.Goals as goal

-- a run of the lane that the log doesn't have there
pub returns-then-not-is_same-clause-some : goal.returns-then-not-is_same-clause-some
returns-then-not-is_same-clause-some c =
    differs_here _ _ _ _ _ _ c.loop-run.invariant _ c.loop-run-test.true
    (eq-eqb _ _ (sym c.lane_of.ensures ∙ sym c.from.ensures ∙ c.if-from-lane.true))
    _ (sym c.run_at-found.ensures.run) c.if-not-is_same.ensures.differ

pub loop-run-preserved : goal.loop-run-preserved
loop-run-preserved c = elim c.if-from-lane.branch [
  | then-from-lane+else-not-is_same w ↦
      subst (λ p. Agrees c.args.lanes c.args.lane c.args.sent.now c.args.log.now (c.loop-run.run-index + 1) p) (sym w.place-is)
      (agrees-more _ _ _ _ _ _ c.loop-run.invariant _ c.loop-run-test.true
      (eq-eqb _ _ (sym c.lane_of.ensures ∙ sym c.from.ensures ∙ w.if-from-lane.true))
      _ (sym w.run_at-found.ensures.run) w.if-not-is_same.ensures.same)
  | else-from-lane w ↦
      subst (λ p. Agrees c.args.lanes c.args.lane c.args.sent.now c.args.log.now (c.loop-run.run-index + 1) p) (sym w.place-is)
      (agrees-other _ _ _ _ _ _ c.loop-run.invariant _ c.loop-run-test.true
      (other_lane _ _ _ _ c.lane_of.ensures c.from.ensures w.if-from-lane.false))
]

-- the log goes on no further than what was sent
pub returns-then-is_same-clause-none : goal.returns-then-is_same-clause-none
returns-then-is_same-clause-none c =
    ends_same _ _ _ _ _ _ c.loop-run.invariant c.loop-run-test.false
    (sym c.run_at-found-2.ensures.run ∙ sym c.if-is_same.ensures.same)

-- the log goes on
pub returns-clause-some : goal.returns-clause-some
returns-clause-some c =
    goes_past _ _ _ _ _ _ c.loop-run.invariant c.loop-run-test.false _
    (sym c.run_at-found-2.ensures.run) c.if-is_same.ensures.differ
