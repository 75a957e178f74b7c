use Rattle.std.proofs.Common.{◌∙◌, subst}
use Rattle.execution_definitions.specs.Meanings.{shapes_of}
use Rattle.legal_merges.specs.Merging.{IsMerge, places}
use Rattle.legal_merges.proofs.merges.replay_merge.Goals as goal

pub replay-requires-after_bounds : goal.replay-requires-after_bounds
replay-requires-after_bounds g c κs within = (
  c.args.lanes,
  subst (λ l. IsMerge c.args.lanes (shapes_of g.C.Class.meaning l) (places c.args.order.now))
      c.deref.ensures.value c.in_ok-judge_order.ensures.legal,
)

pub returns-clause-same : goal.returns-clause-same
returns-clause-same g c =
    let merge = subst (λ l. IsMerge c.args.lanes (shapes_of g.C.Class.meaning l)
    (places c.args.order.now)) c.deref.ensures.value c.in_ok-judge_order.ensures.legal in
    c.in_ok-replay.ensures
    ∙ c.legal_merges_leave_the_same.ensures c.args.lanes c.args.calls.items _ merge.sound merge.legal
