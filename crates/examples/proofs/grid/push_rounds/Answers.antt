use Rattle.std.proofs.Common.{◌∙◌, arith}
use Rattle.examples.proofs.GridCallLemmas.{rounds-less}
use Rattle.examples.proofs.grid.push_rounds.Goals as goal

pub loop-round-preserved : goal.loop-round-preserved
loop-round-preserved c = record {
  halves = omega (arith, c.loop-round.invariant.halves, c.swap.ensures.x_after, c.swap.ensures.y_after);
  left = rw (c.in_ok-push_round.ensures, c.swap.ensures.x_after, c.swap.ensures.y_after)
      (rounds-less c.loop-round.calls.items c.args.rows c.args.rounds c.loop-round._round
      c.loop-round.from c.loop-round.to c.loop-round-test.true ∙ c.loop-round.invariant.left);
}
