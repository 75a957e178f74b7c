use Rattle.std.proofs.Common.{length, sym, ◌∙◌, arith}
use Rattle.examples.proofs.RowLemmas.{row_sum-nothing, row_sum-more, row_sum-all, either_reached}
use Rattle.examples.proofs.rows.add_cells.Goals as goal

pub loop-place-init : goal.loop-place-init
loop-place-init c = record {
  within = omega arith;
  added = sym (row_sum-nothing c.args.cells.now);
}

pub loop-place-preserved : goal.loop-place-preserved
loop-place-preserved c = record {
  within = omega arith;
  added = rw c.loop-place.invariant.added
      (row_sum-more c.args.cells.now c.args.other.now c.loop-place.place (omega arith)
      (omega arith));
}

pub returns : goal.returns
returns c =
    c.loop-place.invariant.added
    ∙ row_sum-all c.args.cells.now c.args.other.now c.loop-place.place
    (either_reached (length c.args.cells.now) (length c.args.other.now) c.loop-place.place
    (omega arith))
