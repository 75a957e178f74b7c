use Rattle.std.proofs.Common.{◌++◌, ap, ◌∙◌}
use Rattle.examples.specs.GridCalls.{row_calls}
use Rattle.examples.proofs.GridCallLemmas.{rows-more}
use Rattle.examples.proofs.grid.push_round.Goals as goal

pub loop-place-preserved : goal.loop-place-preserved
loop-place-preserved c =
    let k = c.loop-place.place in
    c.in_ok-push_row_calls.ensures
    ∙ ap (λ calls. calls ++ row_calls c.args.from c.args.to k) c.loop-place.invariant
    ∙ rows-more c.args.calls.now.items c.args.from c.args.to k
