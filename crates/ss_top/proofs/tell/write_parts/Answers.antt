use Rattle.ss_top.proofs.PartsLemmas.{GainsAll-err, GainsFront-parts}
use Rattle.ss_top.proofs.tell.write_parts.Goals as goal

pub returns-in_err-write_all-clause-gained : goal.returns-in_err-write_all-clause-gained
returns-in_err-write_all-clause-gained g c =
    GainsAll-err _ _ c.from_residual.result _ c.from_residual.ensures.0
    (GainsFront-parts (λ part. part.now) c.args.parts.now c.loop-part.part-index _ _ _ _
    c.loop-part-test.true c.loop-part.invariant.gained c.in_err-write_all.ensures.gained)
