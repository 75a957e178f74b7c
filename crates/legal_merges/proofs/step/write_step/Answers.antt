use Rattle.std.proofs.Common.{refl}
use Rattle.execution_definitions.specs.Shapes.{write}
use Rattle.legal_merges.proofs.StepLemmas.{step-write}
use Rattle.legal_merges.proofs.step.write_step.Goals as goal

pub returns-clause-represents : goal.returns-clause-represents
returns-clause-represents c = λ calls represents.
    c.note_call.ensures.represents calls (write c.args.object.0) refl represents
    (c.in_ok-check_write.ensures.breaks calls represents)

pub returns-clause-step : goal.returns-clause-step
returns-clause-step c = λ calls represents.
    step-write c.args.lanes calls c.args.object.0 _ (c.waits_of-waits.ensures calls represents) _
    refl refl
