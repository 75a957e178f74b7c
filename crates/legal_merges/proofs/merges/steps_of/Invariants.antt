use Rattle.execution_definitions.specs.Meanings.{shapes_of}
use Rattle.legal_merges.proofs.TableLemmas.{AreStepsTo}
use Rattle.legal_merges.proofs.merges.steps_of.Given as goal

-- the marks represent the calls so far, and a step is kept of each
abbrev pub invariant-loop-call : goal.invariant-loop-call
invariant-loop-call g l =
    AreStepsTo l.lanes (shapes_of g.C.Class.meaning l.calls) l.marks l.steps.items l.call-index
