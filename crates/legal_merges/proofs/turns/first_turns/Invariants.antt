use Rattle.std.proofs.Common.{List}
use Rattle.execution_definitions.specs.Shapes.{Shape}
use Rattle.legal_merges.specs.kept.Turns.{IsTable}
use Rattle.legal_merges.proofs.FirstLemmas.{AreFirsts}
use Rattle.legal_merges.proofs.turns.first_turns.Given as goal

-- from this place on, the first place of each turn, and after each place that of its turn
abbrev pub invariant-loop-place : goal.invariant-loop-place
invariant-loop-place l =
    (calls : List Shape) → IsTable l.lanes calls l.steps.items →
    AreFirsts l.lanes calls l.steps.items l.afters.items l.nexts.items l.place
