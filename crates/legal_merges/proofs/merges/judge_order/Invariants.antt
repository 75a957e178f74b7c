use Rattle.std.proofs.Common.{take}
use Rattle.execution_definitions.specs.Meanings.{shapes_of}
use Rattle.legal_merges.specs.Merging.{places}
use Rattle.legal_merges.specs.kept.Turns.{IsOnWay}
use Rattle.legal_merges.proofs.merges.judge_order.Given as goal

-- the places so far begin a legal merge
abbrev pub invariant-loop-place : goal.invariant-loop-place
invariant-loop-place g l =
    IsOnWay l.lanes (shapes_of g.C.Class.meaning l.calls) (places (take l.place l.order)) l.turns
