use Rattle.execution_definitions.specs.Meanings.{shapes_of}
use Rattle.legal_merges.proofs.OrdersLemmas.{IsPickedTo}
use Rattle.legal_merges.proofs.merges.merge_of.Given as goal

-- the order so far is that of the picks so far, and begins a legal merge
abbrev pub invariant-loop-pick : goal.invariant-loop-pick
invariant-loop-pick g l =
    IsPickedTo l.lanes (shapes_of g.C.Class.meaning l.calls) l.picks l.order.items l.turns
    l.pick-index
