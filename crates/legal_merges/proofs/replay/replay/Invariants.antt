use Rattle.std.proofs.Common.{take}
use Rattle.delegation.specs.PlainParts.{state_of}
use Rattle.legal_merges.specs.Merging.{places}
use Rattle.legal_merges.proofs.ReplayLemmas.{IsReplayedTo}
use Rattle.legal_merges.proofs.replay.replay.Given as goal

-- the places so far are done, and the other calls are still where they were
abbrev pub invariant-loop-call : goal.invariant-loop-call
invariant-loop-call g l =
    IsReplayedTo g.C.Class.meaning l.fn.calls.items l.calls.items
    (places (take l.call-index l.order)) (state_of l.values.items l.total)
