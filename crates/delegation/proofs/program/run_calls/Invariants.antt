use Rattle.std.proofs.Common.{◌≡◌, ◌++◌}
use Rattle.delegation.proofs.views.ProgramLemmas.{OnWay}
use Rattle.delegation.proofs.program.run_calls.Given as goal

-- the calls made so far and those that are left are all calls
abbrev pub invariant-loop-call : goal.invariant-loop-call
invariant-loop-call g l =
    OnWay g.C.Class.meaning (g.D.Runtime.seen l.d) l.yielded l.replies.items
    × (l.fn.calls.items ≡ l.yielded ++ l.call-iterator.rest.items)
