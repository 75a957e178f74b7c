use Rattle.delegates.specs.Works.{TookNoStop}
use Rattle.delegates.proofs.home.work.Given as goal

abbrev pub invariant-loop : goal.invariant-loop
invariant-loop g l =
    TookNoStop g.C.LocalClass.local_meaning l.fn.home
    (record { store = l.store; receiver = l.receiver })
