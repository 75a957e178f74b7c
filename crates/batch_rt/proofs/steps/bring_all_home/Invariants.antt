use Rattle.std.proofs.Common.{◌<◌, ◌≤◌, ℕ}
use Rattle.batch_rt.specs.Stores.{Continues, IsIdleAt, IsDoneAt}
use Rattle.batch_rt.proofs.steps.bring_all_home.Given as goal

-- lanes so far came home, and all others have nothing pending
abbrev pub invariant-loop-lane : goal.invariant-loop-lane
invariant-loop-lane g l = record {
  continues : Continues g.C.LocalClass.local_meaning l.fn.store l.store;
  idle : (n : ℕ) → n < l.lane → IsIdleAt n l.store.lanes.items;
  done : (n : ℕ) → l.lane ≤ n → IsDoneAt n l.store.lanes.items;
}
