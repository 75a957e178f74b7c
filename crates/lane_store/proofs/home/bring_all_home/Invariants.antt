use Rattle.std.proofs.Common.{◌<◌, ℕ}
use Rattle.lane_store.specs.LaneStores.{Continues, IsIdleAt}
use Rattle.lane_store.proofs.home.bring_all_home.Given as goal

-- lanes so far came home
abbrev pub invariant-loop-lane : goal.invariant-loop-lane
invariant-loop-lane g l = record {
  continues : Continues g.C.LocalClass.local_meaning g.W.LaneWorker.home_of l.fn.store l.store;
  idle : (n : ℕ) → n < l.lane →
      IsIdleAt g.C.LocalClass.local_meaning g.W.LaneWorker.home_of n l.store.ends.items;
}
