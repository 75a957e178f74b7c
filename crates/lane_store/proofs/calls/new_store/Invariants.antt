use Rattle.std.proofs.Common.{◌≡◌, length, replicate, []}
use Rattle.lane_ends.specs.LaneEnds.{IsIdle}
use Rattle.lane_store.specs.LaneStores.{Each}
use Rattle.lane_store.proofs.calls.new_store.Given as goal

abbrev pub invariant-loop : goal.invariant-loop
invariant-loop g l = record {
  idle : Each (IsIdle g.C.LocalClass.local_meaning g.W.LaneWorker.home_of) l.ends.items;
  lanes : length l.ends.items ≡ l.counter;
  logs : l.logs.items ≡ replicate l.counter [];
}
