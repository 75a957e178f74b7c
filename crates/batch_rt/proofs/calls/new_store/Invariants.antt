use Rattle.std.proofs.Common.{◌≡◌, length, replicate, []}
use Rattle.batch_rt.specs.Lanes.{IsIdle}
use Rattle.batch_rt.specs.Stores.{Each}
use Rattle.batch_rt.proofs.calls.new_store.Given as goal

abbrev pub invariant-loop : goal.invariant-loop
invariant-loop g l = record {
  idle : Each IsIdle l.lanes.items;
  lanes : length l.lanes.items ≡ l.counter;
  logs : l.logs.items ≡ replicate l.counter [];
}
