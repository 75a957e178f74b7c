use Rattle.std.proofs.Common.{◌≡◌, ◌++◌, length}
use Rattle.batch_rt.specs.Lanes.{load_from, load_of, after_entries, runs_of, lane_runs}
use Rattle.batch_rt.proofs.entries.run_entries.Given as goal

-- what ran and what is left come to what the lane came to
abbrev pub invariant-loop-entry : goal.invariant-loop-entry
invariant-loop-entry g l = record {
  load : after_entries g.C.LocalClass.local_meaning (load_from l.values.items l.part)
      l.entry-iterator.rest.items ≡ load_of g.C.LocalClass.local_meaning l.fn.lane;
  runs : l.ran.items ++ runs_of l.entry-iterator.rest.items ≡ lane_runs l.fn.lane;
  count : length l.values.items ≡ length l.fn.lane.values.items;
}
