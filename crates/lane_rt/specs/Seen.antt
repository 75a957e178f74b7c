-- What do contracts see of the runtime with lanes?
use Rattle.std.specs.Prelude.{ℕ, Bool}
use Rattle.execution_definitions.specs.Meanings.{Meaning}
use Rattle.partition_check.specs.Marked.{Marked}
use Rattle.delegation.specs.Runtimes.{RuntimeView}
use Rattle.jobs.specs.declared.start.RunningJob.{RunningJob}
use Rattle.delegates.specs.declared.worker.DelegateJob.{DelegateJob}
use Rattle.lane_core.specs.Views.{LanesView}
use Rattle.lane_ends.specs.Workers.{home_given}
use Rattle.lane_store.specs.declared.store.LaneStore.{LaneStore}
use Rattle.lane_store.specs.LaneStores.{store_state, store_sent}

-- what every runtime shows, and its running lanes
pub record LanesValue (C O R : Type 0) : Type 0 where
  pub runtime : RuntimeView C R
  pub running : LanesView C O R

module _ {C G O R : Type 0} (m : Meaning C O R)
  where
    -- values, total and runs sent are those with all done that was delegated
    abbrev pub seen_of :
        LaneStore C (RunningJob (DelegateJob C G O R)) O R → Marked → ℕ → Bool → RuntimeView C R
    seen_of store marks delegates has_failed = record {
      delegates = delegates;
      state = store_state m home_given store;
      marks = marks;
      sent = store_sent m home_given store;
      logs = store.logs.items;
      has_failed = has_failed;
    }
