-- Running lanes between calls have what the laws on cuts ask for, and show their logical state.
use Rattle.std.proofs.Common.{◌≡◌, ℕ, Bool, Some, length, ap, ◌∙◌}
use Rattle.std.specs.Option.{option_map}
use Rattle.ss_base.specs.declared.ids.SetId.{SetId}
use Rattle.execution_definitions.specs.Meanings.{Meaning}
use Rattle.execution_definitions.specs.Sets.{lane_of_set}
use Rattle.partition_check.specs.Marked.{Marked}
use Rattle.jobs.specs.declared.start.RunningJob.{RunningJob}
use Rattle.delegates.specs.declared.worker.DelegateJob.{DelegateJob}
use Rattle.lane_core.specs.Cores.{logical_state}
use Rattle.lane_core.specs.Kept.{IsKept}
use Rattle.lane_core.specs.Laws.{CutsAreLogical}
use Rattle.lane_ends.specs.Workers.{home_given}
use Rattle.lane_store.specs.declared.store.LaneStore.{LaneStore}
use Rattle.lane_store.specs.LaneStores.{store_state}
use Rattle.lane_store.specs.Running.{running_of}
use Rattle.lane_store.proofs.ViewLemmas.{ArePlaced, length-lanes, running_kept, shown}
use Rattle.lane_rt.specs.Kept.{HoldsTogether, IsPlaced}
use Rattle.lane_rt.proofs.PlacedLemmas.{held_delegated}

module _ {C G O R : Type 0} (m : Meaning C O R)
    (store : LaneStore C (RunningJob (DelegateJob C G O R)) O R) (marks : Marked) (delegates : ℕ)
    (has_failed : Bool) (kept : HoldsTogether m store marks delegates)
  where
    -- the lane in which an object is is that of its last delegation
    are_placed : ArePlaced m home_given store marks has_failed
    are_placed object lane number found =
        let was : IsPlaced marks delegates object lane = kept.placed object lane number found in
        ap (option_map (λ (set : SetId). lane_of_set set.0
        (length (running_of m home_given store marks has_failed).lanes)))
        (held_delegated marks object was.set was.held)
        ∙ ap (λ n. Some (lane_of_set was.set.0 n))
        (length-lanes m home_given store.logs.items store.ends.items ∙ kept.lane_count)
        ∙ ap Some was.lane_is

    pub lanes_kept : IsKept (running_of m home_given store marks has_failed)
    lanes_kept = running_kept m home_given store marks has_failed kept.whole are_placed

    pub state_shown : CutsAreLogical m (running_of m home_given store marks has_failed) →
        store_state m home_given store
        ≡ logical_state m (running_of m home_given store marks has_failed)
    state_shown = shown m home_given store marks has_failed kept.whole are_placed
