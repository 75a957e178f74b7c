-- What holds of the runtime between calls?
use Rattle.std.specs.Prelude.{◌≡◌, ◌≤◌, ℕ, Bool, false, Option, Some, None, List, length, slice_get, option_and_then, if◌then◌else◌}
use Rattle.ss_base.specs.declared.ids.SetId.{SetId}
use Rattle.execution_definitions.specs.Meanings.{Meaning}
use Rattle.execution_definitions.specs.Sets.{lane_of_set}
use Rattle.partition_check.specs.declared.mark.Mark.{Mark}
use Rattle.partition_check.specs.Marked.{Marked}
use Rattle.jobs.specs.declared.start.RunningJob.{RunningJob}
use Rattle.delegates.specs.declared.worker.DelegateJob.{DelegateJob}
use Rattle.lane_ends.specs.Workers.{home_given}
use Rattle.lane_objects.specs.declared.object.Object.{Object}
use Rattle.lane_objects.specs.Objects.{found_at}
use Rattle.lane_store.specs.declared.store.LaneStore.{LaneStore}
use Rattle.lane_store.specs.LaneStores.{IsWholeStore, AreIdle}

-- the set to which a mark is held, if it is: that of its object's last delegation
abbrev pub set_held : Mark → Option SetId
set_held mark = if mark.is_held then mark.set else None

-- the set to which the mark of a number is held
abbrev pub held_at : List Mark → ℕ → Option SetId
held_at marks object = option_and_then set_held (slice_get marks object)

-- an object is held to a set, and a lane is that of this set
pub record IsPlaced (marks : Marked) (delegates object lane : ℕ) : Type 0 where
  pub set : SetId
  pub held : held_at marks.objects object ≡ Some set
  pub lane_is : lane_of_set set.0 delegates ≡ lane

-- an object that isn't at home is in the lane of the set to which it is held
abbrev pub ArePlaced : {C : Type 0} → List (Object C) → Marked → ℕ → Type 0
ArePlaced objects marks delegates =
    (object lane number : ℕ) → found_at objects object ≡ Some (lane, number) →
    IsPlaced marks delegates object lane

module _ {C G O R : Type 0} (m : Meaning C O R)
    (store : LaneStore C (RunningJob (DelegateJob C G O R)) O R) (marks : Marked) (delegates : ℕ)
  where
    -- of its store and marks, as long as memory was found
    pub record HoldsTogether : Type 0 where
      pub whole : IsWholeStore m home_given store
      pub marked : length store.objects.items ≡ length marks.objects
      pub lane_count : length store.ends.items ≡ delegates
      pub log_count : length store.logs.items ≡ delegates
      -- nothing is in any lane in aggregation
      pub idle : marks.is_open ≡ false → AreIdle m home_given store
      pub placed : ArePlaced store.objects.items marks delegates

    pub record IsKept (has_failed : Bool) : Type 0 where
      pub some_delegate : 1 ≤ delegates
      pub at_most_64 : delegates ≤ 64
      pub kept : has_failed ≡ false → HoldsTogether
