-- What holds of the runtime between calls, as long as memory was found?
use Rattle.std.specs.Prelude.{◌≡◌, ℕ, false, List, length}
use Rattle.partition_check.specs.Marked.{Marked}
use Rattle.batch_rt.specs.declared.object.Object.{Object}
use Rattle.batch_rt.specs.declared.lane.Lane.{Lane}
use Rattle.batch_rt.specs.Lanes.{IsIdle}
use Rattle.batch_rt.specs.Stores.{IsWhole, Each}

pub record HoldsTogether {C O R : Type 0} (objects : List (Object C)) (lanes : List (Lane C O R))
    (logs delegates : ℕ) (marks : Marked) : Type 0 where
  pub whole : IsWhole objects lanes
  pub marked : length objects ≡ length marks.objects
  pub lane_count : length lanes ≡ delegates
  pub log_count : logs ≡ delegates
  -- nothing is pending in aggregation
  pub idle : marks.is_open ≡ false → Each IsIdle lanes
