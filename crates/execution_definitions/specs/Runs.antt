-- What is sent to each lane, and which operations are a set's in an epoch?
--
-- A delegated call becomes one run: its place, its epoch, its set and its object. A lane gets the
-- runs of its sets, in program order.
use Rattle.std.specs.Prelude.{ℕ, Bool, ◌&&◌, ◌==◌, Option, Some, None, List, [], ◌∷◌, ◌++◌, length, filter, map, option_to_list}
use Rattle.ss_base.specs.Ids.{object_id, set_id}
use Rattle.ss_base.specs.declared.ids.Run.{Run}
use Rattle.execution_definitions.specs.Shapes.{Shape, delegate}
use Rattle.execution_definitions.specs.Sets.{set_of, lane_of_set}
use Rattle.execution_definitions.specs.Epochs.{epoch_count}

-- the run of a call after these calls; none where it delegates nothing
abbrev pub run_of : List Shape → Shape → Option Run
run_of before (delegate object own reading) = Some (record {
  call = record { 0 = length before };
  epoch = epoch_count before;
  set = set_id (set_of before object own);
  object = object_id object;
})
run_of before _ = None

-- the runs of a list that follows these calls
abbrev pub runs_after : List Shape → List Shape → List Run
runs_after before [] = []
runs_after before (call ∷ rest) =
    option_to_list (run_of before call) ++ runs_after (before ++ call ∷ []) rest

-- the runs of all delegated calls, in program order
abbrev pub runs : List Shape → List Run
runs calls = runs_after [] calls

-- the run's set has this lane among n delegates
abbrev pub is_in_lane : ℕ → ℕ → Run → Bool
is_in_lane n lane run = lane_of_set run.set.0 n == lane

-- the runs sent to a lane, in program order
abbrev pub sent : List Shape → ℕ → ℕ → List Run
sent calls n lane = filter (is_in_lane n lane) (runs calls)

-- the run is one of a set in an epoch
abbrev pub is_of_set : ℕ → ℕ → Run → Bool
is_of_set epoch set run = (run.epoch == epoch) && (run.set.0 == set)

-- the place of a run's call
abbrev pub place_of : Run → ℕ
place_of run = run.call.0

-- the places of the operations of a set in an epoch, rising
abbrev pub operations_of : List Shape → ℕ → ℕ → List ℕ
operations_of calls epoch set = map place_of (filter (is_of_set epoch set) (runs calls))
