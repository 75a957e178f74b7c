-- What do contracts see of a runtime, and when is it after a list of calls?
use Rattle.std.specs.Prelude.{◌≡◌, ℕ, zero, suc, Bool, false, Some, List, [], ◌++◌, length, map, slice_get}
use Rattle.std.specs.List.{range_with_len}
use Rattle.ss_base.specs.declared.ids.Run.{Run}
use Rattle.execution_definitions.specs.Shapes.{Shape}
use Rattle.execution_definitions.specs.declared.call.Call.{Call}
use Rattle.execution_definitions.specs.Runs.{sent}
use Rattle.execution_definitions.specs.Meanings.{Meaning, shapes_of}
use Rattle.execution_definitions.specs.Sequential.{State, sequential_state}
use Rattle.partition_check.specs.Marked.{Marked}
use Rattle.partition_check.specs.Represents.{Represents}

-- a runtime, as its callers know it
pub record RuntimeView (C R : Type 0) : Type 0 where
  -- how many delegates there are
  pub delegates : ℕ
  -- values and total, with delegated operations counted as done
  pub state : State C R
  -- what the partition rule knows of the calls so far
  pub marks : Marked
  -- the runs sent to each lane, in program order
  pub sent : List (List Run)
  -- the runs that each lane is known to have done
  pub logs : List (List Run)
  -- it found no memory once; from then on every call is answered so
  pub has_failed : Bool

-- how many lanes serve so many delegates: with none there is one log
abbrev pub lane_count : ℕ → ℕ
lane_count zero = 1
lane_count (suc n) = suc n

-- the runs that calls send to each of the lanes
abbrev pub sent_to_lanes : List Shape → ℕ → List (List Run)
sent_to_lanes calls n = map (sent calls n) (range_with_len 0 (lane_count n))

-- a list is the front of another
abbrev pub IsFront : List Run → List Run → Type 0
IsFront front whole = (rest : List Run) × (whole ≡ front ++ rest)

-- each list is the front of its like
pub record AreFronts (fronts wholes : List (List Run)) : Type 0 where
  pub count : length fronts ≡ length wholes
  pub each :
      (lane : ℕ) (front whole : List Run) → slice_get fronts lane ≡ Some front →
      slice_get wholes lane ≡ Some whole → IsFront front whole

-- each lane has done the first of the runs sent to it, and in aggregation all of them
pub record HasDone (given logs : List (List Run)) (is_open : Bool) : Type 0 where
  pub fronts : AreFronts logs given
  pub all : is_open ≡ false → logs ≡ given

module _ {C O R : Type 0} (m : Meaning C O R) where
  -- the runtime is as these calls leave it
  pub record IsAfter (runtime : RuntimeView C R) (calls : List (Call C O)) : Type 0 where
    pub state : runtime.state ≡ sequential_state m calls
    pub marks : Represents runtime.marks (shapes_of m calls)
    pub sent : runtime.sent ≡ sent_to_lanes (shapes_of m calls) runtime.delegates
    pub logs : HasDone runtime.sent runtime.logs runtime.marks.is_open

  -- a runtime with so many delegates before its first call
  pub record IsNew (runtime : RuntimeView C R) (n : ℕ) : Type 0 where
    pub after : IsAfter runtime []
    pub delegates : runtime.delegates ≡ n
    pub usable : runtime.has_failed ≡ false
