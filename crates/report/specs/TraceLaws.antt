-- What does one know of a trace without a look at maps, and of that of a runtime's logs?
use Rattle.std.specs.Prelude.{◌≡◌, ℕ, ◌<◌, Bool, ◌&&◌, ◌==◌, List, map}
use Rattle.std.specs.List.{list_any, range_with_len}
use Rattle.std.specs.List.Sorted.{IsStrictlySortedBy}
use Rattle.ss_base.specs.declared.ids.Run.{Run}
use Rattle.execution_definitions.specs.Runs.{is_of_set, runs, sent}
use Rattle.execution_definitions.specs.Sets.{lane_of_set}
use Rattle.execution_definitions.specs.Shapes.{Shape}
use Rattle.report.specs.Traces.{EpochSet, epoch_set_cmp, epoch_sets, runs_in, trace_text}

-- the epochs are one, and the sets are
abbrev pub is_same : EpochSet → EpochSet → Bool
is_same one other = (one.0 == other.0) && (one.1 == other.1)

-- one of these is this epoch and set
abbrev pub is_among : List EpochSet → EpochSet → Bool
is_among ats at = list_any (λ one. is_same one at) ats

-- these are the epochs and sets of some run
abbrev pub AreThoseOf : List EpochSet → List Run → Type 0
AreThoseOf ats runs = (at : EpochSet) → is_among ats at ≡ list_any (is_of_set at.0 at.1) runs

-- a list that rises strictly and has the epochs and sets of runs is `epoch_sets` of them
abbrev pub EpochSetsAreTheOneRisingList : Type 0
EpochSetsAreTheOneRisingList =
    (runs : List Run) (rising : List EpochSet)
    → IsStrictlySortedBy epoch_set_cmp rising → AreThoseOf rising runs
    → rising ≡ epoch_sets runs

-- logs of lanes that ran what calls sent to them have the trace of the calls' runs in program order,
-- whatever the number of delegates, where each set has one of the lanes
abbrev pub LogsHaveTheProgramsTrace : Type 0
LogsHaveTheProgramsTrace =
    (calls : List Shape) (n lanes : ℕ) → ((set : ℕ) → lane_of_set set n < lanes)
    → trace_text (runs_in (map (sent calls n) (range_with_len 0 lanes))) ≡ trace_text (runs calls)
