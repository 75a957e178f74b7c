-- How is it printed which calls ran, set by set, and in which order calls took effect?
--
-- A trace has a line for each set of an epoch to which some call was delegated: epochs rise, and in
-- an epoch sets do. The order is one line. Numbers are decimal, each call stands behind a space, and
-- each line ends with a line feed. `set_head` is `unfoldable`: as an `abbrev` its text would be spelt
-- out in goals.
use Rattle.std.specs.Prelude.{ℕ, List, ◌++◌, map, filter, codes, decimal}
use Rattle.std.specs.declared.cmp.Ordering.{Ordering}
use Rattle.std.specs.List.{flat_map}
use Rattle.std.specs.Ordering.{nat_cmp, ordering_then}
use Rattle.std.specs.FinMap.{keys, from_entries}
use Rattle.ss_base.specs.declared.ids.CallNo.{CallNo}
use Rattle.ss_base.specs.declared.ids.Run.{Run}
use Rattle.execution_definitions.specs.Runs.{is_of_set, place_of}

-- the runs of all logs, log by log
abbrev pub runs_in : List (List Run) → List Run
runs_in logs = flat_map (λ log. log) logs

-- an epoch, and a set in it
abbrev pub EpochSet : Type 0
EpochSet = ℕ × ℕ

-- those of a run
abbrev pub epoch_set : Run → EpochSet
epoch_set run = (run.epoch, run.set.0)

-- by epochs, and in an epoch by sets
abbrev pub epoch_set_cmp : EpochSet → EpochSet → Ordering
epoch_set_cmp one other = ordering_then (nat_cmp one.0 other.0) (nat_cmp one.1 other.1)

-- the epochs and sets of runs, each once and rising: the keys of the finite map from them
abbrev pub epoch_sets : List Run → List EpochSet
epoch_sets runs =
    keys (from_entries {R = epoch_set_cmp} (map (λ run. (epoch_set run, tt {0})) runs))

-- the calls of a set in an epoch, in the order of the runs
abbrev pub calls_of : List Run → EpochSet → List ℕ
calls_of runs at = map place_of (filter (is_of_set at.0 at.1) runs)

-- epoch E set S:
unfoldable pub set_head : EpochSet → List ℕ
set_head at = codes "epoch " ++ decimal at.0 ++ codes " set " ++ decimal at.1 ++ codes ":"

-- a call behind a space
abbrev pub call_text : ℕ → List ℕ
call_text call = codes " " ++ decimal call

-- epoch E set S: CALL CALL
abbrev pub set_line : List Run → EpochSet → List ℕ
set_line runs at = set_head at ++ flat_map call_text (calls_of runs at) ++ codes "\n"

-- the trace of runs
abbrev pub trace_text : List Run → List ℕ
trace_text runs = flat_map (set_line runs) (epoch_sets runs)

-- order CALL CALL
abbrev pub order_text : List CallNo → List ℕ
order_text order = codes "order" ++ flat_map (λ call. call_text call.0) order ++ codes "\n"
