-- What do the logs of lanes say of a set, and are they what the lanes were sent?
use Rattle.std.specs.Prelude.{◌≡◌, ℕ, ◌<◌, Option, Some, List, filter, flat_map, map, take, slice_get}
use Rattle.ss_base.specs.declared.ids.CallNo.{CallNo}
use Rattle.ss_base.specs.declared.ids.Run.{Run}
use Rattle.execution_definitions.specs.Runs.{is_in_lane, is_of_set}
use Rattle.history.specs.declared.logs.Verdict.{Verdict}
use Rattle.history.specs.declared.logs.Verdict.TheVariants.{Good, Bad}

-- the calls of a set's runs in an epoch, in the order of the runs
abbrev pub calls_in : ℕ → ℕ → List Run → List CallNo
calls_in epoch set runs = map (λ run. run.call) (filter (is_of_set epoch set) runs)

-- the same of all logs, lane by lane
abbrev pub calls_of_set : ℕ → ℕ → List (List Run) → List CallNo
calls_of_set epoch set logs = flat_map (calls_in epoch set) logs

-- the runs of some that go to a lane among n
abbrev pub wanted_in : ℕ → ℕ → List Run → List Run
wanted_in n lane sent = filter (is_in_lane n lane) sent

-- two lists are the same up to a place, and have these there, which differ
pub record DiffersAt (wanted found : List Run) (place : ℕ) (one other : Option Run)
    : Type 0 where
  pub same : take place wanted ≡ take place found
  pub wanted_there : slice_get wanted place ≡ one
  pub found_there : slice_get found place ≡ other
  pub differ : ¬ (one ≡ other)

-- the logs of the lanes before this one are what was sent to them
abbrev pub AreSentBefore : ℕ → List Run → List (List Run) → ℕ → Type 0
AreSentBefore n sent logs lane =
    (earlier : ℕ) (log : List Run) → earlier < lane → slice_get logs earlier ≡ Some log →
    log ≡ wanted_in n earlier sent

-- this log is the first that isn't what was sent to its lane, and this is its first difference
pub record IsBadAt (n : ℕ) (sent : List Run) (logs : List (List Run)) (lane place : ℕ)
    (wanted found : Option Run) : Type 0 where
  pub before : AreSentBefore n sent logs lane
  pub log : List Run
  pub is : slice_get logs lane ≡ Some log
  pub difference : DiffersAt (wanted_in n lane sent) log place wanted found

-- every log is what was sent to its lane; or the first that isn't is told, with its first difference
abbrev pub IsVerdict : ℕ → List Run → List (List Run) → Verdict → Type 0
IsVerdict n sent logs Good = AreSentBefore n sent logs n
IsVerdict n sent logs (Bad lane place wanted found) =
    IsBadAt n sent logs lane.0 place wanted found
