-- Is an epoch of isolation open, which one, and which calls are its own?
--
-- An epoch lies between a begin and the next end. All other time is aggregation.
use Rattle.std.specs.Prelude.{ℕ, Bool, List, [], ◌∷◌, ◌++◌, if◌then◌else◌, take, count_by, fold}
use Rattle.std.specs.List.{list_any}
use Rattle.execution_definitions.specs.Shapes.{Shape, is_begin, is_end}

-- one call more: a call that passes the test starts the list anew
abbrev pub since_step : (Shape → Bool) → List Shape → Shape → List Shape
since_step test calls call = if test call then [] else (calls ++ call ∷ [])

-- the calls after the last that passes the test, or all where none does
abbrev pub since : (Shape → Bool) → List Shape → List Shape
since test calls = fold (since_step test) [] calls

-- an epoch is open: some begin has no end after it
abbrev pub isolating : List Shape → Bool
isolating calls = list_any is_begin (since is_end calls)

-- the calls of the open epoch; in aggregation, none
abbrev pub this_epoch : List Shape → List Shape
this_epoch calls = if isolating calls then since is_begin calls else []

-- the number of the epoch at the end of a list: the first is 1
abbrev pub epoch_count : List Shape → ℕ
epoch_count calls = count_by is_begin calls

-- the number of the epoch at a place
abbrev pub epoch_at : List Shape → ℕ → ℕ
epoch_at calls place = epoch_count (take place calls)
