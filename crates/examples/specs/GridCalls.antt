-- Which calls do the rounds of a grid?
--
-- The grid is there twice. Each half is a row of no cells, the grid's rows, and a row of no cells,
-- all of them objects. In a round the rows of one half are read, and those of the other become their
-- next values; then the halves change roles. The outermost rows are never written: they stand for
-- the neighbours that the first row and the last don't have.
use Rattle.std.specs.Prelude.{ℕ, zero, suc, ◌+◌, List, [], ◌∷◌, ◌++◌, Some, map, length}
use Rattle.std.specs.Prelude.{replicate}
use Rattle.std.specs.List.{flat_map, range_with_len}
use Rattle.ss_base.specs.Ids.{object_id}
use Rattle.execution_definitions.specs.declared.call.Call.{Call}
use Rattle.execution_definitions.specs.declared.call.Call.TheVariants.{Make, Begin, Delegate, End}
use Rattle.execution_definitions.specs.declared.serializer.By.TheVariants.{Object}
use Rattle.examples.specs.declared.rows.Intake.{Intake}
use Rattle.examples.specs.declared.rows.Intake.TheVariants.{Take, Add}

-- the most rows of a grid: the two halves are 1,048,576 objects then
abbrev pub MOST_ROWS : ℕ
MOST_ROWS = 524286

-- a call on the rows
abbrev pub RowCall : Type 0
RowCall = Call (List ℕ) Intake

-- a row is made
abbrev pub make_row : List ℕ → RowCall
make_row row = Make row Object

-- the rows that are made: the first half is the grid, and the second has no cells yet
abbrev pub made_rows : List (List ℕ) → List (List ℕ)
made_rows rows = [] ∷ rows ++ replicate (length rows + 3) []

-- a row takes in another
abbrev pub intake_call : ℕ → Intake → ℕ → RowCall
intake_call object op read = Delegate (object_id object) op (Some (object_id read))

-- the row at a place of the one half becomes that of the other, with its neighbours added
abbrev pub row_calls : ℕ → ℕ → ℕ → List RowCall
row_calls from to place =
    intake_call (to + place + 1) Take (from + place + 1)
    ∷ intake_call (to + place + 1) Add (from + place)
    ∷ intake_call (to + place + 1) Add (from + place + 2) ∷ []

-- a round of so many rows, from one half to the other
abbrev pub round_calls : ℕ → ℕ → ℕ → List RowCall
round_calls rows from to =
    Begin ∷ flat_map (row_calls from to) (range_with_len 0 rows) ++ End ∷ []

-- so many rounds, between which the halves change roles
abbrev pub rounds_calls : ℕ → ℕ → ℕ → ℕ → List RowCall
rounds_calls rows zero from to = []
rounds_calls rows (suc rounds) from to =
    round_calls rows from to ++ rounds_calls rows rounds to from

-- where the half begins that has the rows after so many rounds
abbrev pub half_after : ℕ → ℕ → ℕ → ℕ
half_after zero from to = from
half_after (suc rounds) from to = half_after rounds to from

-- all calls
abbrev pub grid_calls : ℕ → List (List ℕ) → List RowCall
grid_calls rounds rows =
    map make_row (made_rows rows) ++ rounds_calls (length rows) rounds 0 (length rows + 2)
