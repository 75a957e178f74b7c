-- What do the rows of a grid hold after some rounds?
--
-- In a round each row has the last values of its neighbours added, cell by cell: those of the row
-- above, and then those of the row below. All rows change at once. The definition knows nothing of
-- calls, and of no second grid.
use Rattle.std.specs.Prelude.{ℕ, zero, suc, ◌+◌, ◌%◌, ◌^◌, List, [], ◌∷◌, Some}
use Rattle.std.specs.declared.option.Option.{Option}
use Rattle.class_laws.specs.declared.numbers.WrapSum.{WrapSum}
use Rattle.class_laws.specs.Numbers.{wrap_sum_unit, wrap_sum_join}
use Rattle.execution_definitions.specs.Meanings.{Meaning}
use Rattle.examples.specs.declared.rows.Intake.{Intake}
use Rattle.examples.specs.declared.rows.Intake.TheVariants.{Take, Add}

-- the row with another one added, modulo 2^64: cells that the other doesn't have stay
abbrev pub row_sum : List ℕ → List ℕ → List ℕ
row_sum [] other = []
row_sum (cell ∷ row) [] = cell ∷ row
row_sum (cell ∷ row) (more ∷ other) = (cell + more) % 2 ^ 64 ∷ row_sum row other

-- the first of some rows, where there is one
abbrev pub first_row : List (List ℕ) → List ℕ
first_row [] = []
first_row (row ∷ rows) = row

-- the rows after a round, where this one is above them
abbrev pub rows_below : List ℕ → List (List ℕ) → List (List ℕ)
rows_below above [] = []
rows_below above (row ∷ rows) =
    row_sum (row_sum row above) (first_row rows) ∷ rows_below row rows

-- the rows after a round: nothing is above the first, and nothing below the last
abbrev pub next_rows : List (List ℕ) → List (List ℕ)
next_rows rows = rows_below [] rows

-- the rows after so many rounds
abbrev pub rows_after : ℕ → List (List ℕ) → List (List ℕ)
rows_after zero rows = rows
rows_after (suc rounds) rows = rows_after rounds (next_rows rows)

-- a row after it takes in another, where one is read
abbrev pub row_after : List ℕ → Intake → Option (List ℕ) → List ℕ
row_after row Take (Some other) = other
row_after row Add (Some other) = row_sum row other
row_after row op read = row

-- the meaning of the rows
abbrev pub row_meaning : Meaning (List ℕ) Intake WrapSum
row_meaning = record {
  step = λ row op read. (row_after row op read, wrap_sum_unit);
  own = λ op. 0;
  unit = wrap_sum_unit;
  join = wrap_sum_join;
}
