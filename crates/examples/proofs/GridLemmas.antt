-- What the calls leave that do the rounds of a grid: the rows after them.
use Rattle.std.proofs.Common.{◌≡◌, ◌≢◌, ℕ, zero, suc, ◌+◌, ◌*◌, ◌%◌, ◌<◌, ◌≤◌, ⊎_elim}
use Rattle.std.proofs.Common.{Some, List, [], ◌∷◌, ◌++◌, length, map, get_or, take, drop, replicate}
use Rattle.std.proofs.Common.{refl, sym, ap, ◌∙◌, subst, arith, length-append}
use Rattle.std.specs.Prelude.{fold, slice_get, slice_set}
use Rattle.std.specs.List.{flat_map, range_with_len}
use Rattle.std.proofs.lemmas.List.{map-id, length-set}
use Rattle.std.proofs.lemmas.List.Sums.{fold-append}
use Rattle.std.proofs.lemmas.Option.{slice_get-get_or}
use Rattle.class_laws.specs.declared.numbers.WrapSum.{WrapSum}
use Rattle.class_laws.specs.Numbers.{wrap_sum_unit}
use Rattle.execution_definitions.specs.declared.call.Call.TheVariants as call
use Rattle.execution_definitions.specs.declared.serializer.By.TheVariants.{Object}
use Rattle.execution_definitions.specs.Sequential.{State, state_after, sequential_state}
use Rattle.examples.specs.declared.rows.Intake.{Intake}
use Rattle.examples.specs.declared.rows.Intake.TheVariants.{Take, Add}
use Rattle.examples.specs.Grids.{row_sum, first_row, rows_below, next_rows, rows_after, row_after}
use Rattle.examples.specs.Grids.{row_meaning}
use Rattle.examples.specs.GridCalls.{RowCall, make_row, made_rows, intake_call, row_calls}
use Rattle.examples.specs.GridCalls.{round_calls, rounds_calls, half_after, grid_calls}
use Rattle.examples.proofs.RangeLemmas.{state_of, left-made}
use Rattle.examples.proofs.GridCallLemmas.{AreHalves, exchanged, made-halves, length-made_rows}
use Rattle.examples.proofs.RowsAtLemmas.{slice_get-set_same, slice_get-set_other, slice_set-set, AreAt}
use Rattle.examples.proofs.RowsAtLemmas.{at-kept, at-append, behind-rows, rows-between, taken-at}

-- the first of those below, or the row of no cells behind them
at-first_row : (values rows : List (List ℕ)) (place : ℕ) → AreAt values place (rows ++ [] ∷ [])
    → slice_get values place ≡ Some (first_row rows)
at-first_row values [] place are = are.0
at-first_row values (row ∷ rows) place are = are.0

-- a row takes in another
left-intake : (values : List (List ℕ)) (o r : ℕ) (op : Intake) (row other : List ℕ)
    → slice_get values o ≡ Some row → slice_get values r ≡ Some other
    → state_after row_meaning (state_of values wrap_sum_unit) (intake_call o op r)
    ≡ state_of (slice_set values o (row_after row op (Some other))) wrap_sum_unit
left-intake values o r op row other here there = rw (here, there) refl

-- a round leaves as many rows
length-rows_below : (above : List ℕ) (rows : List (List ℕ))
    → length (rows_below above rows) ≡ length rows
length-rows_below above [] = refl
length-rows_below above (row ∷ rows) = ap suc (length-rows_below row rows)

module _ (objects n from to : ℕ) (halves : AreHalves objects n from to) where
  -- what is read isn't what is written
  differ : (r o : ℕ) → from ≤ r → r < from + n + 2 → to ≤ o → o < to + n + 2 → r ≢ o
  differ r o from_r r_from to_o o_to same =
      ⊎_elim (λ before. absurd (omega arith)) (λ behind. absurd (omega arith)) halves.apart

  -- the calls of one row: that of this half becomes that of the other, with its neighbours added
  left-row : (values : List (List ℕ)) (place : ℕ) (row above below : List ℕ)
      → length values ≡ objects → place < n
      → slice_get values (from + place) ≡ Some above
      → slice_get values (from + place + 1) ≡ Some row
      → slice_get values (from + place + 2) ≡ Some below
      → fold (state_after row_meaning) (state_of values wrap_sum_unit) (row_calls from to place)
      ≡ state_of (slice_set values (to + place + 1) (row_sum (row_sum row above) below))
      wrap_sum_unit
  left-row values place row above below long within at_above at_row at_below =
      let o = to + place + 1 in
      let inside : o < length values = omega (arith, halves.to_in, long) in
      let second = row_sum row above in
      let third = row_sum second below in
      let one = slice_set values o row in
      let two = slice_set one o second in
      let still : length one ≡ length values = length-set values o row in
      let second_call = intake_call o Add (from + place) in
      let third_call = intake_call o Add (from + place + 2) in
      let not_above : from + place ≢ o =
      differ (from + place) o (omega arith) (omega arith) (omega arith) (omega arith) in
      let not_below : from + place + 2 ≢ o =
      differ (from + place + 2) o (omega arith) (omega arith) (omega arith) (omega arith) in
      let run = state_after row_meaning in
      ap (λ state. run (run state second_call) third_call)
      (left-intake values o (from + place + 1) Take (get_or values o []) row
      (slice_get-get_or values o [] inside) at_row)
      ∙ ap (λ state. run state third_call)
      (left-intake one o (from + place) Add row above (slice_get-set_same values o row inside)
      (slice_get-set_other values o (from + place) row not_above ∙ at_above))
      ∙ left-intake two o (from + place + 2) Add second below
      (slice_get-set_same one o second (omega arith))
      (slice_get-set_other one o (from + place + 2) second not_below
      ∙ slice_get-set_other values o (from + place + 2) row not_below ∙ at_below)
      ∙ ap (λ vs. state_of vs wrap_sum_unit)
      (slice_set-set one o second third ∙ slice_set-set values o row third)

  -- what calls leave of these values: from a place on these rows, and else what was there
  record Leaves (values : List (List ℕ)) (calls : List RowCall) (place : ℕ)
      (rows : List (List ℕ)) : Type 0 where
    now : List (List ℕ)
    runs : fold (state_after row_meaning) (state_of values wrap_sum_unit) calls
        ≡ state_of now wrap_sum_unit
    long : length now ≡ objects
    are : AreAt now place rows
    before : (k : ℕ) → k < place → slice_get now k ≡ slice_get values k
    behind : (k : ℕ) → place + length rows ≤ k → slice_get now k ≡ slice_get values k

  -- the calls of one row, and then what those of the rows below it leave
  left-more : (rows : List (List ℕ)) (row above : List ℕ) (values : List (List ℕ)) (place : ℕ)
      → length values ≡ objects → place < n
      → AreAt values (from + place) (above ∷ row ∷ rows ++ [] ∷ [])
      → (later : List RowCall)
      → Leaves (slice_set values (to + place + 1) (row_sum (row_sum row above) (first_row rows))) later
      (to + (place + 1) + 1) (rows_below row rows)
      → Leaves values (row_calls from to place ++ later) (to + place + 1)
      (rows_below above (row ∷ rows))
  left-more rows row above values place long within are later rest =
      let o = to + place + 1 in
      let new = row_sum (row_sum row above) (first_row rows) in
      let inside : o < length values = omega (arith, halves.to_in, long) in
      let then : to + (place + 1) + 1 ≡ to + place + 1 + 1 = omega arith in
      let below : from + place + 1 + 1 ≡ from + place + 2 = omega arith in
      record {
        now = rest.now;
        runs = ap (λ state. fold (state_after row_meaning) state later)
            (left-row values place row above (first_row rows) long within are.0 are.1.0
            (at-first_row values rows (from + place + 2)
            (subst (λ k. AreAt values k (rows ++ [] ∷ [])) below are.1.1)))
            ∙ rest.runs;
        long = rest.long;
        are = (
          rest.before o (omega arith) ∙ slice_get-set_same values o new inside,
          subst (λ k. AreAt rest.now k (rows_below row rows)) then rest.are,
        );
        before = λ k outside.
            rest.before k (omega arith) ∙ slice_get-set_other values o k new (λ same. omega arith);
        behind = λ k outside.
            rest.behind k (omega (arith, outside, length-rows_below row rows))
            ∙ slice_get-set_other values o k new (λ same. omega (arith, outside));
      }

  -- the calls of the rows from a place on
  left-rows : (rows : List (List ℕ)) (above : List ℕ) (values : List (List ℕ)) (place : ℕ)
      → length values ≡ objects → place + length rows ≡ n
      → AreAt values (from + place) (above ∷ rows ++ [] ∷ [])
      → Leaves values (flat_map (row_calls from to) (range_with_len place (length rows)))
      (to + place + 1) (rows_below above rows)
  left-rows [] above values place long all are = record {
    now = values;
    runs = refl;
    long = long;
    are = tt;
    before = λ k outside. refl;
    behind = λ k outside. refl;
  }
  left-rows (row ∷ rows) above values place long all are =
      let o = to + place + 1 in
      let new = row_sum (row_sum row above) (first_row rows) in
      let first = slice_set values o new in
      let edged : length (rows ++ [] ∷ []) ≡ length rows + 1 = length-append rows ([] ∷ []) in
      let next : from + place + 1 ≡ from + (place + 1) = omega arith in
      let still : AreAt first (from + (place + 1)) (row ∷ rows ++ [] ∷ []) =
      at-kept values first (row ∷ rows ++ [] ∷ []) (from + (place + 1))
      (λ k a b. slice_get-set_other values o k new
      (differ k o (omega arith) (omega (arith, all, edged)) (omega arith) (omega (arith, all))))
      (subst (λ k. AreAt values k (row ∷ rows ++ [] ∷ [])) next are.1) in
      left-more rows row above values place long (omega (arith, all)) are
      (flat_map (row_calls from to) (range_with_len (place + 1) (length rows)))
      (left-rows rows row first (place + 1) (length-set values o new ∙ long) (omega (arith, all))
      still)

  -- the calls of a round
  left-round : (rows values : List (List ℕ)) → length values ≡ objects → length rows ≡ n
      → AreAt values from ([] ∷ rows ++ [] ∷ [])
      → Leaves values (round_calls n from to) (to + 1) (next_rows rows)
  left-round rows values long all are =
      let calls = flat_map (row_calls from to) (range_with_len 0 n) in
      let start : from ≡ from + 0 = omega arith in
      let first : to + 0 + 1 ≡ to + 1 = omega arith in
      let count : 0 + length rows ≡ n = omega (arith, all) in
      let left : Leaves values calls (to + 1) (next_rows rows) =
      subst (λ k. Leaves values calls k (next_rows rows)) first
      (subst (λ k. Leaves values (flat_map (row_calls from to) (range_with_len 0 k)) (to + 0 + 1)
      (next_rows rows)) all
      (left-rows rows [] values 0 long count
      (subst (λ k. AreAt values k ([] ∷ rows ++ [] ∷ [])) start are))) in
      record {
        now = left.now;
        runs = fold-append (state_after row_meaning) (state_of values wrap_sum_unit) calls
            (call.End ∷ []) ∙ left.runs;
        long = left.long;
        are = left.are;
        before = left.before;
        behind = left.behind;
      }

-- the rows stand in the half to be read, in rows of no cells, which the other half has too
record Stand (objects n from to : ℕ) (values rows : List (List ℕ)) : Type 0 where
  long : length values ≡ objects
  count : length rows ≡ n
  are : AreAt values (from + 1) rows
  above : slice_get values from ≡ Some []
  below : slice_get values (from + n + 1) ≡ Some []
  to_above : slice_get values to ≡ Some []
  to_below : slice_get values (to + n + 1) ≡ Some []

-- so they are read as they are in a half
whole-half : (objects n from to : ℕ) (values rows : List (List ℕ))
    → Stand objects n from to values rows → AreAt values from ([] ∷ rows ++ [] ∷ [])
whole-half objects n from to values rows stand =
    let last : from + n + 1 ≡ from + 1 + length rows = omega (arith, stand.count) in (
      stand.above,
      at-append values rows ([] ∷ []) (from + 1) stand.are
          (subst (λ k. slice_get values k ≡ Some []) last stand.below, tt),
    )

-- after a round the next rows stand in the other half
next-stand : (objects n from to : ℕ) (halves : AreHalves objects n from to)
    (values rows : List (List ℕ)) → Stand objects n from to values rows
    → (left : Leaves objects n from to halves values (round_calls n from to) (to + 1) (next_rows rows))
    → Stand objects n to from left.now (next_rows rows)
next-stand objects n from to halves values rows stand left =
    let count : length (next_rows rows) ≡ n =
    length-rows_below [] rows ∙ stand.count in
    let kept : (k : ℕ) → from ≤ k → k < from + n + 2 → slice_get left.now k ≡ slice_get values k =
    λ k a b. ⊎_elim (λ before. left.before k (omega arith))
    (λ behind. left.behind k (omega (arith, count))) halves.apart in
    record {
      long = left.long;
      count = count;
      are = left.are;
      above = left.before to (omega arith) ∙ stand.to_above;
      below = left.behind (to + n + 1) (omega (arith, count)) ∙ stand.to_below;
      to_above = kept from (omega arith) (omega arith) ∙ stand.above;
      to_below = kept (from + n + 1) (omega arith) (omega arith) ∙ stand.below;
    }

-- what the calls leave that do so many rounds: the rows after them, in the half that they came to
pub record AreLeft (objects half : ℕ) (before : State (List ℕ) WrapSum) (calls : List RowCall)
    (rows : List (List ℕ)) : Type 0 where
  pub now : List (List ℕ)
  pub runs : fold (state_after row_meaning) before calls ≡ state_of now wrap_sum_unit
  pub long : length now ≡ objects
  pub are : AreAt now (half + 1) rows

left-rounds : (objects n rounds from to : ℕ) → AreHalves objects n from to
    → (values rows : List (List ℕ)) → Stand objects n from to values rows
    → AreLeft objects (half_after rounds from to) (state_of values wrap_sum_unit)
    (rounds_calls n rounds from to) (rows_after rounds rows)
left-rounds objects n zero from to halves values rows stand = record {
  now = values;
  runs = refl;
  long = stand.long;
  are = stand.are;
}
left-rounds objects n (suc rounds) from to halves values rows stand =
    let first = round_calls n from to in
    let more = rounds_calls n rounds to from in
    let left : Leaves objects n from to halves values first (to + 1) (next_rows rows) =
    left-round objects n from to halves rows values stand.long stand.count
    (whole-half objects n from to values rows stand) in
    let rest : AreLeft objects (half_after rounds to from) (state_of left.now wrap_sum_unit) more
    (rows_after rounds (next_rows rows)) =
    left-rounds objects n rounds to from (exchanged objects n from to halves) left.now
    (next_rows rows) (next-stand objects n from to halves values rows stand left) in
    record {
      now = rest.now;
      runs = fold-append (state_after row_meaning) (state_of values wrap_sum_unit) first more
          ∙ ap (λ state. fold (state_after row_meaning) state more) left.runs ∙ rest.runs;
      long = rest.long;
      are = rest.are;
    }

-- ---- from the first call on

first-stand : (rows : List (List ℕ))
    → Stand (2 * length rows + 4) (length rows) 0 (length rows + 2) (made_rows rows) rows
first-stand rows =
    let n = length rows in
    record {
      long = length-made_rows rows;
      count = refl;
      are = rows-between ([] ∷ []) rows (replicate (n + 3) []) 1 refl;
      above = refl;
      below = behind-rows ([] ∷ rows) (n + 3) (0 + n + 1) (omega arith) (omega arith);
      to_above = behind-rows ([] ∷ rows) (n + 3) (n + 2) (omega arith) (omega arith);
      to_below = behind-rows ([] ∷ rows) (n + 3) (n + 2 + n + 1) (omega arith) (omega arith);
    }

-- all calls
pub grid-left : (rounds : ℕ) (rows : List (List ℕ))
    → AreLeft (2 * length rows + 4) (half_after rounds 0 (length rows + 2))
    (state_of [] wrap_sum_unit) (grid_calls rounds rows) (rows_after rounds rows)
grid-left rounds rows =
    let n = length rows in
    let made = map make_row (made_rows rows) in
    let more = rounds_calls n rounds 0 (n + 2) in
    let run = fold (state_after row_meaning) in
    let rest : AreLeft (2 * n + 4) (half_after rounds 0 (n + 2))
    (state_of (made_rows rows) wrap_sum_unit) more (rows_after rounds rows) =
    left-rounds (2 * n + 4) n rounds 0 (n + 2) (made-halves n) (made_rows rows) rows
    (first-stand rows) in
    record {
      now = rest.now;
      runs = fold-append (state_after row_meaning) (state_of [] wrap_sum_unit) made more
          ∙ ap (λ state. run state more)
          (left-made row_meaning (λ row. row) Object (made_rows rows) [] wrap_sum_unit
          ∙ ap (λ vs. state_of vs wrap_sum_unit) (map-id (made_rows rows)))
          ∙ rest.runs;
      long = rest.long;
      are = rest.are;
    }

-- which half that is
half-parity : (rounds from to : ℕ)
    → (rounds % 2 ≡ 0 → half_after rounds from to ≡ from)
    × (rounds % 2 ≡ 1 → half_after rounds from to ≡ to)
half-parity zero from to = (λ even. refl, λ odd. absurd (omega arith))
half-parity (suc rounds) from to =
    let before = half-parity rounds to from in
    (λ even. before.1 (omega arith), λ odd. before.0 (omega arith))

pub half_after-even : (rounds from to : ℕ) → rounds % 2 ≡ 0 → half_after rounds from to ≡ from
half_after-even rounds from to = (half-parity rounds from to).0

pub half_after-odd : (rounds from to : ℕ) → rounds % 2 ≡ 1 → half_after rounds from to ≡ to
half_after-odd rounds from to = (half-parity rounds from to).1

-- both halves begin early enough
pub half_after-le : (rounds from to most : ℕ) → from ≤ most → to ≤ most
    → half_after rounds from to ≤ most
half_after-le zero from to most first second = first
half_after-le (suc rounds) from to most first second = half_after-le rounds to from most second first

-- rounds leave as many rows
length-rows_after : (rounds : ℕ) (rows : List (List ℕ))
    → length (rows_after rounds rows) ≡ length rows
length-rows_after zero rows = refl
length-rows_after (suc rounds) rows =
    length-rows_after rounds (next_rows rows) ∙ length-rows_below [] rows

-- the values that are left
pub length-grid : (rounds : ℕ) (rows : List (List ℕ))
    → length (sequential_state row_meaning (grid_calls rounds rows)).values ≡ 2 * length rows + 4
length-grid rounds rows =
    let left = grid-left rounds rows in
    ap (λ (state : State (List ℕ) WrapSum). length state.values) left.runs ∙ left.long

-- those of the half that was written last are the rows
pub taken-grid : (rounds : ℕ) (rows : List (List ℕ))
    → take (length rows) (drop (half_after rounds 0 (length rows + 2) + 1)
    (sequential_state row_meaning (grid_calls rounds rows)).values)
    ≡ rows_after rounds rows
taken-grid rounds rows =
    let half = half_after rounds 0 (length rows + 2) in
    let left = grid-left rounds rows in
    ap (λ (state : State (List ℕ) WrapSum). take (length rows) (drop (half + 1) state.values))
    left.runs
    ∙ ap (λ k. take k (drop (half + 1) left.now)) (sym (length-rows_after rounds rows))
    ∙ taken-at left.now (rows_after rounds rows) (half + 1) left.are
