-- The calls that do the rounds of a grid, one after the other, and that none is refused.
use Rattle.std.proofs.Common.{◌≡◌, ℕ, zero, suc, ◌+◌, ◌-◌, ◌*◌, ◌^◌, ◌<◌, ◌≤◌, ◌⊎◌, ⊎_elim, inl, inr}
use Rattle.std.proofs.Common.{List, [], ◌∷◌, ◌++◌, length, map, replicate}
use Rattle.std.proofs.Common.{refl, sym, ap, ◌∙◌, subst, arith, append-nil, append_assoc, length-append}
use Rattle.std.specs.List.{AllByRecursion, flat_map, range_with_len}
use Rattle.std.proofs.lemmas.Grind.{flat_map-append}
use Rattle.std.proofs.lemmas.List.{length-map, map-append, length-replicate}
use Rattle.execution_definitions.specs.declared.call.Call.TheVariants as call
use Rattle.execution_definitions.specs.declared.serializer.By.TheVariants.{Object}
use Rattle.execution_definitions.specs.Meanings.{shape_of, shapes_of}
use Rattle.execution_definitions.specs.Shapes.{Shape, begin, end}
use Rattle.execution_definitions.specs.Soundness.{IsSound}
use Rattle.execution_definitions.proofs.shapes.PreparedLemmas.{IsPrepared, IsApart, prepared-epoch}
use Rattle.examples.specs.declared.rows.Intake.{Intake}
use Rattle.examples.specs.declared.rows.Intake.TheVariants.{Take, Add}
use Rattle.examples.specs.Grids.{row_meaning}
use Rattle.examples.specs.GridCalls.{RowCall, make_row, made_rows, intake_call, row_calls}
use Rattle.examples.specs.GridCalls.{round_calls, rounds_calls, grid_calls}
use Rattle.examples.proofs.RangeLemmas.{range-more, all-map, all-any}
use Rattle.examples.proofs.EpochLemmas.{IsMake, prepared-makes}

-- ---- calls one after the other

-- the calls of one row more
pub rows-more : (old : List RowCall) (from to k : ℕ)
    → (old ++ (call.Begin ∷ flat_map (row_calls from to) (range_with_len 0 k)))
    ++ row_calls from to k
    ≡ old ++ (call.Begin ∷ flat_map (row_calls from to) (range_with_len 0 (k + 1)))
rows-more old from to k =
    let done = flat_map (row_calls from to) (range_with_len 0 k) in
    append_assoc old (call.Begin ∷ done) (row_calls from to k)
    ∙ ap (λ more. old ++ (call.Begin ∷ more))
    (sym (flat_map-append (row_calls from to) (range_with_len 0 k) (k ∷ []))
    ∙ ap (flat_map (row_calls from to)) (sym (range-more k)))

-- of the rounds that are left one is done, and the others are left
pub rounds-less : (old : List RowCall) (rows rounds done from to : ℕ) → done < rounds
    → (old ++ round_calls rows from to) ++ rounds_calls rows (rounds - (done + 1)) to from
    ≡ old ++ rounds_calls rows (rounds - done) from to
rounds-less old rows rounds done from to before =
    let later = rounds - (done + 1) in
    let same : suc later ≡ rounds - done = omega arith in
    append_assoc old (round_calls rows from to) (rounds_calls rows later to from)
    ∙ ap (λ k. old ++ rounds_calls rows k from to) same

-- ---- none is refused

-- two halves of so many rows, and the rows before and behind them, are there and apart
pub record AreHalves (objects n from to : ℕ) : Type 0 where
  pub from_in : from + n + 2 ≤ objects
  pub to_in : to + n + 2 ≤ objects
  pub apart : (from + n + 2 ≤ to) ⊎ (to + n + 2 ≤ from)

-- they are when their roles change
pub exchanged : (objects n from to : ℕ) → AreHalves objects n from to → AreHalves objects n to from
exchanged objects n from to halves = record {
  from_in = halves.to_in;
  to_in = halves.from_in;
  apart = ⊎_elim (λ before. inr before) (λ behind. inl behind) halves.apart;
}

intake-apart : (n from to object read : ℕ) (op : Intake)
    → to + 1 ≤ object → object < to + 1 + n → from ≤ read → read < from + n + 2
    → IsApart (to + 1) (to + 1 + n) from (from + n + 2)
    (shape_of row_meaning.own (intake_call object op read))
intake-apart n from to object read op a b c d = record {
  object = object;
  read = read;
  is = refl;
  from = a;
  to = b;
  from_read = c;
  to_read = d;
}

rows-apart : (n from to place count : ℕ) → place + count ≤ n
    → AllByRecursion (IsApart (to + 1) (to + 1 + n) from (from + n + 2))
    (map (shape_of row_meaning.own) (flat_map (row_calls from to) (range_with_len place count)))
rows-apart n from to place zero within = tt
rows-apart n from to place (suc count) within = (
  intake-apart n from to (to + place + 1) (from + place + 1) Take
      (omega arith) (omega arith) (omega arith) (omega arith),
  (
    intake-apart n from to (to + place + 1) (from + place) Add
        (omega arith) (omega arith) (omega arith) (omega arith),
    (
      intake-apart n from to (to + place + 1) (from + place + 2) Add
          (omega arith) (omega arith) (omega arith) (omega arith),
      rows-apart n from to (place + 1) count (omega arith),
    ),
  ),
)

length-rows : (from to place count : ℕ)
    → length (flat_map (row_calls from to) (range_with_len place count)) ≡ 3 * count
length-rows from to place zero = refl
length-rows from to place (suc count) = omega (arith, length-rows from to (place + 1) count)

-- a round comes to fewer than 2^21 calls
prepared-round : (objects n from to : ℕ) → n ≤ 524286 → AreHalves objects n from to
    → (calls : List Shape) (most : ℕ) → most + 2 ^ 21 ≤ 2 ^ 60
    → IsPrepared objects calls most
    → IsPrepared objects (calls ++ shapes_of row_meaning (round_calls n from to)) (most + 2 ^ 21)
prepared-round objects n from to few halves calls most room is =
    let shape = shape_of row_meaning.own in
    let rows = flat_map (row_calls from to) (range_with_len 0 n) in
    let more = map shape rows in
    let count : length more ≡ 3 * n = length-map rows shape ∙ length-rows from to 0 n in
    let parts : shapes_of row_meaning (round_calls n from to) ≡ begin ∷ more ++ end ∷ [] =
    ap (λ rest. begin ∷ rest) (map-append shape rows (call.End ∷ [])) in
    let apart : (to + 1 + n ≤ from) ⊎ (from + n + 2 ≤ to + 1) =
    ⊎_elim (λ before. inr (omega arith)) (λ behind. inl (omega arith)) halves.apart in
    let after = prepared-epoch objects (to + 1) (to + 1 + n) from (from + n + 2) (omega arith)
    (omega (arith, halves.to_in)) halves.from_in apart calls more most
    (omega (arith, count, few, room)) (rows-apart n from to 0 n (omega arith)) is in
    subst (λ list. IsPrepared objects (calls ++ list) (most + 2 ^ 21)) (sym parts)
    (record {
      sound = after.sound;
      closed = after.closed;
      count = after.count;
      few = omega (arith, after.few, count, few);
      writable = after.writable;
    })

prepared-rounds : (objects n : ℕ) → n ≤ 524286 → (rounds from to : ℕ)
    → AreHalves objects n from to
    → (calls : List Shape) (most : ℕ) → most + rounds * 2 ^ 21 ≤ 2 ^ 60
    → IsPrepared objects calls most
    → IsSound (calls ++ shapes_of row_meaning (rounds_calls n rounds from to))
prepared-rounds objects n few zero from to halves calls most room is =
    subst IsSound (sym (append-nil calls)) is.sound
prepared-rounds objects n few (suc rounds) from to halves calls most room is =
    let shape = shape_of row_meaning.own in
    let first = round_calls n from to in
    let rest = rounds_calls n rounds to from in
    let parts : calls ++ map shape (first ++ rest) ≡ (calls ++ map shape first) ++ map shape rest =
    ap (λ list. calls ++ list) (map-append shape first rest)
    ∙ sym (append_assoc calls (map shape first) (map shape rest)) in
    subst IsSound (sym parts)
    (prepared-rounds objects n few rounds to from (exchanged objects n from to halves)
    (calls ++ map shape first) (most + 2 ^ 21) (omega arith)
    (prepared-round objects n from to few halves calls most (omega arith) is))

pub length-made_rows : (rows : List (List ℕ)) → length (made_rows rows) ≡ 2 * length rows + 4
length-made_rows rows =
    let empty : List (List ℕ) = replicate (length rows + 3) [] in
    let long : length empty ≡ length rows + 3 = length-replicate (length rows + 3) [] in
    omega (arith, long, length-append rows empty)

-- the two halves of all rows
pub made-halves : (n : ℕ) → AreHalves (2 * n + 4) n 0 (n + 2)
made-halves n = record {
  from_in = omega arith;
  to_in = omega arith;
  apart = inl (omega arith);
}

pub grid-sound : (rounds : ℕ) (rows : List (List ℕ)) → rounds < 4294967296
    → length rows ≤ 524286 → IsSound (shapes_of row_meaning (grid_calls rounds rows))
grid-sound rounds rows short few =
    let n = length rows in
    let shape = shape_of row_meaning.own in
    let made = map make_row (made_rows rows) in
    let rest = rounds_calls n rounds 0 (n + 2) in
    let long : length (map shape made) ≡ 2 * n + 4 =
    length-map made shape ∙ length-map (made_rows rows) make_row ∙ length-made_rows rows in
    let each : AllByRecursion IsMake (map shape made) =
    all-map IsMake shape made (all-map _ make_row (made_rows rows)
    (all-any _ (made_rows rows) (λ row. record { by = Object; is = refl }))) in
    let is : IsPrepared (2 * n + 4) (map shape made) (2 * n + 4) =
    subst (λ k. IsPrepared k (map shape made) k) long
    (prepared-makes (map shape made) (omega (arith, long, few)) each) in
    subst IsSound (sym (map-append shape made rest))
    (prepared-rounds (2 * n + 4) n few rounds 0 (n + 2) (made-halves n) (map shape made)
    (2 * n + 4) (omega arith) is)
