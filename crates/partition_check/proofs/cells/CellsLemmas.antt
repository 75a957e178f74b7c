-- Cells, and the marks that they stand for.
use Rattle.std.proofs.Common.{◌≡◌, ℕ, ◌+◌, ◌<◌, ◌≤◌, Bool, true, false, Option, Some, None, List, [], ◌∷◌, length, get_or, map, ◌^◌, ◌++◌, length-append, refl, ap, arith, zero, suc}
use Rattle.std.specs.Prelude.{◌==◌, slice_get, slice_set, All, is_some}
use Rattle.std.proofs.Math.Bool.{and-false}
use Rattle.std.proofs.lemmas.Bool.Decides.{nat_tests}
use Rattle.std.proofs.lemmas.List.{length-map}
use Rattle.std.proofs.lemmas.Option.{slice_get-map, slice_get_read}
use Rattle.std.proofs.lemmas.List.Elements.{All-head, All-tail, All-push}
use Rattle.execution_definitions.specs.declared.serializer.By.{By}
use Rattle.execution_definitions.specs.declared.serializer.By.TheVariants.{Object, Sequence, Own}
use Rattle.execution_definitions.specs.declared.serializer.Serializer.{Serializer}
use Rattle.partition_check.specs.declared.cell.Cell.{Cell}
use Rattle.partition_check.specs.declared.mark.Mark.{Mark}
use Rattle.partition_check.specs.Cells.{mark_in, IsStamped}
use Rattle.partition_check.specs.Kept.{PartsFit}
use Rattle.partition_check.specs.MarkedAfter.{cleared_mark, changed_at, fresh_mark, sequence_objects_making}

-- no stamp is that of the epoch to come
not_yet : (epochs stamp : ℕ) → stamp ≤ epochs → (stamp == epochs + 1) ≡ false
not_yet epochs stamp stamped = grind (arith, nat_tests)

-- a cell's mark is cleared by a new epoch
mark_in-begin : (epochs : ℕ) (is_open : Bool) (cell : Cell) → IsStamped epochs cell →
    mark_in (epochs + 1) true cell ≡ cleared_mark (mark_in epochs is_open cell)
mark_in-begin epochs is_open cell stamped =
    rw (not_yet epochs cell.epoch stamped, and-false (is_some cell.by)) refl

-- a new epoch clears every mark
pub map-begin : (epochs : ℕ) (is_open : Bool) (cells : List Cell) → All (IsStamped epochs) cells →
    map (mark_in (epochs + 1) true) cells ≡ map cleared_mark (map (mark_in epochs is_open) cells)
map-begin epochs is_open [] stamped = refl
map-begin epochs is_open (cell ∷ cells) stamped =
    let first = mark_in-begin epochs is_open cell
    (All-head (IsStamped epochs) cell cells stamped) in
    let rest = map-begin epochs is_open cells (All-tail (IsStamped epochs) cell cells stamped) in
    cc

-- and so does its end
pub map-end : (epochs : ℕ) (is_open : Bool) (cells : List Cell) →
    map (mark_in epochs false) cells ≡ map cleared_mark (map (mark_in epochs is_open) cells)
map-end epochs is_open [] = refl
map-end epochs is_open (cell ∷ cells) =
    rw (and-false (is_some cell.by), map-end epochs is_open cells) refl

-- a number that has a mark has a cell
pub within_cells : (epochs : ℕ) (is_open : Bool) (cells : List Cell) (marks : List Mark) (i : ℕ) →
    map (mark_in epochs is_open) cells ≡ marks → i < length marks → i < length cells
within_cells epochs is_open cells marks i same inside =
    let as_many = length-map cells (mark_in epochs is_open) in
    let n = ap length same in
    omega arith

-- the mark of a cell in the open epoch
pub mark_of_cell : (epochs : ℕ) (is_open : Bool) (cells : List Cell) (marks : List Mark) (i : ℕ)
    (cell : Cell) → map (mark_in epochs is_open) cells ≡ marks → is_open ≡ true →
    i < length marks → cell ≡ get_or cells i cell →
    slice_get marks i ≡ Some (mark_in epochs true cell)
mark_of_cell epochs is_open cells marks i cell same opened inside at =
    let known = within_cells epochs is_open cells marks i same inside in
    rw (
      ← same,
      opened,
      slice_get-map (mark_in epochs true) cells i,
      slice_get_read cells (length cells) i cell refl known at,
    ) refl

-- a cell written at a place changes the mark at that place
pub map-changed_at : (epochs : ℕ) (is_open : Bool) (cells : List Cell) (i : ℕ) (old new : Cell)
    (change : Mark → Mark) → i < length cells → old ≡ get_or cells i old →
    mark_in epochs is_open new ≡ change (mark_in epochs is_open old) →
    map (mark_in epochs is_open) (slice_set cells i new)
    ≡ changed_at i change (map (mark_in epochs is_open) cells)
map-changed_at epochs is_open [] i old new change inside at is = absurd (omega arith)
map-changed_at epochs is_open (cell ∷ cells) zero old new change inside at is =
    rw (is, at) refl
map-changed_at epochs is_open (cell ∷ cells) (suc i) old new change inside at is =
    rw (map-changed_at epochs is_open cells i old new change (omega arith) at is) refl

-- a cell that was written in no epoch is clear in every one
pub mark_in-fresh : (epochs : ℕ) (is_open : Bool) (cell : Cell) (serializer : Option Serializer) →
    (is_open ≡ true → 1 ≤ epochs) →
    ((e : ℕ) (b : Bool) → 0 < e → mark_in e b cell ≡ fresh_mark serializer) →
    ((e : ℕ) → mark_in e false cell ≡ fresh_mark serializer) →
    mark_in epochs is_open cell ≡ fresh_mark serializer
mark_in-fresh epochs true cell serializer first opened closed =
    opened epochs true (let e = first refl in omega arith)
mark_in-fresh epochs false cell serializer first opened closed = closed epochs

-- what holds of the parts of marks holds with a new cell and one call more

-- a call makes one object by sequence at most
sequence_objects_making-le : (by : Option By) (count : ℕ) →
    sequence_objects_making by count ≤ count + 1
sequence_objects_making-le None count = omega arith
sequence_objects_making-le (Some Object) count = omega arith
sequence_objects_making-le (Some Sequence) count = omega arith
sequence_objects_making-le (Some Own) count = omega arith

-- a push keeps what holds, where both limits leave room
pub PartsFit-push : (cells more : List Cell) (calls epochs : ℕ) (is_open : Bool)
    (sequence_objects : ℕ) (by : Option By) (cell : Cell) →
    more ≡ cells ++ cell ∷ [] → IsStamped epochs cell → length cells < 1048576 → calls < 2 ^ 60 →
    PartsFit cells calls epochs is_open sequence_objects →
    PartsFit more (calls + 1) epochs is_open (sequence_objects_making by sequence_objects)
PartsFit-push cells more calls epochs is_open sequence_objects by cell pushed stamped
    object_room call_room kept =
    let longer : length more ≡ length cells + 1 = rw (pushed, length-append) refl in
    let counted = sequence_objects_making-le by sequence_objects in
    record {
      stamped = rw pushed (All-push (IsStamped epochs) cells cell kept.stamped stamped);
      begun = omega (arith, kept.begun);
      call_limit = omega arith;
      first = kept.first;
      object_limit = omega arith;
      sequences = omega (arith, kept.sequences);
    }
