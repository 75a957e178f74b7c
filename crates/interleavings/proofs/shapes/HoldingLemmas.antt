-- Which calls of a sound list wait for a delegation, and which are apart from it?
--
-- A delegation holds its object until the program context waits for its lane. So of the calls that
-- follow, one that touches the object, or what the operation reads, waits for the lane too, or
-- stands behind one of the program context that does.
use Rattle.std.proofs.Common.{◌≡◌, ℕ, ◌<◌, ◌≢◌, Bool, true, false, ◌||◌, ◌&&◌, not, cond, Option, Some, None, List, [], ◌∷◌, ◌++◌, refl, sym, ap, ◌∙◌, subst, arith, ⊎_elim, inl, inr, append-nil, append_assoc}
use Rattle.std.specs.Prelude.{◌==◌, ◌⊎◌, ⊤, if◌then◌else◌, is_none}
use Rattle.std.specs.List.{list_any}
use Rattle.std.proofs.lemmas.Bool.{eqb-true}
use Rattle.std.proofs.lemmas.Bool.Decides.{nat_tests}
use Rattle.execution_definitions.specs.declared.refusal.Refusal.{Refusal}
use Rattle.execution_definitions.specs.Shapes.{Shape, make, make_fixed, begin, delegate, write, get, end, total, is_begin, reads}
use Rattle.execution_definitions.specs.Sets.{object_count, serializer_in, set_of, lane_of_set}
use Rattle.execution_definitions.specs.Epochs.{since, isolating, this_epoch}
use Rattle.execution_definitions.specs.Held.{is_fixed, frees, later_set, last_set_among, last_set, held_set, is_read_shared}
use Rattle.execution_definitions.specs.Refusals.{breaks, refuse_if, if_reading, unknown_object, two_sets_if, two_sets, self_read, private_if, private_object}
use Rattle.execution_definitions.specs.Soundness.{first_break_after, place_or}
use Rattle.interleavings.specs.Merges.{set_since_begin, has_lane, waits_for}
use Rattle.execution_definitions.proofs.shapes.EpochsLemmas.{IsWithin, isolating-within}
use Rattle.execution_definitions.proofs.shapes.SetsLemmas.{object_count_grows, serializer_in-kept}
use Rattle.execution_definitions.proofs.shapes.HeldLemmas.{kept_set, last_set-push, held_set-push, reads-push}
use Rattle.execution_definitions.proofs.shapes.RefusalsLemmas.{first_of-none, known}

-- ---- calls of which none is refused

-- none of some calls that follow these is refused
abbrev pub IsSoundAfter : List Shape → List Shape → Type 0
IsSoundAfter before [] = ⊤
IsSoundAfter before (call ∷ rest) =
    (breaks before call ≡ None) × IsSoundAfter (before ++ call ∷ []) rest

no_place : (cause : Option Refusal) (place : ℕ) (later : Option ℕ) →
    place_or cause place later ≡ None → (cause ≡ None) × (later ≡ None)
no_place None place later none = (refl, none)
no_place (Some refusal) place later none = absurd cc

-- where there is no first break, none is
pub sound_after : (before calls : List Shape) → first_break_after before calls ≡ None →
    IsSoundAfter before calls
sound_after before [] none = tt
sound_after before (call ∷ rest) none =
    let parts = no_place _ _ _ none in
    (parts.0, sound_after (before ++ call ∷ []) rest parts.1)

-- a refusal that does not come
unrefused : (test : Bool) (refusal : Refusal) → refuse_if test refusal ≡ None → test ≡ false
unrefused true refusal none = absurd cc
unrefused false refusal none = refl

unrefused-not : (test : Bool) (refusal : Refusal) → refuse_if (not test) refusal ≡ None →
    test ≡ true
unrefused-not true refusal none = refl
unrefused-not false refusal none = absurd cc

-- what an accepted delegation tells
pub record Accepted (before : List Shape) (o own : ℕ) (reading : Option ℕ) : Type 0 where
  pub known : o < object_count before
  pub reading_known : if_reading reading (unknown_object before) ≡ None
  pub is_open : isolating before ≡ true
  pub writable : is_fixed before o ≡ false
  pub one_set : two_sets before o (set_of before o own) ≡ None
  pub unshared : is_read_shared before o ≡ false
  pub other : if_reading reading (self_read o) ≡ None
  pub free : if_reading reading (private_object before) ≡ None

pub accepted : (before : List Shape) (o own : ℕ) (reading : Option ℕ) →
    breaks before (delegate o own reading) ≡ None → Accepted before o own reading
accepted before o own reading none =
    let a = first_of-none _ _ none in
    let b = first_of-none _ _ a.1 in
    let c = first_of-none _ _ b.1 in
    let d = first_of-none _ _ c.1 in
    let e = first_of-none _ _ d.1 in
    let f = first_of-none _ _ e.1 in
    let g = first_of-none _ _ f.1 in
    let h = first_of-none _ _ g.1 in
    record {
      known = known before o a.0;
      reading_known = b.0;
      is_open = unrefused-not _ _ c.0;
      writable = unrefused _ _ d.0;
      one_set = e.0;
      unshared = unrefused _ _ f.0;
      other = g.0;
      free = h.0;
    }

-- what an accepted write tells
pub record AcceptedWrite (before : List Shape) (o : ℕ) : Type 0 where
  pub known : o < object_count before
  pub writable : is_fixed before o ≡ false
  pub unshared : is_read_shared before o ≡ false

pub accepted_write : (before : List Shape) (o : ℕ) → breaks before (write o) ≡ None →
    AcceptedWrite before o
accepted_write before o none =
    let a = first_of-none _ _ none in
    let b = first_of-none _ _ a.1 in
    let c = first_of-none _ _ b.1 in
    record {
      known = known before o a.0;
      writable = unrefused _ _ b.0;
      unshared = unrefused _ _ c.0;
    }

-- a total is accepted in aggregation alone
pub accepted_total : (before : List Shape) → breaks before total ≡ None → isolating before ≡ false
accepted_total before none = unrefused _ _ (first_of-none _ _ none).0

-- ---- an object that is held

-- in an open epoch, the set since the last begin is that of the epoch
open_epoch : (open_ : Bool) (calls : List Shape) → open_ ≡ true →
    calls ≡ (if open_ then calls else [])
open_epoch true calls is = refl
open_epoch false calls is = absurd cc

pub set_since_begin-open : (before : List Shape) (o : ℕ) → isolating before ≡ true →
    set_since_begin before o ≡ last_set before o
set_since_begin-open before o is_open =
    ap (last_set_among (serializer_in before o) o)
    (open_epoch (isolating before) (since is_begin before) is_open)

if_open : (open_ : Bool) (later : Option ℕ) → open_ ≡ true →
    (if open_ then later else None) ≡ later
if_open true later is = refl
if_open false later is = absurd cc

unfreed : (free : Bool) (later : Option ℕ) → free ≡ false →
    (if free then None else later) ≡ later
unfreed true later is = absurd cc
unfreed false later is = refl

-- what is read is known, and read-only or read in this epoch
abbrev pub IsShared : List Shape → Option ℕ → Type 0
IsShared before None = ⊤
IsShared before (Some read) =
    (read < object_count before)
    × ((is_fixed before read || list_any (reads read) (this_epoch before)) ≡ true)

-- since a delegation of this epoch to the object nothing freed it, and what was read is shared
pub record Holds (before : List Shape) (o : ℕ) (reading : Option ℕ) (set : ℕ) : Type 0 where
  pub is_open : isolating before ≡ true
  pub known : o < object_count before
  pub writable : is_fixed before o ≡ false
  pub held : held_set before o ≡ Some set
  pub last : last_set before o ≡ Some set
  pub shared : IsShared before reading

or_more : (a b c : Bool) → (a || b) ≡ true → (a || (b || c)) ≡ true
or_more true b c either = refl
or_more false true c either = refl
or_more false false c either = absurd cc

or_last : (a b c : Bool) → c ≡ true → (a || (b || c)) ≡ true
or_last true b c is = refl
or_last false true c is = refl
or_last false false c is = is

shared_kept : (before : List Shape) (call : Shape) (reading : Option ℕ) → IsWithin call →
    IsShared before reading → IsShared (before ++ call ∷ []) reading
shared_kept before call None within shared = tt
shared_kept before call (Some read) within shared =
    let more = object_count_grows before call in
    let inside : read < object_count before = shared.0 in (
      omega arith,
      rw (
        serializer_in-kept before call read inside,
        reads-push before call read within,
      )
          (or_more (is_fixed before read) (list_any (reads read) (this_epoch before))
          (isolating before && reads read call) shared.1),
    )

-- such a call leaves the object held
holds-push : (before : List Shape) (call : Shape) (o : ℕ) (reading : Option ℕ) (set : ℕ) →
    Holds before o reading set → IsWithin call → frees o call ≡ false →
    later_set (serializer_in before o) o (Some set) call ≡ Some set →
    Holds (before ++ call ∷ []) o reading set
holds-push before call o reading set holds within kept stays =
    let more = object_count_grows before call in
    let inside : o < object_count before = holds.known in
    let later = later_set (serializer_in before o) o in
    record {
      is_open = isolating-within before call within ∙ holds.is_open;
      known = omega arith;
      writable = ap is_none (serializer_in-kept before call o inside) ∙ holds.writable;
      held = held_set-push before call o within inside
          ∙ if_open (isolating before) (kept_set (serializer_in before o) o (held_set before o) call)
          holds.is_open
          ∙ unfreed (frees o call) (later (held_set before o) call) kept
          ∙ ap (λ s. later s call) holds.held ∙ stays;
      last = last_set-push before call o within inside
          ∙ if_open (isolating before) (later (last_set before o) call) holds.is_open
          ∙ ap (λ s. later s call) holds.last ∙ stays;
      shared = shared_kept before call reading within holds.shared;
    }

within_delegate : (o own : ℕ) (reading : Option ℕ) → IsWithin (delegate o own reading)
within_delegate o own reading = record { no_begin = refl; no_end = refl }

same_number : (o : ℕ) → (o == o) ≡ true
same_number o = grind (arith, nat_tests)

started_shared : (before : List Shape) (o own : ℕ) (reading : Option ℕ) →
    if_reading reading (unknown_object before) ≡ None → isolating before ≡ true →
    IsShared (before ++ delegate o own reading ∷ []) reading
started_shared before o own None none is_open = tt
started_shared before o own (Some read) none is_open =
    let call = delegate o own (Some read) in
    let more = object_count_grows before call in
    let inside : read < object_count before = known before read none in
    let at : (isolating before && reads read call) ≡ true = rw (is_open, same_number read) refl in (
      omega arith,
      rw (reads-push before call read (within_delegate o own (Some read)))
          (or_last (is_fixed (before ++ call ∷ []) read)
          (list_any (reads read) (this_epoch before)) (isolating before && reads read call) at),
    )

-- an accepted delegation holds its object
pub holds_from : (before : List Shape) (o own : ℕ) (reading : Option ℕ) →
    breaks before (delegate o own reading) ≡ None →
    Holds (before ++ delegate o own reading ∷ []) o reading (set_of before o own)
holds_from before o own reading none =
    let told = accepted before o own reading none in
    let call = delegate o own reading in
    let within = within_delegate o own reading in
    let more = object_count_grows before call in
    let inside : o < object_count before = told.known in
    let later = later_set (serializer_in before o) o in
    let same = same_number o in
    let stays : (s : Option ℕ) → later s call ≡ Some (set_of before o own) = λ s. rw same refl in
    record {
      is_open = isolating-within before call within ∙ told.is_open;
      known = omega arith;
      writable = ap is_none (serializer_in-kept before call o inside) ∙ told.writable;
      held = held_set-push before call o within inside
          ∙ if_open (isolating before) (kept_set (serializer_in before o) o (held_set before o) call)
          told.is_open
          ∙ stays (held_set before o);
      last = last_set-push before call o within inside
          ∙ if_open (isolating before) (later (last_set before o) call) told.is_open
          ∙ stays (last_set before o);
      shared = started_shared before o own reading told.reading_known told.is_open;
    }

-- ---- calls that are apart

-- what is read, if anything, is another object
abbrev pub IsOtherNumber : ℕ → Option ℕ → Type 0
IsOtherNumber o None = ⊤
IsOtherNumber o (Some read) = o ≢ read

-- a call that can change places with a delegation
abbrev pub IsShapeApart : ℕ → Option ℕ → Shape → Type 0
IsShapeApart o reading (delegate x own r) =
    (o ≢ x) × IsOtherNumber o r × IsOtherNumber x reading
IsShapeApart o reading (write x) = (o ≢ x) × IsOtherNumber x reading
IsShapeApart o reading _ = ⊤

abbrev pub is_delegate : Shape → Bool
is_delegate (delegate o own reading) = true
is_delegate _ = false

clash : (fixed any : Bool) → fixed ≡ false → (not fixed && any) ≡ false → (fixed || any) ≡ true →
    ⊥
clash true any is none either = cc
clash false true is none either = cc
clash false false is none either = cc

-- what the epoch shares is no object to write
other_than_shared : (before : List Shape) (x : ℕ) (reading : Option ℕ) →
    IsShared before reading → is_fixed before x ≡ false → is_read_shared before x ≡ false →
    IsOtherNumber x reading
other_than_shared before x None shared writable unshared = tt
other_than_shared before x (Some read) shared writable unshared = λ same.
    clash (is_fixed before x) (list_any (reads x) (this_epoch before)) writable unshared
    (subst (λ y. (is_fixed before y || list_any (reads y) (this_epoch before)) ≡ true) (sym same)
    shared.1)

private_clash : (fixed : Bool) (o : ℕ) (held : Option ℕ) (set : ℕ) → fixed ≡ false →
    held ≡ Some set → cond fixed None (private_if o held) ≡ None → ⊥
private_clash true o held set writable is none = cc
private_clash false o None set writable is none = cc
private_clash false o (Some s) set writable is none = cc

-- what the epoch holds is not read
pub unread_when_held : (before : List Shape) (o set : ℕ) (r : Option ℕ) →
    is_fixed before o ≡ false → held_set before o ≡ Some set →
    if_reading r (private_object before) ≡ None → IsOtherNumber o r
unread_when_held before o set None writable held free = tt
unread_when_held before o set (Some read) writable held free = λ same.
    private_clash (is_fixed before o) o (held_set before o) set writable held
    (subst (λ y. private_object before y ≡ None) (sym same) free)

some-injective : (a b : ℕ) → Some a ≡ Some b → a ≡ b
some-injective a b same = cc

one_set-same : (o : ℕ) (held : Option ℕ) (first second : ℕ) → held ≡ Some first →
    two_sets_if o held second ≡ None → (first == second) ≡ true
one_set-same o None first second is none = absurd cc
one_set-same o (Some s) first second is none =
    subst (λ x. (x == second) ≡ true) (some-injective s first is)
    (unrefused-not (s == second) _ none)

-- an accepted delegation to an object that is held goes to the set that holds it
pub held_to_its_set : (before : List Shape) (o own : ℕ) (set : ℕ) → held_set before o ≡ Some set →
    two_sets before o (set_of before o own) ≡ None → set ≡ set_of before o own
held_to_its_set before o own set held one =
    eqb-true set (set_of before o own)
    (one_set-same o (held_set before o) set (set_of before o own) held one)

closed : (open_ : Bool) (refusal : Refusal) → open_ ≡ true → refuse_if open_ refusal ≡ None → ⊥
closed true refusal is none = cc
closed false refusal is none = cc

-- one call more: the program context's that waits, or one that leaves the object held, and waits
-- or is apart
abbrev pub IsJudged : ℕ → List Shape → ℕ → Option ℕ → ℕ → Shape → Type 0
IsJudged n before o reading set call =
    ((is_delegate call ≡ false)
    × (waits_for n (lane_of_set set n) before (Some call) ≡ true))
    ⊎ (Holds (before ++ call ∷ []) o reading set
    × ((waits_for n (lane_of_set set n) before (Some call) ≡ true)
    ⊎ IsShapeApart o reading call))

module _ (n : ℕ) (before : List Shape) (o : ℕ) (reading : Option ℕ) (set : ℕ)
    (holds : Holds before o reading set) where
  has_its_lane : has_lane n (lane_of_set set n) (set_since_begin before o) ≡ true
  has_its_lane =
      ap (has_lane n (lane_of_set set n)) (set_since_begin-open before o holds.is_open ∙ holds.last)
      ∙ same_number (lane_of_set set n)

  has_lane_at : (x : ℕ) → (x == o) ≡ true →
      has_lane n (lane_of_set set n) (set_since_begin before x) ≡ true
  has_lane_at x same =
      subst (λ y. has_lane n (lane_of_set set n) (set_since_begin before y) ≡ true)
      (sym (eqb-true x o same)) has_its_lane

  elsewhere : (x : ℕ) → (x == o) ≡ false → o ≢ x
  elsewhere x other = grind (arith, nat_tests)

  judge_write : (x : ℕ) (test : Bool) → (x == o) ≡ test → breaks before (write x) ≡ None →
      IsJudged n before o reading set (write x)
  judge_write x true is none = inl (refl, has_lane_at x is)
  judge_write x false is none =
      let told = accepted_write before x none in
      inr (
        holds-push before (write x) o reading set holds
            (record { no_begin = refl; no_end = refl }) is refl,
        inr (
          elsewhere x is,
          other_than_shared before x reading holds.shared told.writable told.unshared,
        ),
      )

  judge_get : (x : ℕ) (test : Bool) → (x == o) ≡ test →
      IsJudged n before o reading set (get x)
  judge_get x true is = inl (refl, has_lane_at x is)
  judge_get x false is =
      inr (
        holds-push before (get x) o reading set holds
            (record { no_begin = refl; no_end = refl }) is refl,
        inr tt,
      )

  judge_delegate : (x own : ℕ) (r : Option ℕ) (test : Bool) → (x == o) ≡ test →
      breaks before (delegate x own r) ≡ None →
      IsJudged n before o reading set (delegate x own r)
  judge_delegate x own r true is none =
      let told = accepted before x own r none in
      let at : x ≡ o = eqb-true x o is in
      let same : set ≡ set_of before o own =
      held_to_its_set before o own set holds.held
      (subst (λ y. two_sets before y (set_of before y own) ≡ None) at told.one_set) in
      let same_x : set ≡ set_of before x own =
      same ∙ ap (λ y. set_of before y own) (sym at) in
      inr (
        holds-push before (delegate x own r) o reading set holds
            (within_delegate x own r) refl (rw is (ap Some (sym same))),
        inl (subst (λ s. (lane_of_set s n == lane_of_set set n) ≡ true) same_x
            (same_number (lane_of_set set n))),
      )
  judge_delegate x own r false is none =
      let told = accepted before x own r none in
      inr (
        holds-push before (delegate x own r) o reading set holds
            (within_delegate x own r) refl (rw is refl),
        inr (
          elsewhere x is,
          unread_when_held before o set r holds.writable holds.held told.free,
          other_than_shared before x reading holds.shared told.writable told.unshared,
        ),
      )

  -- what the next accepted call does to an object that is held
  pub judge : (call : Shape) → breaks before call ≡ None → IsJudged n before o reading set call
  judge (make by) none =
      inr (
        holds-push before (make by) o reading set holds
            (record { no_begin = refl; no_end = refl }) refl refl,
        inr tt,
      )
  judge make_fixed none =
      inr (
        holds-push before make_fixed o reading set holds
            (record { no_begin = refl; no_end = refl }) refl refl,
        inr tt,
      )
  judge begin none =
      let a = first_of-none _ _ none in absurd (closed (isolating before) _ holds.is_open a.0)
  judge (delegate x own r) none = judge_delegate x own r (x == o) refl none
  judge (write x) none = judge_write x (x == o) refl none
  judge (get x) none = judge_get x (x == o) refl
  judge end none = inl (refl, refl)
  judge total none =
      let a = first_of-none _ _ none in absurd (closed (isolating before) _ holds.is_open a.0)

-- ---- a call somewhere behind a delegation

-- a call of the program context among these waits for the lane
pub record HasBarrier (n lane : ℕ) (before calls : List Shape) : Type 0 where
  pub front : List Shape
  pub call : Shape
  pub rest : List Shape
  pub is : calls ≡ front ++ call ∷ rest
  pub no_delegate : is_delegate call ≡ false
  pub waits : waits_for n lane (before ++ front) (Some call) ≡ true

abbrev pub IsFound : ℕ → List Shape → ℕ → Option ℕ → ℕ → List Shape → Shape → Type 0
IsFound n before o reading set between call =
    HasBarrier n (lane_of_set set n) before between
    ⊎ ((waits_for n (lane_of_set set n) (before ++ between) (Some call) ≡ true)
    ⊎ IsShapeApart o reading call)

barrier_behind : (n lane : ℕ) (before : List Shape) (first : Shape) (between : List Shape) →
    HasBarrier n lane (before ++ first ∷ []) between → HasBarrier n lane before (first ∷ between)
barrier_behind n lane before first between b = record {
  front = first ∷ b.front;
  call = b.call;
  rest = b.rest;
  is = ap (λ calls. first ∷ calls) b.is;
  no_delegate = b.no_delegate;
  waits = subst (λ (c : List Shape). waits_for n lane c (Some b.call) ≡ true)
      (append_assoc before (first ∷ []) b.front) b.waits;
}

nothing_more : (n lane : ℕ) (before : List Shape) (call : Shape) →
    waits_for n lane before (Some call) ≡ true →
    waits_for n lane (before ++ []) (Some call) ≡ true
nothing_more n lane before call waits =
    subst (λ (c : List Shape). waits_for n lane c (Some call) ≡ true) (sym (append-nil before)) waits

regrouped : (n lane : ℕ) (before : List Shape) (first : Shape) (between : List Shape)
    (call : Shape) → waits_for n lane ((before ++ first ∷ []) ++ between) (Some call) ≡ true →
    waits_for n lane (before ++ first ∷ between) (Some call) ≡ true
regrouped n lane before first between call waits =
    subst (λ (c : List Shape). waits_for n lane c (Some call) ≡ true)
    (append_assoc before (first ∷ []) between) waits

-- a later call waits, or comes after one of the program context that waits, or is apart
pub find_apart : (n : ℕ) (o : ℕ) (reading : Option ℕ) (set : ℕ) (before between : List Shape)
    (call : Shape) (rest : List Shape) → Holds before o reading set →
    IsSoundAfter before (between ++ call ∷ rest) → IsFound n before o reading set between call
find_apart n o reading set before [] call rest holds sound =
    ⊎_elim (λ waits. inr (inl (nothing_more n (lane_of_set set n) before _ waits.1)))
    (λ stays. inr (⊎_elim (λ waits. inl (nothing_more n (lane_of_set set n) before call waits))
    (λ apart. inr apart) stays.1))
    (judge n before o reading set holds call sound.0)
find_apart n o reading set before (first ∷ between) call rest holds sound =
    ⊎_elim (λ waits. inl (record {
      front = [];
      call = first;
      rest = between;
      is = refl;
      no_delegate = waits.0;
      waits = nothing_more n (lane_of_set set n) before _ waits.1;
    }))
    (λ stays. ⊎_elim (λ b. inl (barrier_behind n (lane_of_set set n) before first between b))
    (λ later. inr (⊎_elim
    (λ waits. inl (regrouped n (lane_of_set set n) before first between call waits))
    (λ apart. inr apart) later))
    (find_apart n o reading set (before ++ first ∷ []) between call rest stays.0 sound.1))
    (judge n before o reading set holds first sound.0)
