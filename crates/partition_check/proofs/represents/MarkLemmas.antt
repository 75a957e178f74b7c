-- What a mark says of its object, one call more at a time.
use Rattle.std.proofs.Common.{eq-eqb, ◌≡◌, ℕ, ◌<◌, ◌≤◌, Bool, true, false, not, ◌&&◌, ◌||◌, Option, Some, None, List, [], ◌∷◌, ◌++◌, refl, sym, ap, ◌∙◌, arith}
use Rattle.std.proofs.Math.Bool.{or-true, or-false, and-false}
use Rattle.std.specs.Prelude.{◌==◌, if◌then◌else◌, is_some, is_none}
use Rattle.std.specs.List.{list_any}
use Rattle.std.specs.Option.{option_map}
use Rattle.ss_base.specs.Ids.{set_id}
use Rattle.execution_definitions.specs.declared.serializer.Serializer.{Serializer}
use Rattle.execution_definitions.specs.Shapes.{Shape, delegate, is_begin, makes_object, reads}
use Rattle.execution_definitions.specs.Sets.{object_count, serializer_in}
use Rattle.execution_definitions.specs.Epochs.{since, isolating, this_epoch}
use Rattle.execution_definitions.specs.Held.{is_fixed, frees, later_set, last_set_among, last_set, held_set, is_read_shared}
use Rattle.execution_definitions.specs.Soundness.{IsSound}
use Rattle.execution_definitions.proofs.shapes.EpochsLemmas.{IsWithin}
use Rattle.execution_definitions.proofs.shapes.SetsLemmas.{serializer_in-kept}
use Rattle.execution_definitions.proofs.shapes.HeldLemmas.{last_set_under-push, held_set_under-push, last_set-push, held_set-push, reads-push}
use Rattle.execution_definitions.proofs.shapes.RefusalsLemmas.{last_set-past, held_set-past, reads-past}
use Rattle.partition_check.specs.declared.mark.Mark.{Mark}
use Rattle.partition_check.specs.MarkedAfter.{fresh_mark, cleared_mark, with_set, with_reader, freed_mark}
use Rattle.partition_check.specs.Represents.{IsMarkOf}

-- the call delegates nothing to the object, and reads it nowhere
pub record IsApart (call : Shape) (object : ℕ) : Type 0 where
  pub no_set :
      (s : Option Serializer) (earlier : Option ℕ) → later_set s object earlier call ≡ earlier
  pub no_read : reads object call ≡ false

-- what an epoch's calls come to is that of no calls where none is open
where_open : (open_ : Bool) (xs : List Shape) (f : List Shape → Option ℕ) → f [] ≡ None →
    (if open_ then f (if open_ then xs else []) else None) ≡ f (if open_ then xs else [])
where_open true xs f none = refl
where_open false xs f none = sym none

module _ (calls : List Shape) (call : Shape) (object : ℕ) (within : IsWithin call)
    (apart : IsApart call object) where
  -- such a call leaves the set of the last delegation
  last_set-apart : (s : Option Serializer) →
      last_set_among s object (this_epoch (calls ++ call ∷ []))
      ≡ last_set_among s object (this_epoch calls)
  last_set-apart s =
      let none = apart.no_set s in
      last_set_under-push calls call s object within
      ∙ rw (none (last_set_among s object (this_epoch calls)))
      (where_open (isolating calls) (since is_begin calls) (last_set_among s object) refl)

  -- and the set that holds the object, where it is no write or get of it
  held_set-apart : (s : Option Serializer) → frees object call ≡ false →
      last_set_among s object (since (frees object) (this_epoch (calls ++ call ∷ [])))
      ≡ last_set_among s object (since (frees object) (this_epoch calls))
  held_set-apart s unfreed =
      let none = apart.no_set s in
      held_set_under-push calls call s object within
      ∙ rw (
        unfreed,
        none (last_set_among s object (since (frees object) (this_epoch calls))),
      )
      (where_open (isolating calls) (since is_begin calls)
      (λ list. last_set_among s object (since (frees object) list)) refl)

  -- a write or a get of the object leaves nothing that holds it
  held_set-freed : (s : Option Serializer) → frees object call ≡ true →
      last_set_among s object (since (frees object) (this_epoch (calls ++ call ∷ []))) ≡ None
  held_set-freed s freed =
      held_set_under-push calls call s object within
      ∙ rw freed (by_case (isolating calls)) where
        by_case : (open_ : Bool) → (let none : Option ℕ = None in if open_ then none else none) ≡ None
        by_case true = refl
        by_case false = refl

  -- it adds no reader
  reads-apart : list_any (reads object) (this_epoch (calls ++ call ∷ []))
      ≡ list_any (reads object) (this_epoch calls)
  reads-apart =
      let none = apart.no_read in
      rw (
        reads-push calls call object within,
        none,
        and-false (isolating calls),
        or-false (list_any (reads object) (this_epoch calls)),
      ) refl

  module _ (mark : Mark) (known : object < object_count calls) (is : IsMarkOf calls object mark)
    where
      kept_serializer : serializer_in (calls ++ call ∷ []) object ≡ serializer_in calls object
      kept_serializer = serializer_in-kept calls call object known

      kept_last : mark.set ≡ option_map set_id (last_set (calls ++ call ∷ []) object)
      kept_last = rw (kept_serializer, last_set-apart (serializer_in calls object)) is.set

      kept_shared : mark.shared ≡ is_read_shared (calls ++ call ∷ []) object
      kept_shared = rw (kept_serializer, reads-apart) is.shared

      -- a call that leaves the epoch and the object alone leaves the mark right
      pub IsMarkOf-apart : frees object call ≡ false → IsMarkOf (calls ++ call ∷ []) object mark
      IsMarkOf-apart unfreed = record {
        serializer = is.serializer ∙ sym kept_serializer;
        set = kept_last;
        is_held = rw (kept_serializer, held_set-apart (serializer_in calls object) unfreed) is.is_held;
        shared = kept_shared;
      }

      -- a write or a get of the object frees it
      pub IsMarkOf-freed : frees object call ≡ true →
          IsMarkOf (calls ++ call ∷ []) object (freed_mark mark)
      IsMarkOf-freed freed = record {
        serializer = is.serializer ∙ sym kept_serializer;
        set = kept_last;
        is_held = rw (held_set-freed (serializer_in (calls ++ call ∷ []) object) freed) refl;
        shared = kept_shared;
      }

-- where an epoch begins or ends, a cleared mark is right
pub IsMarkOf-cleared : (calls : List Shape) (call : Shape) (object : ℕ) (mark : Mark) →
    object < object_count calls →
    this_epoch (calls ++ call ∷ []) ≡ [] → IsMarkOf calls object mark →
    IsMarkOf (calls ++ call ∷ []) object (cleared_mark mark)
IsMarkOf-cleared calls call object mark known empty is = record {
  serializer = rw (serializer_in-kept calls call object known) is.serializer;
  set = rw empty refl;
  is_held = rw empty refl;
  shared = rw (empty, and-false (not (is_fixed (calls ++ call ∷ []) object))) refl;
}

-- the mark of a new object is right: nothing was delegated to it, and nothing read it
pub IsMarkOf-fresh : (calls : List Shape) (call : Shape) → IsSound calls →
    makes_object call ≡ true → IsWithin call →
    ((object : ℕ) → IsApart call object) → ((object : ℕ) → frees object call ≡ false) →
    (s : Option Serializer) → s ≡ serializer_in (calls ++ call ∷ []) (object_count calls) →
    IsMarkOf (calls ++ call ∷ []) (object_count calls) (fresh_mark s)
IsMarkOf-fresh calls call sound made within apart unfreed s is =
    let object = object_count calls in
    let new = serializer_in (calls ++ call ∷ []) object in
    let past : object_count calls ≤ object_count calls = omega arith in
    record {
      serializer = is;
      set = rw (
        last_set-apart calls call object within (apart object) new,
        last_set-past calls sound object past new,
      ) refl;
      is_held = rw (
        held_set-apart calls call object within (apart object) new (unfreed object),
        held_set-past calls sound object past new,
      ) refl;
      shared = sym
          (ap (λ b. not (is_fixed (calls ++ call ∷ []) object) && b)
          (reads-apart calls call object within (apart object)
          ∙ reads-past calls sound object past)
          ∙ and-false (not (is_fixed (calls ++ call ∷ []) object)));
    }

-- a delegation, first as it holds its object and then as it is read

-- a mark between the two: what holds it is that of the longer list, what reads it that of the
-- shorter
pub record IsHalfway (calls : List Shape) (call : Shape) (object : ℕ) (mark : Mark) : Type 0 where
  pub known : object < object_count calls
  pub serializer : mark.serializer ≡ serializer_in calls object
  pub set : mark.set ≡ option_map set_id (last_set (calls ++ call ∷ []) object)
  pub is_held : mark.is_held ≡ is_some (held_set (calls ++ call ∷ []) object)
  pub shared : mark.shared ≡ is_read_shared calls object

module _ (calls : List Shape) (object own : ℕ) (reading : Option ℕ)
    (opened : isolating calls ≡ true) where
  within : IsWithin (delegate object own reading)
  within = record { no_begin = refl; no_end = refl }

  last_set-delegate : (x : ℕ) → x < object_count calls →
      last_set (calls ++ delegate object own reading ∷ []) x
      ≡ later_set (serializer_in calls x) x (last_set calls x) (delegate object own reading)
  last_set-delegate x known =
      rw (last_set-push calls (delegate object own reading) x within known, opened) refl

  held_set-delegate : (x : ℕ) → x < object_count calls →
      held_set (calls ++ delegate object own reading ∷ []) x
      ≡ later_set (serializer_in calls x) x (held_set calls x) (delegate object own reading)
  held_set-delegate x known =
      rw (held_set-push calls (delegate object own reading) x within known, opened) refl

  -- the object that is delegated to
  pub halfway_to : (mark : Mark) → object < object_count calls → IsMarkOf calls object mark →
      IsHalfway calls (delegate object own reading) object (with_set object own mark)
  halfway_to mark known is =
      let same : (object == object) ≡ true = eq-eqb object object refl in
      record {
        known = known;
        serializer = is.serializer;
        set = rw (last_set-delegate object known, same, is.serializer) refl;
        is_held = rw (held_set-delegate object known, same) refl;
        shared = is.shared;
      }

  -- every other object
  pub halfway_elsewhere : (x : ℕ) (mark : Mark) → x < object_count calls → (object == x) ≡ false →
      IsMarkOf calls x mark → IsHalfway calls (delegate object own reading) x mark
  halfway_elsewhere x mark known other is = record {
    known = known;
    serializer = is.serializer;
    set = rw (last_set-delegate x known, other) is.set;
    is_held = rw (held_set-delegate x known, other) is.is_held;
    shared = is.shared;
  }

  -- who reads an object after the delegation
  is_read_shared-delegate : (x : ℕ) → x < object_count calls →
      is_read_shared (calls ++ delegate object own reading ∷ []) x ≡
      (not (is_fixed calls x) &&
      (list_any (reads x) (this_epoch calls) || reads x (delegate object own reading)))
  is_read_shared-delegate x known =
      rw (
        serializer_in-kept calls (delegate object own reading) x known,
        reads-push calls (delegate object own reading) x within,
        opened,
      ) refl

  -- where the operation reads the object
  pub whole_read : (x : ℕ) (mark : Mark) → reads x (delegate object own reading) ≡ true →
      IsHalfway calls (delegate object own reading) x mark →
      IsMarkOf (calls ++ delegate object own reading ∷ []) x (with_reader mark)
  whole_read x mark read half = record {
    serializer = rw (serializer_in-kept calls (delegate object own reading) x half.known)
        half.serializer;
    set = half.set;
    is_held = half.is_held;
    shared = rw (
      is_read_shared-delegate x half.known,
      read,
      or-true (list_any (reads x) (this_epoch calls)),
      half.serializer,
    )
        (writable (serializer_in calls x));
  } where
    writable : (s : Option Serializer) → is_some s ≡ (not (is_none s) && true)
    writable None = refl
    writable (Some s) = refl

  -- where it doesn't
  pub whole_unread : (x : ℕ) (mark : Mark) → reads x (delegate object own reading) ≡ false →
      IsHalfway calls (delegate object own reading) x mark →
      IsMarkOf (calls ++ delegate object own reading ∷ []) x mark
  whole_unread x mark unread half = record {
    serializer = rw (serializer_in-kept calls (delegate object own reading) x half.known)
        half.serializer;
    set = half.set;
    is_held = half.is_held;
    shared = rw (
      is_read_shared-delegate x half.known,
      unread,
      or-false (list_any (reads x) (this_epoch calls)),
    ) half.shared;
  }
