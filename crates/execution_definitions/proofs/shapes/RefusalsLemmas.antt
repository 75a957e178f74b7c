-- What a row of refusals tells of a call that isn't refused.
use Rattle.std.proofs.Common.{◌≡◌, ℕ, ◌<◌, ◌≤◌, Bool, true, false, ◌∙◌, ⊎_elim, cond, Option, Some, None, List, [], ◌∷◌, ◌++◌, refl, arith}
use Rattle.std.specs.Prelude.{if◌then◌else◌, ◌==◌, nat_le}
use Rattle.std.specs.List.{list_any}
use Rattle.std.proofs.lemmas.Bool.Decides.{nat_tests}
use Rattle.std.proofs.lemmas.List.Folds.{list_any-append}
use Rattle.ss_base.specs.Ids.{object_id}
use Rattle.execution_definitions.specs.declared.refusal.Refusal.{Refusal}
use Rattle.execution_definitions.specs.declared.refusal.Refusal.TheVariants.{UnknownObject}
use Rattle.execution_definitions.specs.declared.serializer.Serializer.{Serializer}
use Rattle.execution_definitions.specs.Shapes.{Shape, make, make_fixed, begin, delegate, write, get, end, total, is_begin, reads}
use Rattle.execution_definitions.specs.Sets.{object_count}
use Rattle.execution_definitions.specs.Epochs.{since, isolating, this_epoch}
use Rattle.execution_definitions.specs.Held.{frees, later_set, last_set_among}
use Rattle.execution_definitions.specs.Refusals.{breaks, first_of, if_reading, unknown_object}
use Rattle.execution_definitions.specs.Soundness.{IsSound}
use Rattle.execution_definitions.proofs.shapes.SoundnessLemmas.{kept_when_sound}
use Rattle.execution_definitions.proofs.shapes.EpochsLemmas.{since-push}
use Rattle.execution_definitions.proofs.shapes.SetsLemmas.{object_count_grows}
use Rattle.execution_definitions.proofs.shapes.HeldLemmas.{last_set_among-push, held_or_last}

-- where a row refuses nothing, none of its refusals holds
pub first_of-none : (first later : Option Refusal) → first_of first later ≡ None →
    (first ≡ None) × (later ≡ None)
first_of-none None later none = (refl, none)
first_of-none (Some refusal) later none = absurd cc

-- a number is known where it is refused as unknown no more
pub known : (calls : List Shape) (object : ℕ) → unknown_object calls object ≡ None →
    object < object_count calls
known calls object none = by_test (nat_le (object_count calls) object) refl none where
  by_test : (test : Bool) → nat_le (object_count calls) object ≡ test →
      cond test (Some (UnknownObject (object_id object))) None ≡ None → object < object_count calls
  by_test true is none = absurd cc
  by_test false is none = grind (arith, nat_tests)

-- since the last begin nothing was delegated to an object, and nothing read it
record IsUntouched (calls : List Shape) (object : ℕ) : Type 0 where
  no_set : (s : Option Serializer) → last_set_among s object (since is_begin calls) ≡ None
  no_read : list_any (reads object) (since is_begin calls) ≡ false

-- a call leaves an object alone that it neither names nor reads
untouched-push : (calls : List Shape) (call : Shape) (object : ℕ) → is_begin call ≡ false →
    ((s : Option Serializer) → later_set s object None call ≡ None) → reads object call ≡ false →
    IsUntouched calls object → IsUntouched (calls ++ call ∷ []) object
untouched-push calls call object no_begin no_set no_read before = record {
  no_set = λ s.
      let none = no_set s in
      let old = before.no_set s in
      rw (
        since-push is_begin calls call,
        no_begin,
        last_set_among-push s object (since is_begin calls) call,
        old,
      ) none;
  no_read =
      let old = before.no_read in
      rw (since-push is_begin calls call, no_begin, list_any-append, old, no_read) refl;
}

-- nothing was delegated to a number that no object has, and nothing read it
IsUntouchedPast : List Shape → Type 0
IsUntouchedPast calls = (object : ℕ) → object_count calls ≤ object → IsUntouched calls object

other_number : (a b : ℕ) → a < b → (a == b) ≡ false
other_number a b below = grind (arith, nat_tests)

-- an accepted delegation names objects alone
delegate_elsewhere : (calls : List Shape) (o own : ℕ) (reading : Option ℕ) (object : ℕ) →
    o < object_count calls → if_reading reading (unknown_object calls) ≡ None →
    object_count calls ≤ object →
    IsUntouched calls object → IsUntouched (calls ++ delegate o own reading ∷ []) object
delegate_elsewhere calls o own reading object inside reading_known past before =
    let other : (o == object) ≡ false = other_number o object (omega arith) in
    untouched-push calls (delegate o own reading) object refl (λ s. rw other refl)
    (unread reading reading_known) before where
      unread : (r : Option ℕ) → if_reading r (unknown_object calls) ≡ None →
          reads object (delegate o own r) ≡ false
      unread None none = refl
      unread (Some read) none = let inside = known calls read none in
          other_number read object (omega arith)

-- each accepted call keeps this
untouched_more : (calls : List Shape) (call : Shape) → IsUntouchedPast calls →
    breaks calls call ≡ None →
    IsUntouchedPast (calls ++ call ∷ [])
unfolding IsUntouchedPast
untouched_more calls (make by) before ok = λ object past.
    let grown = object_count_grows calls (make by) in
    untouched-push calls (make by) object refl (λ s. refl) refl (before object (omega arith))
untouched_more calls make_fixed before ok = λ object past.
    let grown = object_count_grows calls make_fixed in
    untouched-push calls make_fixed object refl (λ s. refl) refl (before object (omega arith))
untouched_more calls begin before ok = λ object past. record {
  no_set = λ s. rw (since-push is_begin calls begin) refl;
  no_read = rw (since-push is_begin calls begin) refl;
}
untouched_more calls (delegate o own reading) before ok = λ object past.
    let grown = object_count_grows calls (delegate o own reading) in
    let below : object_count calls ≤ object = omega arith in
    let fits = first_of-none _ _ ok in
    delegate_elsewhere calls o own reading object (known calls o fits.0)
    (first_of-none _ _ fits.1).0 below (before object below)
untouched_more calls (write o) before ok = λ object past.
    let grown = object_count_grows calls (write o) in
    untouched-push calls (write o) object refl (λ s. refl) refl (before object (omega arith))
untouched_more calls (get o) before ok = λ object past.
    let grown = object_count_grows calls (get o) in
    untouched-push calls (get o) object refl (λ s. refl) refl (before object (omega arith))
untouched_more calls end before ok = λ object past.
    let grown = object_count_grows calls end in
    untouched-push calls end object refl (λ s. refl) refl (before object (omega arith))
untouched_more calls total before ok = λ object past.
    let grown = object_count_grows calls total in
    untouched-push calls total object refl (λ s. refl) refl (before object (omega arith))

-- so it holds after every sound list
untouched_past : (calls : List Shape) → IsSound calls → IsUntouchedPast calls
unfolding IsUntouchedPast
untouched_past calls sound =
    kept_when_sound IsUntouchedPast untouched_more
    (λ object past. record { no_set = λ s. refl; no_read = refl }) calls sound

-- what holds of the calls since the last begin, and of none, holds of the epoch's
this_epoch_of : {A : Type 0} (open_ : Bool) (xs : List Shape) (f : List Shape → A) (a : A) →
    f xs ≡ a → f [] ≡ a → f (if open_ then xs else []) ≡ a
this_epoch_of true xs f a some none = some
this_epoch_of false xs f a some none = none

-- in a sound list nothing was delegated to a number that no object has
pub last_set-past : (calls : List Shape) → IsSound calls → (object : ℕ) →
    object_count calls ≤ object →
    (s : Option Serializer) → last_set_among s object (this_epoch calls) ≡ None
unfolding IsUntouchedPast
last_set-past calls sound object past s =
    this_epoch_of (isolating calls) (since is_begin calls) (last_set_among s object) None
    ((untouched_past calls sound object past).no_set s) refl

-- so it isn't held
pub held_set-past : (calls : List Shape) → IsSound calls → (object : ℕ) →
    object_count calls ≤ object →
    (s : Option Serializer) → last_set_among s object (since (frees object) (this_epoch calls)) ≡ None
held_set-past calls sound object past s = ⊎_elim
    (λ none. none)
    (λ last. last ∙ last_set-past calls sound object past s)
    (held_or_last s object (this_epoch calls))

-- and nothing read it
pub reads-past : (calls : List Shape) → IsSound calls → (object : ℕ) → object_count calls ≤ object →
    list_any (reads object) (this_epoch calls) ≡ false
unfolding IsUntouchedPast
reads-past calls sound object past =
    this_epoch_of (isolating calls) (since is_begin calls) (list_any (reads object)) false
    (untouched_past calls sound object past).no_read refl
