-- To what an epoch holds an object, one call more at a time.
use Rattle.std.proofs.Common.{◌≡◌, ℕ, ◌<◌, Bool, true, false, ◌||◌, ◌&&◌, Option, Some, None, List, [], ◌∷◌, ◌++◌, fold, refl, ap, ◌⊎◌, ⊎_elim, inl, inr}
use Rattle.std.specs.Prelude.{if◌then◌else◌, ◌==◌}
use Rattle.std.specs.List.{list_any}
use Rattle.std.proofs.Math.Bool.{or-false}
use Rattle.std.proofs.lemmas.List.Sums.{fold-append}
use Rattle.std.proofs.lemmas.List.Folds.{list_any-append}
use Rattle.execution_definitions.specs.declared.serializer.Serializer.{Serializer}
use Rattle.execution_definitions.specs.Shapes.{Shape, make, make_fixed, begin, delegate, write, get, end, total, is_begin, reads}
use Rattle.execution_definitions.specs.Sets.{object_count, serializer_in, set_under}
use Rattle.execution_definitions.specs.Epochs.{since_step, since, isolating, this_epoch}
use Rattle.execution_definitions.specs.Held.{frees, later_set, last_set_among, last_set, held_set}
use Rattle.execution_definitions.proofs.shapes.EpochsLemmas.{IsWithin, since-push, this_epoch-within}
use Rattle.execution_definitions.proofs.shapes.SetsLemmas.{serializer_in-kept}

-- the set of the last delegation among calls, with one call more
pub last_set_among-push : (s : Option Serializer) (object : ℕ) (calls : List Shape) (call : Shape) →
    last_set_among s object (calls ++ call ∷ [])
    ≡ later_set s object (last_set_among s object calls) call
last_set_among-push s object calls call =
    fold-append (later_set s object) None calls (call ∷ [])

-- the set that a call leaves of an earlier one, which a write or a get takes away
abbrev pub kept_set : Option Serializer → ℕ → Option ℕ → Shape → Option ℕ
kept_set s object earlier call =
    if frees object call then None else later_set s object earlier call

-- the set that holds the object among calls, with one call more
held_among-push : (s : Option Serializer) (object : ℕ) (calls : List Shape) (call : Shape) →
    last_set_among s object (since (frees object) (calls ++ call ∷ []))
    ≡ kept_set s object (last_set_among s object (since (frees object) calls)) call
held_among-push s object calls call =
    rw (since-push (frees object) calls call) (by_test (frees object call)) where
      by_test : (test : Bool) →
          last_set_among s object
          (if test then [] else (since (frees object) calls ++ call ∷ [])) ≡
          (if test then None
          else later_set s object (last_set_among s object (since (frees object) calls)) call)
      by_test true = refl
      by_test false = last_set_among-push s object (since (frees object) calls) call

module _ (calls : List Shape) (call : Shape) (s : Option Serializer) (object : ℕ)
    (within : IsWithin call) where
  -- the set of the last delegation, under a given serializer
  pub last_set_under-push :
      last_set_among s object (this_epoch (calls ++ call ∷ [])) ≡
      (if isolating calls
      then later_set s object (last_set_among s object (this_epoch calls)) call else None)
  last_set_under-push = rw (this_epoch-within calls call within) (by_case (isolating calls)) where
    by_case : (open_ : Bool) →
        last_set_among s object (if open_ then (since is_begin calls ++ call ∷ []) else []) ≡
        (if open_
        then later_set s object
        (last_set_among s object (if open_ then (since is_begin calls) else [])) call else None)
    by_case true = last_set_among-push s object (since is_begin calls) call
    by_case false = refl

  -- and the set that holds the object
  pub held_set_under-push :
      last_set_among s object (since (frees object) (this_epoch (calls ++ call ∷ []))) ≡
      (if isolating calls
      then kept_set s object (last_set_among s object (since (frees object) (this_epoch calls))) call
      else None)
  held_set_under-push = rw (this_epoch-within calls call within) (by_case (isolating calls)) where
    by_case : (open_ : Bool) →
        last_set_among s object
        (since (frees object) (if open_ then (since is_begin calls ++ call ∷ []) else [])) ≡
        (if open_
        then kept_set s object
        (last_set_among s object
        (since (frees object) (if open_ then (since is_begin calls) else []))) call
        else None)
    by_case true = held_among-push s object (since is_begin calls) call
    by_case false = refl

-- the readers of an object
pub reads-push : (calls : List Shape) (call : Shape) (object : ℕ) → IsWithin call →
    list_any (reads object) (this_epoch (calls ++ call ∷ [])) ≡
    (list_any (reads object) (this_epoch calls) || (isolating calls && reads object call))
reads-push calls call object within =
    rw (this_epoch-within calls call within) (by_case (isolating calls)) where
      by_case : (open_ : Bool) →
          list_any (reads object) (if open_ then (since is_begin calls ++ call ∷ []) else []) ≡
          (list_any (reads object) (if open_ then (since is_begin calls) else []) ||
          (open_ && reads object call))
      by_case true = rw (list_any-append, or-false (reads object call)) refl
      by_case false = refl

module _ (calls : List Shape) (call : Shape) (object : ℕ) (within : IsWithin call)
    (inside : object < object_count calls) where
  -- the set of the object's last delegation
  pub last_set-push : last_set (calls ++ call ∷ []) object ≡
      (if isolating calls
      then later_set (serializer_in calls object) object (last_set calls object) call else None)
  last_set-push =
      rw (serializer_in-kept calls call object inside)
      (last_set_under-push calls call (serializer_in calls object) object within)

  -- the set that holds it
  pub held_set-push : held_set (calls ++ call ∷ []) object ≡
      (if isolating calls
      then kept_set (serializer_in calls object) object (held_set calls object) call else None)
  held_set-push =
      rw (serializer_in-kept calls call object inside)
      (held_set_under-push calls call (serializer_in calls object) object within)

-- a first set, which is none or the second
abbrev pub IsNoneOr : Option ℕ → Option ℕ → Type 0
IsNoneOr first second = (first ≡ None) ⊎ (first ≡ second)

-- one call more keeps that
later_none-or : (s : Option Serializer) (object : ℕ) (call : Shape) (earlier : Option ℕ) →
    IsNoneOr (later_set s object None call) (later_set s object earlier call)
later_none-or s object (make by) earlier = inl refl
later_none-or s object make_fixed earlier = inl refl
later_none-or s object begin earlier = inl refl
later_none-or s object (delegate o own reading) earlier = by_test (o == object) where
  by_test : (test : Bool) →
      IsNoneOr (if test then (Some (set_under s object own)) else None)
      (if test then (Some (set_under s object own)) else earlier)
  by_test true = inr refl
  by_test false = inl refl
later_none-or s object (write o) earlier = inl refl
later_none-or s object (get o) earlier = inl refl
later_none-or s object end earlier = inl refl
later_none-or s object total earlier = inl refl

later-or : (s : Option Serializer) (object : ℕ) (call : Shape) (first second : Option ℕ) →
    IsNoneOr first second →
    IsNoneOr (later_set s object first call) (later_set s object second call)
later-or s object call first second is = ⊎_elim
    (λ none. rw none (later_none-or s object call second))
    (λ same. inr (ap (λ set. later_set s object set call) same))
    is

-- among the calls after the last write or get, and among all
held_from : (s : Option Serializer) (object : ℕ) (calls recent : List Shape)
    (earlier : Option ℕ) → IsNoneOr (last_set_among s object recent) earlier →
    IsNoneOr (last_set_among s object (fold (since_step (frees object)) recent calls))
    (fold (later_set s object) earlier calls)
held_from s object [] recent earlier is = is
held_from s object (call ∷ calls) recent earlier is =
    held_from s object calls (since_step (frees object) recent call)
    (later_set s object earlier call) (by_test (frees object call)) where
      by_test : (test : Bool) →
          IsNoneOr (last_set_among s object (if test then [] else (recent ++ call ∷ [])))
          (later_set s object earlier call)
      by_test true = inl refl
      by_test false = rw (last_set_among-push s object recent call)
          (later-or s object call (last_set_among s object recent) earlier is)

-- an object is held to no set, or to that of its last delegation; the serializer is any
pub held_or_last : (s : Option Serializer) (object : ℕ) (calls : List Shape) →
    IsNoneOr (last_set_among s object (since (frees object) calls))
    (last_set_among s object calls)
held_or_last s object calls = held_from s object calls [] None (inl refl)
