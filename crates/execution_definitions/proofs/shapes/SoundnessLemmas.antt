-- Sound lists, one call more at a time.
use Rattle.std.proofs.Common.{◌≡◌, ℕ, Option, Some, None, List, [], ◌∷◌, ◌++◌, length, refl, subst, append_assoc, append-nil}
use Rattle.std.proofs.Math.Seq.{take-append_seam}
use Rattle.execution_definitions.specs.declared.refusal.Refusal.{Refusal}
use Rattle.execution_definitions.specs.Shapes.{Shape}
use Rattle.execution_definitions.specs.Refusals.{breaks}
use Rattle.execution_definitions.specs.Soundness.{IsSound, first_break, first_break_after, first_refusal, place_or}
use Rattle.execution_definitions.proofs.lists.ListLemmas.{slice_get-append_seam}

-- what follows where neither a place nor a later one is there
place_or-none : {A : Type 0} (cause : Option Refusal) (place : ℕ) (later : Option ℕ) →
    place_or cause place later ≡ None → (cause ≡ None → later ≡ None → A) → A
place_or-none None place later none then = then refl none
place_or-none (Some refusal) place later none then = absurd cc

place_or_both : (cause : Option Refusal) (place : ℕ) (later : Option ℕ) →
    cause ≡ None → later ≡ None → place_or cause place later ≡ None
place_or_both cause place later none no_later = rw (none, no_later) refl

-- a list stays without a break, with what went before it
first_break_after-push : (before calls : List Shape) (call : Shape) →
    first_break_after before calls ≡ None → breaks (before ++ calls) call ≡ None →
    first_break_after before (calls ++ call ∷ []) ≡ None
first_break_after-push before [] call sound ok =
    place_or_both _ _ _ (rw append-nil at ok) refl
first_break_after-push before (first ∷ rest) call sound ok =
    place_or-none _ _ _ sound (λ fits no_later.
    place_or_both _ _ _ fits (first_break_after-push (before ++ first ∷ []) rest call no_later
    (rw append_assoc ok)))

-- a sound list stays sound under a call that nothing refuses
pub IsSound-push : (calls : List Shape) (call : Shape) →
    IsSound calls → breaks calls call ≡ None → IsSound (calls ++ call ∷ [])
IsSound-push calls call sound ok = first_break_after-push [] calls call sound ok

-- what each accepted call keeps holds after more of them
kept_after : (P : List Shape → Type 0) (before calls : List Shape) →
    ((list : List Shape) (call : Shape) → P list → breaks list call ≡ None →
    P (list ++ call ∷ [])) →
    P before → first_break_after before calls ≡ None → P (before ++ calls)
kept_after P before [] step start sound = rw append-nil start
kept_after P before (first ∷ rest) step start sound =
    place_or-none _ _ _ sound (λ fits no_later.
    subst P (append_assoc before (first ∷ []) rest)
    (kept_after P (before ++ first ∷ []) rest step (step before first start fits) no_later))

-- what each call keeps that nothing refuses holds after every sound list
pub kept_when_sound : (P : List Shape → Type 0) →
    ((list : List Shape) (call : Shape) → P list → breaks list call ≡ None →
    P (list ++ call ∷ [])) →
    P [] → (calls : List Shape) → IsSound calls → P calls
kept_when_sound P step start calls sound = kept_after P [] calls step start sound

-- a refused call behind a sound front is the first break

first_break_after-at : (before calls : List Shape) (call : Shape) (rest : List Shape)
    (refusal : Refusal) → first_break_after before calls ≡ None →
    breaks (before ++ calls) call ≡ Some refusal →
    first_break_after before (calls ++ call ∷ rest) ≡ Some (length (before ++ calls))
first_break_after-at before [] call rest refusal sound broken =
    rw (append-nil before, rw append-nil at broken) refl
first_break_after-at before (first ∷ later) call rest refusal sound broken =
    place_or-none (breaks before first) _ _ sound (λ fits no_later.
    rw fits (rw append_assoc at (first_break_after-at (before ++ first ∷ []) later call rest
    refusal no_later (rw append_assoc broken))))

pub first_break-at : (calls : List Shape) (call : Shape) (rest : List Shape) (refusal : Refusal) →
    IsSound calls → breaks calls call ≡ Some refusal →
    first_break (calls ++ call ∷ rest) ≡ Some (length calls)
first_break-at calls call rest refusal sound broken =
    first_break_after-at [] calls call rest refusal sound broken

-- and its refusal is the first
pub first_refusal-at : (calls : List Shape) (call : Shape) (rest : List Shape)
    (refusal : Refusal) → IsSound calls → breaks calls call ≡ Some refusal →
    first_refusal (calls ++ call ∷ rest) ≡ Some refusal
first_refusal-at calls call rest refusal sound broken =
    rw (
      first_break-at calls call rest refusal sound broken,
      take-append_seam calls (call ∷ rest),
      slice_get-append_seam calls call rest,
    ) broken

-- a sound list has no refusal
pub first_refusal-sound : (calls : List Shape) → IsSound calls → first_refusal calls ≡ None
first_refusal-sound calls sound = rw sound refl
