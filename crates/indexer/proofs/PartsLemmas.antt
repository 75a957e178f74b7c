-- Parts of `build`, one behind the other: what may still be made, and what has been made.
use Rattle.std.proofs.Common.{◌≡◌, ℕ, zero, suc, ◌<◌, ◌≤◌, ⊎_elim, Some, None, List, [], ◌∷◌}
use Rattle.std.proofs.Common.{◌++◌, length, map, take, Result, Ok, Err, refl, sym, ap, ap₂, ◌∙◌, subst}
use Rattle.std.proofs.Common.{arith, append-nil, append_assoc}
use Rattle.std.specs.Prelude.{slice_get, option_and_then, IfOk, OnOk}
use Rattle.std.proofs.Math.Seq.{take-append_seam}
use Rattle.std.proofs.lemmas.Bool.{cases_lt}
use Rattle.std.proofs.lemmas.List.{map-append, take-append-le}
use Rattle.ss_base.specs.declared.text.OutOfMemory.{OutOfMemory}
use Rattle.execution_definitions.specs.declared.refusal.Refusal.{Refusal}
use Rattle.execution_definitions.specs.Shapes.{Shape}
use Rattle.execution_definitions.specs.Meanings.{shape_of}
use Rattle.execution_definitions.specs.Refusals.{breaks}
use Rattle.execution_definitions.specs.Soundness.{IsSound}
use Rattle.execution_definitions.proofs.shapes.LawsLemmas.{first_break_is_least}
use Rattle.execution_definitions.proofs.lists.ListLemmas.{slice_get-front, slice_get-append_seam}
use Rattle.delegation.specs.declared.call.Fault.{Fault}
use Rattle.delegation.specs.declared.call.Fault.TheVariants.{Refused}
use Rattle.delegation.specs.Runtimes.{IsAfter}
use Rattle.delegation.specs.Answers.{AnswersEachList}
use Rattle.indexer.specs.Items.{own_set, item_meaning}
use Rattle.indexer.specs.BuildCalls.{ItemCall}
use Rattle.indexer.specs.Parts.{ItemView, MayMake, HasMade}

-- ---- sound lists

-- behind a front, the next call isn't refused
allowed_next : (front : List Shape) (call : Shape) (rest : List Shape)
    → IsSound (front ++ call ∷ rest) → breaks front call ≡ None
allowed_next front call rest sound =
    sym (ap₂ (λ before next. option_and_then (breaks before) next)
    (take-append_seam front (call ∷ rest)) (slice_get-append_seam front call rest))
    ∙ (first_break_is_least (front ++ call ∷ rest)).none.0 sound (length front)

none_behind : {A : Type 0} (xs : List A) (i : ℕ) → length xs ≤ i → slice_get xs i ≡ None
none_behind [] i behind = refl
none_behind (x ∷ xs) zero behind = absurd (omega arith)
none_behind (x ∷ xs) (suc i) behind = none_behind xs i (omega arith)

sound_front : (front rest : List Shape) → IsSound (front ++ rest) → IsSound front
sound_front front rest sound =
    (first_break_is_least front).none.1 (λ place. ⊎_elim
    (λ (inside : place < length front).
    ap₂ (λ before next. option_and_then (breaks before) next)
    (sym (take-append-le place front rest (omega arith)))
    (sym (slice_get-front front rest place inside))
    ∙ (first_break_is_least (front ++ rest)).none.0 sound place)
    (λ (behind : length front ≤ place).
    ap (option_and_then (breaks (take place front))) (none_behind front place behind))
    (cases_lt place (length front)))

-- ---- what may still be made

-- a call as the partition rule sees it
abbrev pub shape : ItemCall → Shape
shape = shape_of own_set

pub may-front : (runtime : ItemView) (first second : List ItemCall)
    → MayMake runtime (first ++ second) → MayMake runtime first
may-front runtime first second may = record {
  calls = may.calls;
  after = may.after;
  sound = sound_front (map shape (may.calls ++ first)) (map shape second)
      (subst IsSound (ap (map shape) (sym (append_assoc may.calls first second))
      ∙ map-append shape (may.calls ++ first) second) may.sound);
}

pub may-rest : (old new : ItemView) (first second : List ItemCall)
    → MayMake old (first ++ second) → HasMade old new first → MayMake new second
may-rest old new first second may made = record {
  calls = may.calls ++ first;
  after = made may.calls may.after;
  sound = subst (λ calls. IsSound (map shape calls)) (sym (append_assoc may.calls first second))
      may.sound;
}

-- the next of many, where the first of them have been made
pub may-next : (start now : ItemView) (all first next rest : List ItemCall)
    → all ≡ first ++ (next ++ rest) → MayMake start all → HasMade start now first
    → MayMake now next
may-next start now all first next rest is may made =
    may-front now next rest
    (may-rest start now first (next ++ rest) (subst (MayMake start) is may) made)

-- ---- what has been made

pub made-none : (runtime : ItemView) → HasMade runtime runtime []
made-none runtime calls after =
    subst (IsAfter item_meaning runtime) (sym (append-nil calls)) after

pub made-next : (start now new : ItemView) (all first next : List ItemCall)
    → all ≡ first ++ next → HasMade start now first → HasMade now new next
    → HasMade start new all
made-next start now new all first next is one other calls after =
    subst (IsAfter item_meaning new)
    (append_assoc calls first next ∙ ap (λ more. calls ++ more) (sym is))
    (other (calls ++ first) (one calls after))

-- ---- one call

module _ {T : Type 0} (old new : ItemView) (call : ItemCall) (answer : Result T Fault)
    (follows : AnswersEachList item_meaning old new call answer) where
  -- a call that may be made isn't refused
  pub not_refused : MayMake old (call ∷ []) → (refusal : Refusal)
      → answer ≡ Err (Refused refusal) → ⊥
  not_refused may refusal is =
      let told = (subst (AnswersEachList item_meaning old new call) is follows)
      may.calls may.after in
      let fits = allowed_next (map shape may.calls) (shape call) []
      (subst IsSound (map-append shape may.calls (call ∷ [])) may.sound) in
      let clash : None ≡ Some refusal = sym fits ∙ told.0 in
      absurd cc

  -- after Ok it has been made
  pub made-one : (value : T) → answer ≡ Ok value → HasMade old new (call ∷ [])
  made-one value is calls after =
      ((subst (AnswersEachList item_meaning old new call) is follows) calls after).1

  pub made-on-ok : (result : Result T OutOfMemory) (P : Type 0)
      → IfOk result (λ value. answer ≡ Ok value) → (HasMade old new (call ∷ []) → P)
      → OnOk result P
  made-on-ok (Ok value) P is then = then (made-one value is)
  made-on-ok (Err error) P is then = tt
