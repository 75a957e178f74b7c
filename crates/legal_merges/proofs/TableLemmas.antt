-- What is kept of each call, call by call.
use Rattle.std.proofs.Common.{◌≡◌, ℕ, Bool, true, false, ◌+◌, ◌<◌, ◌≤◌, Some, List, [], ◌∷◌, ◌++◌, length, take, refl, sym, ap, ◌∙◌, subst, arith, length-append}
use Rattle.std.specs.Prelude.{slice_get, ◌==◌}
use Rattle.std.proofs.lemmas.Bool.{eqb-true}
use Rattle.std.proofs.lemmas.Bool.Decides.{nat_tests}
use Rattle.std.specs.Option.{option_map}
use Rattle.std.proofs.Math.Seq.{take-append_seam}
use Rattle.std.proofs.lemmas.List.{take_all}
use Rattle.std.proofs.lemmas.Option.{slice_get_within, slice_get-map}
use Rattle.execution_definitions.specs.declared.refusal.Refusal.{Refusal}
use Rattle.execution_definitions.specs.declared.call.Call.{Call}
use Rattle.execution_definitions.specs.Shapes.{Shape}
use Rattle.execution_definitions.specs.Refusals.{breaks}
use Rattle.execution_definitions.specs.Soundness.{first_break, first_refusal}
use Rattle.execution_definitions.specs.Meanings.{Meaning, shape_of, shapes_of}
use Rattle.execution_definitions.proofs.lists.ListLemmas.{slice_get-front, slice_get-append_seam, take-next}
use Rattle.execution_definitions.proofs.shapes.SoundnessLemmas.{first_break-at, first_refusal-at}
use Rattle.partition_check.specs.Marked.{Marked}
use Rattle.partition_check.specs.Represents.{Represents, RepresentsWith}
use Rattle.legal_merges.specs.declared.step.Step.{Step}
use Rattle.legal_merges.specs.Merging.{IsBrokenAt}
use Rattle.legal_merges.specs.kept.Turns.{IsStepAfter, IsTable}
use Rattle.legal_merges.specs.kept.Judging.{StepsAfter}
use Rattle.merge_laws.proofs.PlaceLemmas.{split_at}

-- the shape of the call at a place
pub shape_of_item : {C O R : Type 0} (m : Meaning C O R) (calls : List (Call C O)) (index : ℕ)
    (call : Call C O) → slice_get calls index ≡ Some call →
    slice_get (shapes_of m calls) index ≡ Some (shape_of m.own call)
shape_of_item m calls index call at =
    slice_get-map (shape_of m.own) calls index ∙ ap (option_map (shape_of m.own)) at

module _ (n : ℕ) (calls : List Shape) where
  -- the marks represent the calls so far, and a step is kept of each
  pub record AreStepsTo (marked : Marked) (steps : List Step) (index : ℕ) : Type 0 where
    pub represents : Represents marked (take index calls)
    pub count : length steps ≡ index
    pub each :
        (place : ℕ) (step : Step) → slice_get steps place ≡ Some step →
        IsStepAfter n (take place calls) (slice_get calls place) step

  pub steps-none : (marked : Marked) (steps : List Step) → Represents marked [] → steps ≡ [] →
      AreStepsTo marked steps 0
  steps-none marked steps represents none = record {
    represents = represents;
    count = ap length none;
    each = λ place step is. absurd (nothing place step (ap (λ l. slice_get l place) (sym none) ∙ is));
  } where
    nothing : (place : ℕ) (step : Step) → slice_get [] place ≡ Some step → ⊥
    nothing place step is = let inside = slice_get_within [] place step is in absurd (omega arith)

  pub steps-push : (marked new : Marked) (steps : List Step) (index : ℕ) (call : Shape)
      (step : Step) → AreStepsTo marked steps index → slice_get calls index ≡ Some call →
      StepsAfter n marked call step → RepresentsWith marked new call →
      AreStepsTo new (steps ++ step ∷ []) (index + 1)
  steps-push marked new steps index call step so_far at kept represents = record {
    represents =
        subst (λ l. Represents new l) (sym (take-next calls index call at))
        (represents (take index calls) so_far.represents);
    count = let counted = so_far.count in
        length-append steps (step ∷ []) ∙ omega arith;
    each = λ place other is. by place other is (place == length steps) refl;
  } where
    by : (place : ℕ) (other : Step) → slice_get (steps ++ step ∷ []) place ≡ Some other → (t : Bool) →
        (place == length steps) ≡ t → IsStepAfter n (take place calls) (slice_get calls place) other
    by place other is true e =
        let same : place ≡ index = eqb-true place (length steps) e ∙ so_far.count in
        let value : step ≡ other =
        same_step step other (sym (slice_get-append_seam steps step [])
        ∙ ap (slice_get (steps ++ step ∷ [])) (sym (eqb-true place (length steps) e)) ∙ is) in
        subst (λ k. IsStepAfter n (take k calls) (slice_get calls k) other) (sym same)
        (subst (λ c. IsStepAfter n (take index calls) c other) (sym at)
        (subst (λ s. IsStepAfter n (take index calls) (Some call) s) value
        (kept (take index calls) so_far.represents))) where
          same_step : (a b : Step) → Some a ≡ Some b → a ≡ b
          same_step a b same = cc
    by place other is false e =
        let room = slice_get_within (steps ++ step ∷ []) place other is in
        let long = length-append steps (step ∷ []) in
        let inside : place < length steps = grind (arith, nat_tests) in
        so_far.each place other (sym (slice_get-front steps (step ∷ []) place inside) ∙ is)

  -- all calls are done
  pub steps-all : (marked : Marked) (steps : List Step) (index : ℕ) → 1 ≤ n →
      length calls ≤ index → index ≤ length calls → AreStepsTo marked steps index →
      IsTable n calls steps
  steps-all marked steps index some past within so_far = record {
    some = some;
    sound = (subst (λ l. Represents marked l) (take_all index calls past) so_far.represents).sound;
    count = let counted = so_far.count in omega arith;
    each = so_far.each;
  }

  -- the next call is refused
  pub steps-broken : (marked : Marked) (steps : List Step) (index : ℕ) (call : Shape)
      (refusal : Refusal) → AreStepsTo marked steps index → slice_get calls index ≡ Some call →
      breaks (take index calls) call ≡ Some refusal → IsBrokenAt calls (length steps) refusal
  steps-broken marked steps index call refusal so_far at broken =
      let split = split_at calls index (slice_get_within calls index call at) in
      let front : take index calls ≡ split.front =
      ap (λ k. take k calls) (sym split.count) ∙ ap (take (length split.front)) split.is
      ∙ take-append_seam split.front (split.here ∷ split.rest) in
      let here : call ≡ split.here =
      same_shape call split.here (sym at ∙ ap (slice_get calls) (sym split.count)
      ∙ ap (λ l. slice_get l (length split.front)) split.is
      ∙ slice_get-append_seam split.front split.here split.rest) in
      let sound = subst (λ l. Represents marked l) front so_far.represents in
      let refused : breaks split.front split.here ≡ Some refusal =
      subst (λ c. breaks split.front c ≡ Some refusal) here
      (subst (λ l. breaks l call ≡ Some refusal) front broken) in
      record {
        first = ap first_break split.is
            ∙ first_break-at split.front split.here split.rest refusal sound.sound refused
            ∙ ap Some (split.count ∙ sym so_far.count);
        refused = ap first_refusal split.is
            ∙ first_refusal-at split.front split.here split.rest refusal sound.sound refused;
      } where
        same_shape : (a b : Shape) → Some a ≡ Some b → a ≡ b
        same_shape a b same = cc
