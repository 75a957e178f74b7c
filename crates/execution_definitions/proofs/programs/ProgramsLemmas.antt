-- What a list of calls is answered: whole, or up to a call that is refused behind a sound front.
use Rattle.std.proofs.Common.{◌≡◌, Some, None, List, ◌∷◌, ◌++◌, length, map, sym, ap, ◌∙◌}
use Rattle.std.proofs.lemmas.List.{map-append, length-map}
use Rattle.std.proofs.Math.Seq.{take-append_seam}
use Rattle.execution_definitions.specs.declared.refusal.Refusal.{Refusal}
use Rattle.execution_definitions.specs.declared.call.Call.{Call}
use Rattle.execution_definitions.specs.declared.call.Reply.{Reply}
use Rattle.execution_definitions.specs.Refusals.{breaks}
use Rattle.execution_definitions.specs.Soundness.{IsSound, first_break, first_refusal}
use Rattle.execution_definitions.specs.Meanings.{Meaning, shape_of, shapes_of}
use Rattle.execution_definitions.specs.Sequential.{sequential_replies}
use Rattle.execution_definitions.specs.Programs.{front_before, sound_front, HasAnswered}
use Rattle.execution_definitions.proofs.shapes.SoundnessLemmas.{first_break-at, first_refusal-at, first_refusal-sound}

module _ {C O R : Type 0} (m : Meaning C O R) where
  -- a sound list is its own front
  pub sound_front-sound : (calls : List (Call C O)) → IsSound (shapes_of m calls) →
      sound_front m calls ≡ calls
  sound_front-sound calls sound = ap (λ place. front_before place calls) sound

  -- a whole sound list
  pub answered-sound : (calls : List (Call C O)) (told : List (Reply C R)) →
      IsSound (shapes_of m calls) → map Some told ≡ sequential_replies m calls →
      HasAnswered m calls told None
  answered-sound calls told sound same = record {
    replies = same ∙ ap (sequential_replies m) (sym (sound_front-sound calls sound));
    stopped = sym (first_refusal-sound (shapes_of m calls) sound);
  }

  module _ (calls : List (Call C O)) (call : Call C O) (rest : List (Call C O))
      (refusal : Refusal) (sound : IsSound (shapes_of m calls))
      (broken : breaks (shapes_of m calls) (shape_of m.own call) ≡ Some refusal) where
    shapes_of-at : shapes_of m (calls ++ call ∷ rest)
        ≡ shapes_of m calls ++ shape_of m.own call ∷ shapes_of m rest
    shapes_of-at = map-append (shape_of m.own) calls (call ∷ rest)

    -- the front before the call that is refused
    pub sound_front-at : sound_front m (calls ++ call ∷ rest) ≡ calls
    sound_front-at =
        let place : first_break (shapes_of m (calls ++ call ∷ rest)) ≡ Some (length calls) =
        ap first_break shapes_of-at
        ∙ first_break-at (shapes_of m calls) (shape_of m.own call) (shapes_of m rest) refusal
        sound broken
        ∙ ap Some (length-map calls (shape_of m.own)) in
        ap (λ at. front_before at (calls ++ call ∷ rest)) place
        ∙ take-append_seam calls (call ∷ rest)

    -- a list up to the call that is refused
    pub answered-at : (told : List (Reply C R)) → map Some told ≡ sequential_replies m calls →
        HasAnswered m (calls ++ call ∷ rest) told (Some refusal)
    answered-at told same = record {
      replies = same ∙ ap (sequential_replies m) (sym sound_front-at);
      stopped = sym (ap first_refusal shapes_of-at
          ∙ first_refusal-at (shapes_of m calls) (shape_of m.own call) (shapes_of m rest)
          refusal sound broken);
    }
