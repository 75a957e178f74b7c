-- A list of calls, made one after the other by a runtime.
use Rattle.std.proofs.Common.{◌≡◌, Some, None, List, [], ◌∷◌, ◌++◌, map, refl, sym, ◌∙◌, subst}
use Rattle.std.proofs.lemmas.List.{length-map}
use Rattle.execution_definitions.specs.declared.refusal.Refusal.{Refusal}
use Rattle.execution_definitions.specs.declared.call.Call.{Call}
use Rattle.execution_definitions.specs.declared.call.Reply.{Reply}
use Rattle.execution_definitions.specs.Refusals.{breaks}
use Rattle.execution_definitions.specs.Meanings.{Meaning, shape_of, shapes_of}
use Rattle.execution_definitions.specs.Sequential.{reply_of, sequential_replies}
use Rattle.execution_definitions.proofs.programs.SequentialLemmas.{replies-push}
use Rattle.execution_definitions.proofs.programs.ProgramsLemmas.{sound_front-at, sound_front-sound, answered-at, answered-sound}
use Rattle.delegation.specs.declared.call.Fault.{Fault}
use Rattle.delegation.specs.declared.call.Fault.TheVariants.{Refused}
use Rattle.delegation.specs.Runtimes.{RuntimeView, IsAfter}
use Rattle.delegation.specs.Answers.{FailsList}
use Rattle.delegation.specs.Programs.{HasRun}

module _ {C O R : Type 0} (m : Meaning C O R) where
  -- a runtime took these calls and answered so
  pub record OnWay (runtime : RuntimeView C R) (made : List (Call C O)) (told : List (Reply C R))
      : Type 0 where
    pub after : IsAfter m runtime made
    pub replies : map Some told ≡ sequential_replies m made

  pub starts : (runtime : RuntimeView C R) → IsAfter m runtime [] → OnWay runtime [] []
  starts runtime at = record { after = at; replies = refl }

  module _ (old new : RuntimeView C R) (made : List (Call C O)) (told : List (Reply C R))
      (call : Call C O) (way : OnWay old made told) where
    -- an accepted call
    pub goes : (reply : Reply C R) → IsAfter m new (made ++ call ∷ []) →
        Some reply ≡ reply_of m old.state old.marks.calls call →
        OnWay new (made ++ call ∷ []) (told ++ reply ∷ [])
    goes reply at is =
        let number = way.after.marks.call_count ∙ length-map made (shape_of m.own) in
        record {
          after = at;
          replies = replies-push m made call told reply way.replies
              (is ∙ rw (way.after.state, number) refl);
        }

    -- a refused call
    stops_at : (refusal : Refusal) (rest : List (Call C O)) →
        breaks (shapes_of m made) (shape_of m.own call) ≡ Some refusal → IsAfter m new made →
        HasRun m new (made ++ call ∷ rest) told (Some refusal)
    stops_at refusal rest broken at =
        let sound = way.after.marks.sound in
        record {
          after = subst (λ calls. IsAfter m new calls)
              (sym (sound_front-at m made call rest refusal sound broken)) at;
          answered = answered-at m made call rest refusal sound broken told way.replies;
        }

    -- the same from the answer
    pub stops : (fault : Fault) (refusal : Refusal) (rest : List (Call C O)) →
        fault ≡ Refused refusal → FailsList m new made call fault →
        HasRun m new (made ++ call ∷ rest) told (Some refusal)
    stops fault refusal rest is answers =
        let refused = subst (FailsList m new made call) is answers in
        stops_at refusal rest refused.0 refused.1

  -- no call was refused
  pub ends : (runtime : RuntimeView C R) (made : List (Call C O)) (told : List (Reply C R)) →
      OnWay runtime made told → HasRun m runtime made told None
  ends runtime made told way =
      let sound = way.after.marks.sound in
      record {
        after = subst (λ calls. IsAfter m runtime calls) (sym (sound_front-sound m made sound))
            way.after;
        answered = answered-sound m made told sound way.replies;
      }
