-- An answered call goes on from each list that the runtime was after.
use Rattle.std.proofs.Common.{◌≡◌, List, [], ◌∷◌, ◌++◌, refl, sym, ap, ◌∙◌, subst}
use Rattle.std.specs.Prelude.{Result, Ok, Err}
use Rattle.execution_definitions.specs.declared.call.Call.{Call}
use Rattle.execution_definitions.specs.declared.call.Call.TheVariants.{Make, MakeFixed, Begin, Delegate, Write, Get, End, Total}
use Rattle.execution_definitions.specs.declared.call.Reply.{Reply}
use Rattle.execution_definitions.specs.Refusals.{breaks}
use Rattle.execution_definitions.specs.Runs.{run_of}
use Rattle.execution_definitions.specs.Meanings.{Meaning, shape_of, shapes_of}
use Rattle.execution_definitions.specs.Sequential.{state_after}
use Rattle.execution_definitions.proofs.programs.SequentialLemmas.{shapes_of-push, sequential_state-push}
use Rattle.partition_check.specs.Marked.{mark_at}
use Rattle.partition_check.specs.Judged.{judged}
use Rattle.partition_check.specs.Represents.{Represents}
use Rattle.partition_check.proofs.represents.JudgedLemmas.{set_marked-represents}
use Rattle.partition_check.proofs.represents.TheoremLemmas.{marks_follow}
use Rattle.delegation.specs.declared.call.Fault.{Fault}
use Rattle.delegation.specs.declared.call.Fault.TheVariants.{Refused, OutOfMemory}
use Rattle.delegation.specs.Runtimes.{RuntimeView, IsAfter, sent_to_lanes}
use Rattle.delegation.specs.Answers.{run_now, sent_with, Accepts, Answered, AnswersEachList}
use Rattle.delegation.proofs.runs.SentLemmas.{sent_to_lanes-push}

module _ {C O R : Type 0} (m : Meaning C O R) where
  -- the run by the marks is the run by the list
  run_now-represents : (runtime : RuntimeView C R) (calls : List (Call C O)) →
      Represents runtime.marks (shapes_of m calls) → (call : Call C O) →
      run_now m runtime call ≡ run_of (shapes_of m calls) (shape_of m.own call)
  run_now-represents runtime calls r (Delegate object op reading) =
      rw (
        r.call_count,
        r.epochs,
        set_marked-represents runtime.marks (shapes_of m calls) r object.0 (m.own op)
            (mark_at runtime.marks object.0) refl,
      ) refl
  run_now-represents runtime calls r (Make value by) = refl
  run_now-represents runtime calls r (MakeFixed value) = refl
  run_now-represents runtime calls r Begin = refl
  run_now-represents runtime calls r (Write object op) = refl
  run_now-represents runtime calls r (Get object) = refl
  run_now-represents runtime calls r End = refl
  run_now-represents runtime calls r Total = refl

  module _ (old new : RuntimeView C R) (call : Call C O) (calls : List (Call C O))
      (at : IsAfter m old calls) where
    -- the marks judge the call as the rule does
    judged-after : judged old.marks (shape_of m.own call)
        ≡ breaks (shapes_of m calls) (shape_of m.own call)
    judged-after =
        (marks_follow old.marks (shapes_of m calls) at.marks (shape_of m.own call)).same_refusal

    sent-after : (accepts : Accepts m old new call) →
        new.sent ≡ sent_to_lanes (shapes_of m (calls ++ call ∷ [])) new.delegates
    sent-after accepts =
        accepts.sent
        ∙ ap (λ lists. sent_with old.delegates lists (run_now m old call)) at.sent
        ∙ ap (λ run. sent_with old.delegates (sent_to_lanes (shapes_of m calls) old.delegates) run)
        (run_now-represents old calls at.marks call)
        ∙ sent_to_lanes-push (shapes_of m calls) old.delegates (shape_of m.own call)
        ∙ rw (accepts.delegates, shapes_of-push m calls call) refl

    accepted : Accepts m old new call → IsAfter m new (calls ++ call ∷ [])
    accepted accepts = record {
      state = accepts.state ∙ ap (λ s. state_after m s call) at.state
          ∙ sym (sequential_state-push m calls call);
      marks = rw (accepts.marks, shapes_of-push m calls call)
          ((marks_follow old.marks (shapes_of m calls) at.marks (shape_of m.own call)).represents
          (sym judged-after ∙ accepts.allowed));
      sent = sent-after accepts;
      logs = accepts.done;
    }

  -- each answer holds of every list
  pub follows : {T : Type 0} (to_reply : T → Reply C R) (old new : RuntimeView C R)
      (call : Call C O) (result : Result T Fault) →
      Answered m to_reply old new call result → AnswersEachList m old new call result
  follows to_reply old new call (Ok value) answered = λ calls at. (
    sym (judged-after old new call calls at) ∙ answered.0.allowed,
    accepted old new call calls at answered.0,
  )
  follows to_reply old new call (Err (Refused refusal)) answered = λ calls at. (
    sym (judged-after old new call calls at) ∙ answered.why,
    subst (λ runtime. IsAfter m runtime calls) (sym answered.unchanged) at,
  )
  follows to_reply old new call (Err OutOfMemory) answered = λ calls at. tt
