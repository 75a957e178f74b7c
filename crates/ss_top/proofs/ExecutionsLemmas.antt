-- What the logs of a runtime and the outcome of a replay tell of a script's execution.
use Rattle.std.proofs.Common.{◌≡◌, ℕ, Bool, true, false, Some, None, List, [], ◌∷◌, ◌++◌, length, map}
use Rattle.std.proofs.Common.{refl, ap, ◌∙◌, subst, append_assoc}
use Rattle.std.specs.Prelude.{IsSome}
use Rattle.std.specs.declared.option.Option.{Option}
use Rattle.std.proofs.Math.Seq.{take-append_seam}
use Rattle.class_laws.specs.declared.numbers.WrapSum.{WrapSum}
use Rattle.ss_base.specs.declared.ids.CallNo.{CallNo}
use Rattle.ss_base.specs.declared.ids.Event.{Event}
use Rattle.ss_base.specs.declared.ids.Run.{Run}
use Rattle.execution_definitions.specs.declared.refusal.Refusal.{Refusal}
use Rattle.execution_definitions.specs.Meanings.{shapes_of}
use Rattle.execution_definitions.specs.Programs.{sound_front}
use Rattle.execution_definitions.specs.Refusals.{breaks}
use Rattle.execution_definitions.specs.Shapes.{Shape}
use Rattle.execution_definitions.specs.Soundness.{IsSound, first_break, first_break_after}
use Rattle.execution_definitions.specs.Soundness.{first_refusal, place_or, refusal_at}
use Rattle.execution_definitions.proofs.lists.ListLemmas.{slice_get-append_seam}
use Rattle.execution_definitions.proofs.programs.ProgramsLemmas.{sound_front-sound}
use Rattle.delegation.specs.Runtimes.{RuntimeView, IsAfter, lane_count, sent_to_lanes}
use Rattle.delegation.proofs.runs.SentLemmas.{lane_of_set-below}
use Rattle.schedule_laws.specs.Replayed.{replayed}
use Rattle.script_lang.specs.declared.word32.Word32.{Word32}
use Rattle.script_lang.specs.Acts.{script_meaning}
use Rattle.script_lang.specs.Listings.{Listing}
use Rattle.script_lang.specs.ScriptAnswers.{ShownRecord, stop_at, stopped_at}
use Rattle.script_lang.specs.ScriptCalls.{calls_of}
use Rattle.report.specs.TraceLaws.{LogsHaveTheProgramsTrace}
use Rattle.report.specs.Traces.{runs_in, trace_text, order_text}
use Rattle.ss_top.specs.Executions.{trace_of, order_of, call_at, text_behind, followed}

text_behind-same :
    (asked : Bool) (stopped : Option (ℕ × Refusal)) (one other : List ℕ)
    → (stopped ≡ None → one ≡ other) → text_behind asked stopped one ≡ text_behind asked stopped other
text_behind-same true None one other same = same refl
text_behind-same true (Some stop) one other same = refl
text_behind-same false stopped one other same = refl

-- texts that are the same of a script that doesn't stop
pub followed-same :
    (asked : Bool) (shown : ShownRecord) (one other : List ℕ)
    → (shown.stopped ≡ None → one ≡ other) → followed asked shown one ≡ followed asked shown other
followed-same asked shown one other same =
    ap (λ more. record { text = shown.text ++ more; stopped = shown.stopped })
    (text_behind-same asked shown.stopped one other same)

-- ---- a call at which a list breaks is refused

refused-with :
    (before : List Shape) (call : Shape) (rest : List Shape) (place : ℕ) (cause : Option Refusal)
    → breaks before call ≡ cause
    → place_or cause (length before) (first_break_after (before ++ call ∷ []) rest) ≡ Some place
    → (first_break_after (before ++ call ∷ []) rest ≡ Some place
    → IsSome (refusal_at ((before ++ call ∷ []) ++ rest) place))
    → IsSome (refusal_at (before ++ call ∷ rest) place)
refused-with before call rest place None is found later =
    subst (λ calls. IsSome (refusal_at calls place)) (append_assoc before (call ∷ []) rest)
    (later found)
refused-with before call rest place (Some refusal) is found later =
    let same : length before ≡ place = cc in
    subst (λ at. IsSome (refusal_at (before ++ call ∷ rest) at)) same
    (rw (take-append_seam before (call ∷ rest), slice_get-append_seam before call rest, is) refl)

refused-after :
    (before calls : List Shape) (place : ℕ)
    → first_break_after before calls ≡ Some place → IsSome (refusal_at (before ++ calls) place)
refused-after before [] place found = absurd (cc)
refused-after before (call ∷ rest) place found =
    refused-with before call rest place (breaks before call) refl found
    (refused-after (before ++ call ∷ []) rest place)

-- where a break has no line and no refusal, there is none
no_stop :
    (listing : Listing) (place : Option ℕ) (refusal : Option Refusal)
    → ((at : ℕ) → place ≡ Some at → IsSome refusal) → stop_at listing place refusal ≡ None
    → place ≡ None
no_stop listing None refusal refused none = refl
no_stop listing (Some at) None refused none = absurd (let no = refused at refl in cc)
no_stop listing (Some at) (Some refusal) refused none = absurd (cc)

-- a script that doesn't stop is sound
sound-unstopped :
    (listing : Listing) → stopped_at listing ≡ None
    → IsSound (shapes_of script_meaning (calls_of listing))
sound-unstopped listing none =
    let shapes = shapes_of script_meaning (calls_of listing) in
    no_stop listing (first_break shapes) (first_refusal shapes)
    (λ at is. rw is (refused-after [] shapes at is)) none

-- ---- the trace

-- the runs that a runtime sent have the trace of the script, if it doesn't stop
pub trace_of-sent :
    (listing : Listing) (runtime : RuntimeView Word32 WrapSum) (logs : List (List Run))
    → LogsHaveTheProgramsTrace
    → IsAfter script_meaning runtime (sound_front script_meaning (calls_of listing))
    → logs ≡ runtime.sent → stopped_at listing ≡ None
    → trace_text (runs_in logs) ≡ trace_of listing
unfolding trace_of
trace_of-sent listing runtime logs law after are none =
    let calls = calls_of listing in
    let front = sound_front-sound script_meaning calls (sound-unstopped listing none) in
    ap (λ all. trace_text (runs_in all)) (are ∙ after.sent
    ∙ ap (λ made. sent_to_lanes (shapes_of script_meaning made) runtime.delegates) front)
    ∙ law (shapes_of script_meaning calls) runtime.delegates (lane_count runtime.delegates)
    (λ set. lane_of_set-below set runtime.delegates)

-- ---- the order

calls_at : (calls : List CallNo) → calls ≡ map call_at (map (λ call. call.0) calls)
calls_at [] = refl
calls_at (call ∷ rest) = ap (λ more. call ∷ more) (calls_at rest)

-- the calls of a replay are those of the computed order
pub order_of-replayed :
    (lanes : ℕ) (listing : Listing) (schedule : List Event) (calls : List CallNo)
    → map (λ call. call.0) calls
    ≡ (replayed script_meaning (calls_of listing) lanes schedule).order
    → order_text calls ≡ order_of lanes listing schedule
unfolding order_of
order_of-replayed lanes listing schedule calls are =
    ap order_text (calls_at calls ∙ ap (λ places. map call_at places) are)
