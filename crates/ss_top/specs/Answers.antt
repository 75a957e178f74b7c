-- Which answer do the texts of a command's inputs call for?
--
-- The texts that are read so far call for a limit where they pass one. All texts together call for
-- what the command prints, or for the fault of a text.
use Rattle.std.specs.Prelude.{ℕ, ◌+◌, Bool, List, [], ◌∷◌, length, ◌==◌, if◌then◌else◌}
use Rattle.std.specs.Prelude.{None, Some, Result, Ok, Err}
use Rattle.std.specs.declared.option.Option.{Option}
use Rattle.std.specs.Option.{option_map_or, option_or}
use Rattle.index_definitions.specs.Index.{index}
use Rattle.index_definitions.specs.IndexText.{index_text, summary_of_index}
use Rattle.execution_definitions.specs.declared.refusal.Refusal.{Refusal}
use Rattle.script_lang.specs.declared.fault.ScriptFault.{ScriptFault}
use Rattle.script_lang.specs.Listings.{Listing, listing_of}
use Rattle.script_lang.specs.Schedules.{schedule_of}
use Rattle.script_lang.specs.ScriptAnswers.{ShownRecord, shown_of}
use Rattle.ss_base.specs.declared.limits.TheConstants as limits
use Rattle.ss_base.specs.declared.ids.Event.{Event}
use Rattle.ss_base.specs.Shelves.{Contents}
use Rattle.command_line.specs.declared.command.Command.{Command}
use Rattle.command_line.specs.declared.command.Command.TheVariants.{Index, Script, Replay, Gen}
use Rattle.ss_top.specs.declared.status.LimitHit.{LimitHit}
use Rattle.ss_top.specs.declared.status.LimitHit.TheVariants.{Names}
use Rattle.ss_top.specs.declared.status.TextFault.{TextFault}
use Rattle.ss_top.specs.declared.status.TextFault.TheVariants as text_fault
use Rattle.ss_top.specs.declared.status.Which.{Which}
use Rattle.ss_top.specs.declared.status.Which.TheVariants.{Name}
use Rattle.ss_top.specs.Inputs.{Input, inputs_of, inputs_for}
use Rattle.ss_top.specs.Limits.{limit_passed, limit_over}
use Rattle.ss_top.specs.Generated.{generated_documents, generated_limit}
use Rattle.ss_top.specs.Executions.{followed, trace_of, order_of}

-- a limit that is passed, or a text to print, or the fault of an input's text, or a text to print
-- and the line and the refusal at which it breaks off
pub data Answer : Type 0 where
  over_limit : LimitHit → Answer
  prints : List ℕ → Answer
  has_fault : TextFault → Answer
  breaks_off : List ℕ → ℕ → Refusal → Answer

-- the text that an answer prints, if it prints one
abbrev pub text_printed : Answer → Option (List ℕ)
text_printed (prints text) = Some text
text_printed (breaks_off text line refusal) = Some text
text_printed _ = None

-- a limit that is met, or else the other answer
abbrev pub or_limit : Option LimitHit → Option Answer → Option Answer
or_limit (Some hit) answer = Some (over_limit hit)
or_limit None answer = answer

-- a text to print, which may break off
abbrev pub printed : List ℕ → Option (ℕ × Refusal) → Answer
printed text None = prints text
printed text (Some (line, refusal)) = breaks_off text line refusal

-- what a script shows, and where it stops
abbrev pub shown_answer : ShownRecord → Answer
shown_answer shown = printed shown.text shown.stopped

-- what a script shows, and then its trace where that is asked for; or its fault
abbrev pub traced_answer : Bool → Result Listing ScriptFault → Answer
traced_answer trace (Ok listing) =
    shown_answer (followed trace (shown_of listing) (trace_of listing))
traced_answer trace (Err fault) = has_fault (text_fault.Script fault)

-- what a script shows, and then its order on so many lanes under a schedule where that is asked
-- for; or the fault of the script, or the first bad word of the schedule
abbrev pub replay_answer :
    ℕ → Bool → Result Listing ScriptFault → Result (List Event) ℕ → Answer
replay_answer lanes order (Ok listing) (Ok schedule) =
    shown_answer (followed order (shown_of listing) (order_of lanes listing schedule))
replay_answer lanes order (Ok listing) (Err word) = has_fault (text_fault.Schedule word)
replay_answer lanes order (Err fault) schedule = has_fault (text_fault.Script fault)

-- how many bytes of documents there are behind an input, with so many before it
abbrev pub bytes_behind : ℕ → Which → List ℕ → ℕ
bytes_behind before (Name i) text = before + length text
bytes_behind before which text = before

-- how many there are behind inputs with these texts
abbrev pub bytes_after : ℕ → List Input → List (List ℕ) → ℕ
bytes_after before [] texts = before
bytes_after before (input ∷ inputs) [] = before
bytes_after before (input ∷ inputs) (text ∷ texts) =
    bytes_after (bytes_behind before input.0 text) inputs texts

-- the first limit that the texts of inputs pass, behind so many bytes of documents
abbrev pub first_passed : ℕ → List Input → List (List ℕ) → Option LimitHit
first_passed before [] texts = None
first_passed before (input ∷ inputs) [] = None
first_passed before (input ∷ inputs) (text ∷ texts) =
    option_or (limit_passed before input.0 text)
    (first_passed (bytes_behind before input.0 text) inputs texts)

-- the limit that a command passes by what it asks for, before anything is read
abbrev pub limit_asked : Command → Option LimitHit
limit_asked (Index delegates mode ring stop names) = limit_over limits.NAMES (length names) (Names (length names))
limit_asked (Script delegates mode ring trace name) = None
limit_asked (Replay delegates order script schedule) = None
limit_asked (Gen delegates mode ring docs words seed) = generated_limit docs words seed

-- what the texts of all inputs call for, where they pass no limit
abbrev pub answer_to_all : Command → List (List ℕ) → Option Answer
answer_to_all (Index delegates mode ring None names) documents = Some (prints (index_text documents []))
answer_to_all (Index delegates mode ring (Some name) names) (stop ∷ documents) =
    Some (prints (index_text documents stop))
answer_to_all (Script delegates mode ring trace name) (script ∷ []) =
    Some (traced_answer trace (listing_of script))
answer_to_all (Replay delegates order one other) (script ∷ schedule ∷ []) =
    Some (replay_answer delegates order (listing_of script) (schedule_of schedule))
answer_to_all (Gen delegates mode ring docs words seed) [] =
    Some (prints (summary_of_index (index (generated_documents docs words seed) [])))
answer_to_all command texts = None

-- what the texts of a command's first inputs call for, if they call for an answer; the command of a
-- command line, where its words are one
abbrev pub answer_after : Option Command → List (List ℕ) → Option Answer
answer_after None texts = None
answer_after (Some command) texts =
    or_limit (limit_asked command)
    (or_limit (first_passed 0 (inputs_of command) texts)
    (if length texts == length (inputs_of command) then answer_to_all command texts else None))

-- the texts of inputs, up to the first that isn't there
abbrev pub texts_held : Contents → List Input → List (List ℕ)
texts_held contents [] = []
texts_held contents (input ∷ inputs) =
    option_map_or (λ text. text ∷ texts_held contents inputs) (contents input.1) []

-- the answer to a command line; none where its words are no command, or where the contents lack an
-- input and the texts before it call for no answer
abbrev pub expected_answer : Option Command → Contents → Option Answer
expected_answer command contents = answer_after command (texts_held contents (inputs_for command))
