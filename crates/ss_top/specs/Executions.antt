-- What does a script tell of its execution: its trace, and the order of a replay?
--
-- Both are `unfoldable`: no proof here looks into them.
use Rattle.std.specs.Prelude.{ℕ, Bool, true, List, [], ◌++◌, map, None}
use Rattle.std.specs.declared.option.Option.{Option}
use Rattle.ss_base.specs.declared.ids.CallNo.{CallNo}
use Rattle.ss_base.specs.declared.ids.Event.{Event}
use Rattle.execution_definitions.specs.declared.refusal.Refusal.{Refusal}
use Rattle.execution_definitions.specs.Meanings.{shapes_of}
use Rattle.execution_definitions.specs.Runs.{runs}
use Rattle.schedule_laws.specs.Replayed.{replayed}
use Rattle.script_lang.specs.Acts.{script_meaning}
use Rattle.script_lang.specs.Listings.{Listing}
use Rattle.script_lang.specs.ScriptAnswers.{ShownRecord}
use Rattle.script_lang.specs.ScriptCalls.{calls_of}
use Rattle.report.specs.Traces.{trace_text, order_text}

-- the trace of a script: that of the runs of its calls
unfoldable pub trace_of : Listing → List ℕ
trace_of listing = trace_text (runs (shapes_of script_meaning (calls_of listing)))

-- the call at a place
abbrev pub call_at : ℕ → CallNo
call_at place = record { 0 = place }

-- the order in which the calls of a script take effect on so many lanes under a schedule
unfoldable pub order_of : ℕ → Listing → List Event → List ℕ
order_of lanes listing schedule =
    order_text (map call_at (replayed script_meaning (calls_of listing) lanes schedule).order)

-- a text where it is asked for, of a script that doesn't stop; else nothing
abbrev pub text_behind : Bool → Option (ℕ × Refusal) → List ℕ → List ℕ
text_behind true None text = text
text_behind asked stopped text = []

-- what a script shows, with such a text behind it
abbrev pub followed : Bool → ShownRecord → List ℕ → ShownRecord
followed asked shown text = record {
  text = shown.text ++ text_behind asked shown.stopped text;
  stopped = shown.stopped;
}
