-- What does the result of a command say of the answer that is called for, what becomes of out where
-- its text is written, and which names does a script have that broke the partition rule?
use Rattle.std.specs.Prelude.{◌≡◌, ℕ, ◌≤◌, true, List, [], ⊤}
use Rattle.std.specs.Prelude.{Some, None, IfSome, IfOk, Result, Ok, Err}
use Rattle.std.specs.declared.option.Option.{Option}
use Rattle.script_lang.specs.Listings.{Listing}
use Rattle.ss_base.specs.declared.outside.Sink
use Rattle.ss_base.specs.Faults.{Rose}
use Rattle.ss_top.specs.declared.commands.Broken.{Broken}
use Rattle.ss_top.specs.declared.commands.Printed.{Printed}
use Rattle.ss_top.specs.declared.no_text.NoText.{NoText}
use Rattle.ss_top.specs.declared.no_text.NoText.TheVariants as no_text
use Rattle.ss_top.specs.declared.status.Status.{Status}
use Rattle.ss_top.specs.declared.status.Status.TheVariants.{ReadFault, WriteFault, OutOfMemory}
use Rattle.ss_top.specs.declared.status.Status.TheVariants.{Limit, Text}
use Rattle.ss_top.specs.declared.generate.GenFault.{GenFault}
use Rattle.ss_top.specs.declared.generate.GenFault.TheVariants as fault
use Rattle.script_lang.specs.declared.fault.ParseFault.{ParseFault}
use Rattle.script_lang.specs.declared.fault.ParseFault.TheVariants as parse_fault
use Rattle.script_lang.specs.declared.schedule.ScheduleStop.{ScheduleStop}
use Rattle.script_lang.specs.declared.schedule.ScheduleStop.TheVariants as schedule_stop
use Rattle.ss_top.specs.declared.status.TextFault.TheVariants as text_fault
use Rattle.ss_top.specs.Answers.{Answer, over_limit, prints, has_fault, breaks_off}
use Rattle.ss_top.specs.Runs.{Meets, Completes, IsWritten, StaysSure}
use Rattle.ss_top.specs.Statuses.{has_written}

-- the answer of a text that may stop
abbrev pub broken_off : List ℕ → Option Broken → Answer
broken_off text None = prints text
broken_off text (Some broken) = breaks_off text broken.line broken.refusal

-- the answer for which a printed text stands
abbrev pub printed_answer : Printed → Answer
printed_answer printed = broken_off printed.text.items printed.broken

-- the result of a command that was called for this answer and left this of its last input. A read
-- fault has a cause of its own, and want of memory has none
abbrev pub Answers : Option Answer → Option (List ℕ) → Result Printed NoText → Type 0
Answers answer left (Ok printed) = (answer ≡ Some (printed_answer printed)) × (left ≡ Some [])
Answers answer left (Err (no_text.Limit hit)) = answer ≡ Some (over_limit hit)
Answers answer left (Err (no_text.Text what)) = answer ≡ Some (has_fault what)
Answers answer left (Err (no_text.ReadFault which)) = ⊤
Answers answer left (Err no_text.OutOfMemory) = ⊤

module _ {K : Type 0} (sink : Sink.Ghosts K) where
  -- the text of an answer was written to out, whole or in part, and the run ended with this status
  pub record IsPrinted (answer : Answer) (status : Status) (before after : K) : Type 0 where
    pub written : has_written status ≡ true
    pub never_falls : sink.faults before ≤ sink.faults after
    pub write_fault : status ≡ WriteFault → Rose (sink.faults before) (sink.faults after)
    pub sure :
        IsWritten (Some answer) status (sink.sure before) (sink.faults before) (sink.faults after)
    pub sure_after : StaysSure (Some answer) (sink.sure before) (sink.sure after)
    pub meets : Meets (Some answer) status (sink.gained before) (sink.gained after) (Some [])
    pub complete :
        Completes (Some answer) status ⊥ (Rose (sink.faults before) (sink.faults after))

-- the status of a command that has no text
abbrev pub status_without : NoText → Status
status_without (no_text.ReadFault which) = ReadFault which
status_without (no_text.Limit hit) = Limit hit
status_without (no_text.Text what) = Text what
status_without no_text.OutOfMemory = OutOfMemory

module _ {K : Type 0} (sink : Sink.Ghosts K) where
  -- a run ended with this status: its text was written to out, or there was none, and out is as it was
  abbrev pub HasEnded : Result Printed NoText → Status → K → K → Type 0
  HasEnded (Ok printed) status before after =
      IsPrinted sink (printed_answer printed) status before after
  HasEnded (Err fault) status before after =
      (status ≡ status_without fault) × (after ≡ before)

-- a script that broke the partition rule, if one did, has these names of objects
abbrev pub HasNames : Result Printed NoText → List (List ℕ) → Type 0
HasNames result names =
    IfOk result (λ printed. IfSome printed.broken (λ broken. broken.script.names ≡ names))

-- the names of a script that may be there
abbrev pub script_names : Option Listing → List (List ℕ)
script_names None = []
script_names (Some script) = script.names

-- why there is no text, where documents were not generated
abbrev pub no_text_of : GenFault → NoText
no_text_of (fault.Limit hit) = no_text.Limit hit
no_text_of fault.OutOfMemory = no_text.OutOfMemory

-- why there is no text, where a script wasn't read
abbrev pub no_text_for : ParseFault → NoText
no_text_for (parse_fault.Text what) = no_text.Text (text_fault.Script what)
no_text_for parse_fault.OutOfMemory = no_text.OutOfMemory

-- why there is no text, where a schedule wasn't read
abbrev pub no_text_from : ScheduleStop → NoText
no_text_from (schedule_stop.Word word) = no_text.Text (text_fault.Schedule word)
no_text_from schedule_stop.OutOfMemory = no_text.OutOfMemory
