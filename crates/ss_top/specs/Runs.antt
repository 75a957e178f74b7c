-- What does a run leave?
use Rattle.std.specs.Prelude.{◌≡◌, ◌≢◌, ℕ, ◌+◌, ◌≤◌, Bool, true, false, List, [], ◌∷◌, length, ⊤, ◌⊎◌}
use Rattle.std.specs.Prelude.{Some, None, option_and_then, codes}
use Rattle.std.specs.declared.option.Option.{Option}
use Rattle.std.specs.Io.KnownBytes.{Appends}
use Rattle.std.specs.Str.{bytes_eq}
use Rattle.execution_definitions.specs.declared.refusal.Refusal.{Refusal}
use Rattle.ss_base.specs.declared.outside.Shelf
use Rattle.ss_base.specs.declared.outside.Sink
use Rattle.ss_base.specs.Faults.{Rose}
use Rattle.ss_base.specs.Shelves.{Contents, IsSteady}
use Rattle.ss_base.specs.Sinks.{GainsFront}
use Rattle.ss_top.specs.declared.status.Status.{Status}
use Rattle.ss_top.specs.declared.status.Status.TheVariants.{Done, Usage, ReadFault, WriteFault}
use Rattle.ss_top.specs.declared.status.Status.TheVariants.{OutOfMemory, Limit, Refused, Text}
use Rattle.ss_top.specs.declared.status.LimitHit.{LimitHit}
use Rattle.ss_top.specs.declared.status.TextFault.{TextFault}
use Rattle.ss_top.specs.declared.status.TextFault.TheVariants as fault
use Rattle.ss_top.specs.declared.status.Which.{Which}
use Rattle.command_line.specs.declared.command.Command.{Command}
use Rattle.command_line.specs.declared.command.Command.TheVariants.{Script, Replay}
use Rattle.ss_top.specs.Answers.{Answer, over_limit, prints, has_fault, breaks_off, text_printed}
use Rattle.ss_top.specs.Answers.{texts_held}
use Rattle.ss_top.specs.Inputs.{inputs_for}
use Rattle.ss_top.specs.Readings.{Asks, AsksInOrder, FailsAt, AreHeld}
use Rattle.ss_top.specs.Readings.{IfCalledFor, IsLimitOf, left_of}
use Rattle.ss_top.specs.Statuses.{has_written, has_read_all}
use Rattle.ss_top.specs.Texts.{status_text, names_in}

-- the command, where it is a replay
abbrev pub replay_only : Option Command → Option Command
replay_only (Some (Replay delegates order script schedule)) =
    Some (Replay delegates order script schedule)
replay_only command = None

-- the first word is that of a replay
abbrev pub names_replay : List (List ℕ) → Bool
names_replay [] = false
names_replay (name ∷ words) = bytes_eq name (codes "replay")

-- a replay on so many lanes, with its order or without
abbrev pub IsReplay : Command → ℕ → Bool → Type 0
IsReplay (Replay delegates order script schedule) lanes asked =
    (delegates ≡ lanes) × (order ≡ asked)
IsReplay command lanes asked = ⊥

-- a text can be refused: that of a script
abbrev pub CanBreak : Option Command → Type 0
CanBreak (Some (Script delegates mode ring trace name)) = ⊤
CanBreak (Some (Replay delegates order script schedule)) = ⊤
CanBreak command = ⊥

-- a text can have this fault: only that of a script has a bad line of a script, and only that of a
-- schedule a bad word of one
abbrev pub CanHave : Option Command → TextFault → Type 0
CanHave (Some (Script delegates mode ring trace name)) (fault.Script what) = ⊤
CanHave (Some (Replay delegates order script schedule)) (fault.Script what) = ⊤
CanHave (Some (Replay delegates order script schedule)) (fault.Schedule word) = ⊤
CanHave command fault = ⊥

-- out gained the text that was called for, and nothing is left of the last input
pub record PrintsAll (answer : Option Answer) (before after left : Option (List ℕ)) : Type 0 where
  pub text : List ℕ
  pub expected : answer ≡ Some (prints text)
  pub gained : Appends before after text
  pub at_end : left ≡ Some []

-- out gained a front part of the text that was called for, and nothing is left of the last input
pub record PrintsFront (answer : Option Answer) (before after left : Option (List ℕ)) : Type 0 where
  pub text : List ℕ
  pub expected : option_and_then text_printed answer ≡ Some text
  pub gained : GainsFront before after text
  pub at_end : left ≡ Some []

-- out gained what is printed up to the break that was called for, and nothing is left of the last
-- input
pub record BreaksOff (answer : Option Answer) (line : ℕ) (refusal : Refusal)
    (before after left : Option (List ℕ)) : Type 0 where
  pub text : List ℕ
  pub expected : answer ≡ Some (breaks_off text line refusal)
  pub gained : Appends before after text
  pub at_end : left ≡ Some []

-- what a status says of out, before and after, and of what is left of the last input: each but those
-- of a fault or of want of memory is the one that is called for
abbrev pub Meets :
    Option Answer → Status → Option (List ℕ) → Option (List ℕ) → Option (List ℕ) → Type 0
Meets answer Done before after left = PrintsAll answer before after left
Meets answer WriteFault before after left = PrintsFront answer before after left
Meets answer (Limit hit) before after left = answer ≡ Some (over_limit hit)
Meets answer (Refused line refusal) before after left =
    BreaksOff answer line refusal before after left
Meets answer (Text fault) before after left = answer ≡ Some (has_fault fault)
Meets answer Usage before after left = answer ≡ None
Meets answer (ReadFault which) before after left = ⊤
Meets answer OutOfMemory before after left = ⊤

-- a text that is called for is printed, unless a count of faults rose or memory ran out
abbrev pub Completes : Option Answer → Status → Type 0 → Type 0 → Type 0
Completes answer status shelf_rose out_rose =
    (text : List ℕ) → answer ≡ Some (prints text)
    → (shelf_rose → ⊥) → (out_rose → ⊥) → (status ≡ Done) ⊎ (status ≡ OutOfMemory)

-- a sink that is sure of the text that is called for doesn't fail: its count stays
abbrev pub IsWritten : Option Answer → Status → ℕ → ℕ → ℕ → Type 0
IsWritten answer status sure faults_before faults_after =
    (text : List ℕ) → option_and_then text_printed answer ≡ Some text
    → length text ≤ sure → (faults_after ≡ faults_before) × (status ≢ WriteFault)

-- what a sink is sure of falls by no more than the text that is called for
abbrev pub StaysSure : Option Answer → ℕ → ℕ → Type 0
StaysSure answer before after =
    (text : List ℕ) → option_and_then text_printed answer ≡ Some text
    → before ≤ after + length text

-- a stream gained a text, or a front part of it where its count of faults rose. The count doesn't
-- fall
abbrev pub Tells : Option (List ℕ) → Option (List ℕ) → ℕ → ℕ → List ℕ → Type 0
Tells before after faults_before faults_after text =
    (faults_before ≤ faults_after)
    × (Appends before after text ⊎ (Rose faults_before faults_after × GainsFront before after text))

-- a stream tells a status. Objects have the names of the script, where contents are told, and else
-- some names
abbrev pub TellsStatus :
    Option Contents → Option Command → Status → Option (List ℕ) → Option (List ℕ) → ℕ → ℕ → Type 0
TellsStatus None command status before after faults_before faults_after =
    (names : List (List ℕ))
    × Tells before after faults_before faults_after (status_text command names status)
TellsStatus (Some contents) command status before after faults_before faults_after =
    Tells before after faults_before faults_after
    (status_text command (names_in command (texts_held contents (inputs_for command))) status)

module _ {S K : Type 0} (shelf : Shelf.Ghosts S) (sink : Sink.Ghosts K) where
  -- what a run leaves of the shelf and of out, where its words are this command, or none, and it
  -- ended with this status
  pub record Runs
      (command : Option Command) (status : Status) (before after : S) (out_before out_after : K)
      : Type 0 where
    -- The shelf is asked for the command's inputs, each once, in their order and only as it is
    -- needed.
    pub asks : AsksInOrder shelf before after command
    pub whole : has_read_all status ≡ true → Asks shelf before after (inputs_for command)
    -- A fault comes only where its count rose in this call, and a read fault at its place. A steady
    -- shelf that holds the inputs doesn't fail, nor does a sink that is sure of the text, and what
    -- the sink is sure of falls by no more than that.
    pub read_fault :
        (which : Which) → status ≡ ReadFault which → FailsAt shelf before after command which
    pub steady :
        IsSteady (shelf.contents before) (shelf.fails_only_if_absent before)
        → AreHeld (shelf.contents before) (inputs_for command)
        → (shelf.faults after ≡ shelf.faults before)
        × ((which : Which) → status ≢ ReadFault which)
    pub never_falls : sink.faults out_before ≤ sink.faults out_after
    pub write_fault :
        status ≡ WriteFault → Rose (sink.faults out_before) (sink.faults out_after)
    pub sure :
        IfCalledFor (shelf.contents before) command (λ answer.
        IsWritten answer status (sink.sure out_before)
        (sink.faults out_before) (sink.faults out_after))
    pub sure_after :
        IfCalledFor (shelf.contents before) command (λ answer.
        StaysSure answer (sink.sure out_before) (sink.sure out_after))
    -- Only a limit of the command, a command that has a script, and a fault that its texts can
    -- have.
    pub limit : (hit : LimitHit) → status ≡ Limit hit → IsLimitOf command hit
    pub refused :
        (line : ℕ) (refusal : Refusal) → status ≡ Refused line refusal → CanBreak command
    pub text : (fault : TextFault) → status ≡ Text fault → CanHave command fault
    -- The status is the one that is called for, and so is what out gained.
    pub meets :
        IfCalledFor (shelf.contents before) command (λ answer.
        Meets answer status (sink.gained out_before) (sink.gained out_after)
        (left_of (inputs_for command) (shelf.left after)))
    pub quiet : has_written status ≡ false → out_after ≡ out_before
    -- What is called for is printed, unless the outside failed or memory ran out.
    pub complete :
        IfCalledFor (shelf.contents before) command (λ answer.
        Completes answer status (Rose (shelf.faults before) (shelf.faults after))
        (Rose (sink.faults out_before) (sink.faults out_after)))
