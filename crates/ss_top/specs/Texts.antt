-- What is written on the error stream?
use Rattle.std.specs.Prelude.{ℕ, List, [], ◌∷◌, ◌++◌, codes, decimal, slice_get}
use Rattle.std.specs.Prelude.{Some, None, Result, Ok, Err}
use Rattle.std.specs.declared.option.Option.{Option}
use Rattle.std.specs.Option.{unwrap_or}
use Rattle.ss_base.specs.declared.ids.ObjectId.{ObjectId}
use Rattle.execution_definitions.specs.declared.refusal.Refusal.{Refusal}
use Rattle.execution_definitions.specs.declared.refusal.Refusal.TheVariants as refusal
use Rattle.script_lang.specs.declared.fault.ScriptFault.{ScriptFault}
use Rattle.script_lang.specs.declared.fault.ScriptKind.{ScriptKind}
use Rattle.script_lang.specs.declared.fault.ScriptKind.TheVariants as kind
use Rattle.script_lang.specs.Listings.{Listing, listing_of}
use Rattle.command_line.specs.declared.command.Command.{Command}
use Rattle.command_line.specs.declared.command.Command.TheVariants as command
use Rattle.ss_top.specs.declared.status.Which.TheVariants.{Name}
use Rattle.ss_top.specs.declared.status.LimitHit.{LimitHit}
use Rattle.ss_top.specs.declared.status.LimitHit.TheVariants.{Names, Document, AllDocuments}
use Rattle.ss_top.specs.declared.status.LimitHit.TheVariants.{StopBytes, ScriptBytes, ScriptLines}
use Rattle.ss_top.specs.declared.status.LimitHit.TheVariants.{ScheduleBytes}
use Rattle.ss_top.specs.declared.status.TextFault.{TextFault}
use Rattle.ss_top.specs.declared.status.TextFault.TheVariants.{Script, Schedule}
use Rattle.ss_top.specs.declared.status.Status.{Status}
use Rattle.ss_top.specs.declared.status.Status.TheVariants.{Done, Usage, ReadFault, WriteFault}
use Rattle.ss_top.specs.declared.status.Status.TheVariants.{OutOfMemory, Limit, Refused, Text}
use Rattle.ss_top.specs.Inputs.{inputs_for, name_of}

unfoldable pub usage_text : List ℕ
usage_text =
    codes "usage: ssidx index [--delegates N] [--mode lanes|batch] [--ring N] [--stop FILE] NAME...\n"
    ++ codes "       ssidx script [--delegates N] [--mode lanes|batch] [--ring N] [--trace] NAME\n"
    ++ codes "       ssidx replay [--delegates N] [--order] SCRIPT SCHEDULE\n"
    ++ codes "       ssidx gen [--delegates N] [--mode lanes|batch] [--ring N] DOCS WORDS SEED\n"

unfoldable pub memory_text : List ℕ
memory_text = codes "ssidx: out of memory\n"

unfoldable pub read_fault_text : List ℕ → List ℕ
read_fault_text name = codes "ssidx: cannot read " ++ name ++ codes "\n"

unfoldable pub write_fault_text : List ℕ
write_fault_text = codes "ssidx: cannot write\n"

unfoldable pub names_text : ℕ → List ℕ
names_text n = codes "ssidx: limit: " ++ decimal n ++ codes " names are over 65536\n"

-- a document that has no name is told without one
unfoldable pub document_limit_text : ℕ → Option (List ℕ) → List ℕ
document_limit_text i (Some name) =
    codes "ssidx: limit: document " ++ decimal i ++ codes " is over 8388608 bytes: " ++ name
    ++ codes "\n"
document_limit_text i None =
    codes "ssidx: limit: document " ++ decimal i ++ codes " is over 8388608 bytes\n"

unfoldable pub all_documents_text : ℕ → List ℕ
all_documents_text i =
    codes "ssidx: limit: documents to " ++ decimal i ++ codes " are over 67108864 bytes\n"

unfoldable pub stop_bytes_text : List ℕ
stop_bytes_text = codes "ssidx: limit: stop list is over 8388608 bytes\n"

unfoldable pub script_bytes_text : List ℕ
script_bytes_text = codes "ssidx: limit: script is over 1048576 bytes\n"

unfoldable pub script_lines_text : List ℕ
script_lines_text = codes "ssidx: limit: script is over 65536 lines\n"

unfoldable pub schedule_bytes_text : List ℕ
schedule_bytes_text = codes "ssidx: limit: schedule is over 1048576 bytes\n"

-- the text of a limit that a command passed
abbrev pub limit_text : Option Command → LimitHit → List ℕ
limit_text command (Names n) = names_text n
limit_text command (Document i) = document_limit_text i (name_of (inputs_for command) (Name i))
limit_text command (AllDocuments i) = all_documents_text i
limit_text command StopBytes = stop_bytes_text
limit_text command ScriptBytes = script_bytes_text
limit_text command ScriptLines = script_lines_text
limit_text command ScheduleBytes = schedule_bytes_text

-- what there is to say of a line of a script
unfoldable pub line_text : ℕ → List ℕ → List ℕ
line_text line what = codes "ssidx: line " ++ decimal line ++ codes ": " ++ what ++ codes "\n"

-- what is wrong with a line
unfoldable pub kind_text : ScriptKind → List ℕ
kind_text kind.UnknownCommand = codes "unknown command"
kind_text kind.BadShape = codes "wrong words for this command"
kind_text kind.BadName = codes "bad name"
kind_text kind.NameTaken = codes "name is taken"
kind_text kind.NameUnknown = codes "unknown name"
kind_text kind.BadNumber = codes "bad number"

-- what there is to say of a word of a schedule
unfoldable pub word_text : ℕ → List ℕ
word_text word = codes "ssidx: schedule word " ++ decimal word ++ codes ": not p or a lane\n"

-- the text of the fault of an input's text
abbrev pub fault_text : TextFault → List ℕ
fault_text (Script fault) = line_text fault.line (kind_text fault.kind)
fault_text (Schedule word) = word_text word

-- the name of an object, of these by their numbers
abbrev pub object_name : List (List ℕ) → ObjectId → List ℕ
object_name names object = unwrap_or (slice_get names object.0) []

-- what there is to say of an object
unfoldable pub object_text : List ℕ → List ℕ → List ℕ
object_text name what = codes "object " ++ name ++ what

unfoldable pub two_sets_text : List ℕ → ℕ → ℕ → List ℕ
two_sets_text name first second =
    codes "object " ++ name ++ codes " is in set " ++ decimal first ++ codes ", not in set "
    ++ decimal second

unfoldable pub private_text : List ℕ → ℕ → List ℕ
private_text name set = codes "object " ++ name ++ codes " is private to set " ++ decimal set

-- why a call is refused, with these names of objects; a script can't have the last three
unfoldable pub refusal_text : List (List ℕ) → Refusal → List ℕ
refusal_text names refusal.NotIsolating = codes "no epoch of isolation is open"
refusal_text names refusal.Isolating = codes "an epoch of isolation is open"
refusal_text names (refusal.ReadOnly object) =
    object_text (object_name names object) (codes " is read-only")
refusal_text names (refusal.TwoSets object first second) =
    two_sets_text (object_name names object) first.0 second.0
refusal_text names (refusal.Shared object) =
    object_text (object_name names object) (codes " is read-shared")
refusal_text names (refusal.SelfRead object) =
    object_text (object_name names object) (codes " reads itself")
refusal_text names (refusal.Private object set) =
    private_text (object_name names object) set.0
refusal_text names (refusal.UnknownObject object) = codes "no object has this number"
refusal_text names refusal.TooManyObjects = codes "too many objects"
refusal_text names refusal.TooManyCalls = codes "too many calls"

-- the text of the status with which a command ended, with these names of objects
abbrev pub status_text : Option Command → List (List ℕ) → Status → List ℕ
status_text command names Done = []
status_text command names Usage = usage_text
status_text command names (ReadFault which) =
    read_fault_text (unwrap_or (name_of (inputs_for command) which) [])
status_text command names WriteFault = write_fault_text
status_text command names OutOfMemory = memory_text
status_text command names (Limit hit) = limit_text command hit
status_text command names (Refused line refusal) = line_text line (refusal_text names refusal)
status_text command names (Text fault) = fault_text fault

-- the names of the objects that a script makes, by their numbers
abbrev pub names_listed : Result Listing ScriptFault → List (List ℕ)
names_listed (Ok listing) = listing.names
names_listed (Err fault) = []

-- those of a command's script, by the texts of the command's inputs
abbrev pub names_in : Option Command → List (List ℕ) → List (List ℕ)
names_in (Some (command.Script delegates mode ring trace name)) (script ∷ []) =
    names_listed (listing_of script)
names_in (Some (command.Replay delegates order one other)) (script ∷ schedule ∷ []) =
    names_listed (listing_of script)
names_in command texts = []
