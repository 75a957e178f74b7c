-- How much may the inputs of a command have, and which limit do documents meet first, where they are
-- read byte by byte, one behind the other?
--
-- A document is over its own limit at its byte number 8,388,609, and the documents up to it are
-- over theirs at the byte that passes 67,108,864. Where both come at one byte, the document's own
-- counts.
use Rattle.std.specs.Prelude.{ℕ, ◌+◌, nat_lt, nat_le, ◌&&◌, if◌then◌else◌, List, [], ◌∷◌, length}
use Rattle.std.specs.Prelude.{None, Some, min, Bool, false}
use Rattle.std.specs.declared.option.Option.{Option}
use Rattle.script_lang.specs.Lines.{lines}
use Rattle.ss_base.specs.declared.limits.TheConstants as limits
use Rattle.ss_top.specs.declared.status.LimitHit.{LimitHit}
use Rattle.ss_top.specs.declared.status.LimitHit.TheVariants.{Document, AllDocuments}
use Rattle.ss_top.specs.declared.status.LimitHit.TheVariants.{StopBytes, ScriptBytes, ScriptLines}
use Rattle.ss_top.specs.declared.status.LimitHit.TheVariants.{ScheduleBytes}
use Rattle.ss_top.specs.declared.status.Which.{Which}
use Rattle.ss_top.specs.declared.status.Which.TheVariants as input

-- the limit that a document of this number passes, with so many bytes left of those for all
abbrev pub limit_with : ℕ → ℕ → LimitHit
limit_with i left = if nat_le limits.DOCUMENT_BYTES left then Document i else AllDocuments i

-- the first limit that documents meet, of which the first has this number, behind so many bytes
abbrev pub first_limit_from : ℕ → ℕ → List (List ℕ) → Option LimitHit
first_limit_from before i [] = None
first_limit_from before i (d ∷ ds) =
    if nat_lt limits.DOCUMENT_BYTES (length d)
    && nat_le (before + limits.DOCUMENT_BYTES) limits.ALL_DOCUMENT_BYTES
    then Some (Document i)
    else if nat_lt limits.ALL_DOCUMENT_BYTES (before + length d) then Some (AllDocuments i)
    else first_limit_from (before + length d) (i + 1) ds

-- the first limit that documents meet
abbrev pub first_limit : List (List ℕ) → Option LimitHit
first_limit documents = first_limit_from 0 1 documents

-- the limit of what has more than it may
abbrev pub limit_over : ℕ → ℕ → LimitHit → Option LimitHit
limit_over most count hit = if nat_lt most count then Some hit else None

-- the limit that a script passes
abbrev pub script_limit : List ℕ → Option LimitHit
script_limit script =
    if nat_lt limits.SCRIPT_BYTES (length script) then Some ScriptBytes
    else limit_over limits.SCRIPT_LINES (length (lines script)) ScriptLines

-- the limit that the text of an input passes, behind so many bytes of documents
abbrev pub limit_passed : ℕ → Which → List ℕ → Option LimitHit
limit_passed before input.Stop text = limit_over limits.STOP_LIST_BYTES (length text) StopBytes
limit_passed before (input.Name i) text = first_limit_from before i (text ∷ [])
limit_passed before input.Script text = script_limit text
limit_passed before input.Schedule text =
    limit_over limits.SCHEDULE_BYTES (length text) ScheduleBytes

-- how many bytes of an input are read at most, with so many left of those for all documents
abbrev pub most_bytes : ℕ → Which → ℕ
most_bytes left input.Stop = limits.STOP_LIST_BYTES
most_bytes left (input.Name i) = min left limits.DOCUMENT_BYTES
most_bytes left input.Script = limits.SCRIPT_BYTES
most_bytes left input.Schedule = limits.SCHEDULE_BYTES

-- the limit that an input passes of which there are more
abbrev pub limit_at : ℕ → Which → LimitHit
limit_at left input.Stop = StopBytes
limit_at left (input.Name i) = limit_with i left
limit_at left input.Script = ScriptBytes
limit_at left input.Schedule = ScheduleBytes

-- whether a script has too many lines; no other input has a limit of lines
abbrev pub has_more_lines : Which → List ℕ → Bool
has_more_lines input.Script text = nat_lt limits.SCRIPT_LINES (length (lines text))
has_more_lines which text = false
