-- Which commands is a script, or what is its fault?
--
-- What a line is hangs on the names that the lines above it make. The fault of a script is that of its
-- first line that has one.
use Rattle.std.specs.Prelude.{ℕ, not, Option, Some, None, Result, Ok, Err}
use Rattle.std.specs.Prelude.{List, [], ◌∷◌, ◌++◌, map, filter, slice_get}
use Rattle.std.specs.List.{enumerate_from, filter_map, flat_map}
use Rattle.script_lang.specs.declared.command.Command.{Command}
use Rattle.script_lang.specs.declared.command.Placed.{Placed}
use Rattle.script_lang.specs.declared.fault.ScriptFault.{ScriptFault}
use Rattle.script_lang.specs.declared.fault.ScriptKind.{ScriptKind}
use Rattle.script_lang.specs.Commands.{unless_fault, line_command, names_made}
use Rattle.script_lang.specs.Lines.{lines, line_words, is_skipped}

-- the commands of a script, each with its line, and the names of its objects by their numbers
pub record Listing : Type 0 where
  pub commands : List Placed
  pub names : List (List ℕ)

-- a line that isn't skipped: its number, and its words
abbrev pub Row : Type 0
Row = ℕ × List (List ℕ)

-- a line's number, and its command or its fault
abbrev pub LineAnswer : Type 0
LineAnswer = ℕ × Result Command ScriptKind

-- the rows of lines, the first of which has this number
abbrev pub rows_from : ℕ → List (List ℕ) → List Row
rows_from number lines =
    filter (λ row. not (is_skipped row.1)) (enumerate_from number (map line_words lines))

-- the names that rows make
abbrev pub names_of : List Row → List (List ℕ)
names_of rows = flat_map (λ row. names_made row.1) rows

-- what rows below others are, each by the names that all rows above it make
abbrev pub line_answers : List Row → List Row → List LineAnswer
line_answers above [] = []
line_answers above (row ∷ rest) =
    (row.0, line_command (names_of above) row.1) ∷ line_answers (above ++ row ∷ []) rest

-- the command of a row, with its line
abbrev pub command_on : ℕ → Result Command ScriptKind → Option Placed
command_on line (Ok command) = Some (record { command = command; line = line })
command_on line (Err kind) = None

-- the fault of a row, with its line
abbrev pub fault_on : ℕ → Result Command ScriptKind → Option ScriptFault
fault_on line (Ok command) = None
fault_on line (Err kind) = Some (record { line = line; kind = kind })

-- the commands of rows, each with its line
abbrev pub commands_in : List LineAnswer → List Placed
commands_in answers = filter_map (λ answer. command_on answer.0 answer.1) answers

-- the faults of rows, in their order
abbrev pub faults_in : List LineAnswer → List ScriptFault
faults_in answers = filter_map (λ answer. fault_on answer.0 answer.1) answers

-- the listing of a script, whose lines are numbered from 1, or its first fault
unfoldable pub listing_of : List ℕ → Result Listing ScriptFault
listing_of bytes =
    let rows = rows_from 1 (lines bytes) in
    let answers = line_answers [] rows in
    unless_fault (slice_get (faults_in answers) 0)
    (record { commands = commands_in answers; names = names_of rows })
