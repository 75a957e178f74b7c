-- Which inputs does a command read, in which order, and under which names?
--
-- This list alone says it. The answer to a command is made of the texts of these inputs, and a shelf
-- is asked for them and for nothing else.
use Rattle.std.specs.Prelude.{ℕ, ◌+◌, Bool, true, false, ◌==◌, List, [], ◌∷◌, Some, None, IsSome}
use Rattle.std.specs.declared.option.Option.{Option}
use Rattle.std.specs.List.{find}
use Rattle.std.specs.Option.{option_map}
use Rattle.command_line.specs.declared.command.Command.{Command}
use Rattle.command_line.specs.declared.command.Command.TheVariants as command
use Rattle.ss_top.specs.declared.status.Which.{Which}
use Rattle.ss_top.specs.declared.status.Which.TheVariants.{Stop, Name, Script, Schedule}

-- an input, and the name under which it is read
abbrev pub Input : Type 0
Input = Which × List ℕ

-- documents under these names, of which the first has this number
abbrev pub documents_from : ℕ → List (List ℕ) → List Input
documents_from i [] = []
documents_from i (name ∷ names) = (Name i, name) ∷ documents_from (i + 1) names

-- those of an index: its stop list, if it has one, and its documents
abbrev pub index_inputs : Option (List ℕ) → List (List ℕ) → List Input
index_inputs None names = documents_from 1 names
index_inputs (Some stop) names = (Stop, stop) ∷ documents_from 1 names

-- the inputs of a command, in the order in which they are read
abbrev pub inputs_of : Command → List Input
inputs_of (command.Index delegates mode ring stop names) = index_inputs stop names
inputs_of (command.Script delegates mode ring trace name) = (Script, name) ∷ []
inputs_of (command.Replay delegates order script schedule) =
    (Script, script) ∷ (Schedule, schedule) ∷ []
inputs_of (command.Gen delegates mode ring docs words seed) = []

-- those of a command line, which has none where its words are no command
abbrev pub inputs_for : Option Command → List Input
inputs_for None = []
inputs_for (Some command) = inputs_of command

-- whether two are the same input
abbrev pub is_same_input : Which → Which → Bool
is_same_input Stop Stop = true
is_same_input (Name i) (Name j) = i == j
is_same_input Script Script = true
is_same_input Schedule Schedule = true
is_same_input _ _ = false

-- the name of an input, where it is one of these
abbrev pub name_of : List Input → Which → Option (List ℕ)
name_of inputs which =
    option_map (λ input. input.1) (find (λ input. is_same_input input.0 which) inputs)

-- an input of the command that the words are
abbrev pub IsInputOf : Option Command → Which → Type 0
IsInputOf command which = IsSome (name_of (inputs_for command) which)
