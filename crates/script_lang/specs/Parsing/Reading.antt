-- What has been read after one line more?
use Rattle.std.specs.Prelude.{ℕ, ◌+◌, Bool, true, false, if◌then◌else◌, Option, None}
use Rattle.std.specs.Prelude.{List, [], ◌∷◌, ◌++◌, slice_get, Result, Ok, Err}
use Rattle.script_lang.specs.declared.command.Command.{Command}
use Rattle.script_lang.specs.declared.command.Command.TheVariants.{Make, MakeFixed}
use Rattle.script_lang.specs.declared.fault.ScriptFault.{ScriptFault}
use Rattle.script_lang.specs.declared.fault.ScriptKind.{ScriptKind}
use Rattle.script_lang.specs.Commands.{line_command, names_made}
use Rattle.script_lang.specs.Lines.{line_words, is_skipped}
use Rattle.script_lang.specs.Listings.{Listing}

-- before the first line
abbrev pub nothing_read : Listing
nothing_read = record { commands = []; names = [] }

-- the command makes an object
abbrev pub makes_object : Command → Bool
makes_object (Make value by) = true
makes_object (MakeFixed value) = true
makes_object _ = false

-- the name that a command makes: the second word of its line
unfoldable pub name_made : Command → List (List ℕ) → Option (List ℕ)
name_made command words = if makes_object command then slice_get words 1 else None

-- the listing with the command of one line more
abbrev pub listing_with : Listing → ℕ → List (List ℕ) → Command → Listing
listing_with listing line words command = record {
  commands = listing.commands ++ record { command = command; line = line } ∷ [];
  names = listing.names ++ names_made words;
}

-- after a command, or its fault
abbrev pub after_command :
    Listing → ℕ → List (List ℕ) → Result Command ScriptKind → Result Listing ScriptFault
after_command listing line words (Ok command) = Ok (listing_with listing line words command)
after_command listing line words (Err kind) = Err (record { line = line; kind = kind })

-- after a line with this number and these words
unfoldable pub after_line : Listing → ℕ → List (List ℕ) → Result Listing ScriptFault
after_line listing line words =
    if is_skipped words then Ok listing
    else after_command listing line words (line_command listing.names words)

-- the next lines, unless a line before them has a fault
abbrev pub unless_stopped :
    Result Listing ScriptFault → (Listing → Result Listing ScriptFault) → Result Listing ScriptFault
unless_stopped (Ok listing) next = next listing
unless_stopped (Err fault) next = Err fault

-- after these lines, the first of which has this number
abbrev pub after_lines : Listing → ℕ → List (List ℕ) → Result Listing ScriptFault
after_lines listing line [] = Ok listing
after_lines listing line (text ∷ rest) =
    unless_stopped (after_line listing line (line_words text))
    (λ more. after_lines more (line + 1) rest)
