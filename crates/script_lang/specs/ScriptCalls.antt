-- Which calls does a script stand for?
use Rattle.std.specs.Prelude.{Bool, List, [], ◌∷◌, ◌++◌, map, if◌then◌else◌}
use Rattle.execution_definitions.specs.Epochs.{isolating}
use Rattle.execution_definitions.specs.declared.call.Call.{Call}
use Rattle.execution_definitions.specs.declared.call.Call.TheVariants as call
use Rattle.execution_definitions.specs.Meanings.{shape_of}
use Rattle.script_lang.specs.declared.word32.Word32.{Word32}
use Rattle.script_lang.specs.declared.word32.Deed.{Deed}
use Rattle.script_lang.specs.declared.command.Command.{Command}
use Rattle.script_lang.specs.declared.command.Command.TheVariants.{Make, MakeFixed, Begin, End}
use Rattle.script_lang.specs.declared.command.Command.TheVariants.{Delegate, Write, Get, Total}
use Rattle.script_lang.specs.declared.command.Placed.{Placed}
use Rattle.script_lang.specs.Acts.{own_set}
use Rattle.script_lang.specs.Listings.{Listing}

-- a call on the values of scripts
abbrev pub ScriptCall : Type 0
ScriptCall = Call Word32 Deed

-- the call of a command
abbrev pub call_of : Command → ScriptCall
call_of (Make value by) = call.Make (record { 0 = value }) by
call_of (MakeFixed value) = call.MakeFixed (record { 0 = value })
call_of Begin = call.Begin
call_of End = call.End
call_of (Delegate object deed reading) = call.Delegate object deed reading
call_of (Write object deed) = call.Write object deed
call_of (Get object) = call.Get object
call_of Total = call.Total

-- the calls of commands
abbrev pub listed_calls : List Placed → List ScriptCall
listed_calls commands = map (λ placed. call_of placed.command) commands

-- some begin has no end after it
abbrev pub ends_within_epoch : List ScriptCall → Bool
ends_within_epoch calls = isolating (map (shape_of own_set) calls)

-- with an end, where they lack one
unfoldable pub ended : List ScriptCall → List ScriptCall
ended calls = if ends_within_epoch calls then calls ++ call.End ∷ [] else calls

-- the calls of a script, numbered from 0
abbrev pub calls_of : Listing → List ScriptCall
calls_of listing = ended (listed_calls listing.commands)
