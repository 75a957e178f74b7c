-- Is an epoch open after one command more?
use Rattle.std.specs.Prelude.{Bool, true, false}
use Rattle.script_lang.specs.declared.command.Command.{Command}
use Rattle.script_lang.specs.declared.command.Command.TheVariants.{Begin, End}

-- an epoch is open after a command, where it was or wasn't before
abbrev pub is_open_after : Command → Bool → Bool
is_open_after Begin is_open = true
is_open_after End is_open = false
is_open_after _ is_open = is_open
