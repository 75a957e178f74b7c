-- Which command is a line of words, one step after the other?
use Rattle.std.specs.Prelude.{ℕ, List, [], ◌∷◌, if◌then◌else◌, Some, None, Result, Ok, Err}
use Rattle.std.specs.declared.option.Option.{Option}
use Rattle.std.specs.Option.{ok_or}
use Rattle.execution_definitions.specs.declared.serializer.By.{By}
use Rattle.execution_definitions.specs.declared.serializer.By.TheVariants as by
use Rattle.script_lang.specs.declared.fault.ScriptKind.{ScriptKind}
use Rattle.script_lang.specs.declared.fault.ScriptKind.TheVariants.{BadShape}
use Rattle.script_lang.specs.declared.keyword.Keyword.{Keyword}
use Rattle.script_lang.specs.declared.keyword.Keyword.TheVariants as keyword
use Rattle.script_lang.specs.declared.word32.Act.TheVariants as act
use Rattle.script_lang.specs.declared.command.Command.{Command}
use Rattle.script_lang.specs.declared.command.Command.TheVariants.{Make, MakeFixed, Begin, End}
use Rattle.script_lang.specs.declared.command.Command.TheVariants.{Delegate, Write, Get, Total}
use Rattle.script_lang.specs.Keywords.{serializer_named, is_in}
use Rattle.script_lang.specs.Parsing.Parts.{◌>>=◌, object_of, may_name, number, act_of, deed_of}

-- what a command is, or its fault
abbrev pub Asked : Type 0
Asked = Result Command ScriptKind

-- ---- what is asked for, once the words have a shape

-- a writable object, with its serializer where there is one of this word
unfoldable pub make : List (List ℕ) → List ℕ → List ℕ → Option By → Asked
make names name value serializer = do
  serializer ← ok_or serializer BadShape
  _ ← may_name names name
  value ← number value
  Ok (Make value serializer)

-- a read-only object
unfoldable pub make_fixed : List (List ℕ) → List ℕ → List ℕ → Asked
make_fixed names name value = do
  _ ← may_name names name
  value ← number value
  Ok (MakeFixed value)

-- an act, with a number or none, delegated to an object, with a set or none
unfoldable pub delegate :
    List (List ℕ) → List ℕ → List ℕ → Option (List ℕ) → Option (List ℕ) → Asked
delegate names name word text set = do
  act ← ok_or (act_of word text) BadShape
  object ← object_of names name
  deed ← deed_of act set
  Ok (Delegate object deed None)

-- a Mix delegated to the first object, reading the second, with a set or none
unfoldable pub mix : List (List ℕ) → List ℕ → List ℕ → Option (List ℕ) → Asked
mix names first second set = do
  object ← object_of names first
  reading ← object_of names second
  deed ← deed_of (Ok act.Mix) set
  Ok (Delegate object deed (Some reading))

-- an act, with a number or none, in the program context
unfoldable pub write : List (List ℕ) → List ℕ → List ℕ → Option (List ℕ) → Asked
write names name word text = do
  act ← ok_or (act_of word text) BadShape
  object ← object_of names name
  deed ← deed_of act None
  Ok (Write object deed)

-- an object's value
unfoldable pub show : List (List ℕ) → List ℕ → Asked
show names name = do
  object ← object_of names name
  Ok (Get object)

-- ---- the shapes, as lists of the words behind the command word

-- NAME NUMBER, and NAME NUMBER with the word of a serializer
abbrev pub object_line : List (List ℕ) → List (List ℕ) → Asked
object_line names (name ∷ value ∷ []) = make names name value (Some by.Object)
object_line names (name ∷ value ∷ word ∷ []) = make names name value (serializer_named word)
object_line names _ = Err BadShape

-- NAME NUMBER
abbrev pub fixed_line : List (List ℕ) → List (List ℕ) → Asked
fixed_line names (name ∷ value ∷ []) = make_fixed names name value
fixed_line names _ = Err BadShape

-- no words
abbrev pub alone : Command → List (List ℕ) → Asked
alone command [] = Ok command
alone command _ = Err BadShape

-- NAME ACT, and NAME ACT in SET, where an ACT is one word or a word and a NUMBER
abbrev pub do_line : List (List ℕ) → List (List ℕ) → Asked
do_line names (name ∷ act ∷ []) = delegate names name act None None
do_line names (name ∷ act ∷ value ∷ []) = delegate names name act (Some value) None
do_line names (name ∷ act ∷ word ∷ set ∷ []) =
    if is_in word then delegate names name act None (Some set) else Err BadShape
do_line names (name ∷ act ∷ value ∷ word ∷ set ∷ []) =
    if is_in word then delegate names name act (Some value) (Some set) else Err BadShape
do_line names _ = Err BadShape

-- NAME NAME, and NAME NAME in SET
abbrev pub mix_line : List (List ℕ) → List (List ℕ) → Asked
mix_line names (first ∷ second ∷ []) = mix names first second None
mix_line names (first ∷ second ∷ word ∷ set ∷ []) =
    if is_in word then mix names first second (Some set) else Err BadShape
mix_line names _ = Err BadShape

-- NAME ACT
abbrev pub write_line : List (List ℕ) → List (List ℕ) → Asked
write_line names (name ∷ act ∷ []) = write names name act None
write_line names (name ∷ act ∷ value ∷ []) = write names name act (Some value)
write_line names _ = Err BadShape

-- NAME
abbrev pub show_line : List (List ℕ) → List (List ℕ) → Asked
show_line names (name ∷ []) = show names name
show_line names _ = Err BadShape

-- the words behind a command word
unfoldable pub line_of : List (List ℕ) → Keyword → List (List ℕ) → Asked
line_of names keyword.Object words = object_line names words
line_of names keyword.Fixed words = fixed_line names words
line_of names keyword.Isolate words = alone Begin words
line_of names keyword.Join words = alone End words
line_of names keyword.Do words = do_line names words
line_of names keyword.Mix words = mix_line names words
line_of names keyword.Write words = write_line names words
line_of names keyword.Show words = show_line names words
line_of names keyword.Total words = alone Total words
