-- What is a line of words: which command, or which fault?
--
-- The faults are tried in the order of `ScriptKind`, and the first that holds is the line's. `names`
-- are those of the objects that the lines above make, in order.
use Rattle.std.specs.Prelude.{ℕ, Bool, false, not, if◌then◌else◌, Option, Some, None, find}
use Rattle.std.specs.Prelude.{List, [], ◌∷◌, Result, Ok, Err}
use Rattle.std.specs.List.{filter_map, list_any, slice_index, zip}
use Rattle.std.specs.Option.{is_none, is_some, option_and_then}
use Rattle.ss_base.specs.Ids.{object_id}
use Rattle.text_table.specs.TextTables.{number_of}
use Rattle.script_lang.specs.declared.command.Command.{Command}
use Rattle.script_lang.specs.declared.fault.ScriptKind.{ScriptKind}
use Rattle.script_lang.specs.declared.fault.ScriptKind.TheVariants as kind
use Rattle.script_lang.specs.declared.keyword.Keyword.{Keyword}
use Rattle.script_lang.specs.Grammar.{Slot, NewName, Name, Number, Set, Parts, LineShape}
use Rattle.script_lang.specs.Grammar.{shape_of}
use Rattle.script_lang.specs.Keywords.{keyword_of}
use Rattle.script_lang.specs.Tokens.{is_name, number_value, set_value}

-- words at their slots
abbrev pub Filled : Type 0
Filled = List (Slot × List ℕ)

-- ---- the words of a line at their slots

-- the command word
abbrev pub keyword_in : List (List ℕ) → Option Keyword
keyword_in [] = None
keyword_in (word ∷ words) = keyword_of word

-- the words behind it
abbrev pub words_behind : List (List ℕ) → List (List ℕ)
words_behind [] = []
words_behind (word ∷ words) = words

-- the shape that they fit
abbrev pub shape_in : List (List ℕ) → Option LineShape
shape_in words = option_and_then (λ keyword. shape_of keyword (words_behind words)) (keyword_in words)

-- ---- faults

-- a line above makes an object of this name
abbrev pub is_made : List (List ℕ) → List ℕ → Bool
is_made names name = is_some (number_of names name)

-- a word at a slot has a fault of this kind
abbrev pub has_fault : List (List ℕ) → ScriptKind → Slot → List ℕ → Bool
has_fault names kind.BadName NewName word = not (is_name word)
has_fault names kind.NameTaken NewName word = is_made names word
has_fault names kind.NameUnknown Name word = not (is_made names word)
has_fault names kind.BadNumber Number word = is_none (number_value word)
has_fault names kind.BadNumber Set word = is_none (set_value word)
has_fault names kind slot word = false

-- the first fault that some word at its slot has
abbrev pub first_fault : List (List ℕ) → Filled → Option ScriptKind
first_fault names filled =
    find (λ kind. list_any (λ at. has_fault names kind at.0 at.1) filled)
    (kind.BadName ∷ kind.NameTaken ∷ kind.NameUnknown ∷ kind.BadNumber ∷ [])

-- ---- parts

-- the number of the object that is named at a slot
abbrev pub object_at : List (List ℕ) → Slot → List ℕ → Option ℕ
object_at names Name word = number_of names word
object_at names slot word = None

-- the value of a NUMBER
abbrev pub number_at : Slot → List ℕ → Option ℕ
number_at Number word = number_value word
number_at slot word = None

-- the value of a SET
abbrev pub set_at : Slot → List ℕ → Option ℕ
set_at Set word = set_value word
set_at slot word = None

-- what words at their slots stand for
abbrev pub parts_of : List (List ℕ) → Filled → Parts
parts_of names filled =
    let objects = filter_map (λ at. object_at names at.0 at.1) filled in
    record {
      object = object_id (slice_index objects 0);
      other = object_id (slice_index objects 1);
      number = slice_index (filter_map (λ at. number_at at.0 at.1) filled) 0;
      set = slice_index (filter_map (λ at. set_at at.0 at.1) filled) 0;
    }

-- ---- the command

-- a fault where there is one, and else what is meant
abbrev pub unless_fault : {E T : Type 0} → Option E → T → Result T E
unless_fault (Some fault) meant = Err fault
unless_fault None meant = Ok meant

-- the command of words that fit a shape, or none
abbrev pub shaped_command :
    List (List ℕ) → Option LineShape → List (List ℕ) → Result Command ScriptKind
shaped_command names None words = Err kind.BadShape
shaped_command names (Some shape) words =
    let filled = zip shape.slots words in
    unless_fault (first_fault names filled) (shape.command (parts_of names filled))

-- the command of a line, or its first fault
unfoldable pub line_command : List (List ℕ) → List (List ℕ) → Result Command ScriptKind
line_command names words =
    if is_none (keyword_in words) then Err kind.UnknownCommand
    else shaped_command names (shape_in words) (words_behind words)

-- ---- the name that a line makes

-- the new name at a slot
abbrev pub name_at : Slot → List ℕ → Option (List ℕ)
name_at NewName word = Some word
name_at slot word = None

-- the new names among words that fit a shape, or none
abbrev pub shaped_names : Option LineShape → List (List ℕ) → List (List ℕ)
shaped_names None words = []
shaped_names (Some shape) words = filter_map (λ at. name_at at.0 at.1) (zip shape.slots words)

-- the names that a line makes
unfoldable pub names_made : List (List ℕ) → List (List ℕ)
names_made words = shaped_names (shape_in words) (words_behind words)
