-- What do a name, a number, a set and an act stand for, one after the other, or what is their fault?
use Rattle.std.specs.Prelude.{ℕ, List, codes, if◌then◌else◌, Some, None, Result, Ok, Err}
use Rattle.std.specs.declared.option.Option.{Option}
use Rattle.std.specs.Option.{option_map, ok_or, is_some}
use Rattle.std.specs.Str.{bytes_eq}
use Rattle.ss_base.specs.Ids.{object_id}
use Rattle.ss_base.specs.declared.ids.ObjectId.{ObjectId}
use Rattle.script_lang.specs.declared.fault.ScriptKind.{ScriptKind}
use Rattle.script_lang.specs.declared.fault.ScriptKind.TheVariants.{BadName, NameTaken}
use Rattle.script_lang.specs.declared.fault.ScriptKind.TheVariants.{NameUnknown, BadNumber}
use Rattle.script_lang.specs.declared.word32.Act.{Act}
use Rattle.script_lang.specs.declared.word32.Act.TheVariants.{Add, Mul, Set, Give}
use Rattle.script_lang.specs.declared.word32.Deed.{Deed}
use Rattle.text_table.specs.TextTables.{number_of}
use Rattle.script_lang.specs.Tokens.{is_name, number_value, set_value}

-- the next step, unless this one has a fault
infixl 10 ◌>>=◌
abbrev pub ◌>>=◌ :
    {A B : Type 0} → Result A ScriptKind → (A → Result B ScriptKind) → Result B ScriptKind
Ok a >>= next = next a
Err kind >>= next = Err kind

-- the object of a name that was made
unfoldable pub object_of : List (List ℕ) → List ℕ → Result ObjectId ScriptKind
object_of names name = ok_or (option_map object_id (number_of names name)) NameUnknown

-- nothing, where an object may have this name
unfoldable pub may_name : List (List ℕ) → List ℕ → Result (Unit {0}) ScriptKind
may_name names name =
    if is_name name
    then (if is_some (number_of names name) then Err NameTaken else Ok tt)
    else Err BadName

-- a NUMBER
unfoldable pub number : List ℕ → Result ℕ ScriptKind
number word = ok_or (number_value word) BadNumber

-- the SET behind `in`; without it 0
unfoldable pub set_behind : Option (List ℕ) → Result ℕ ScriptKind
set_behind None = Ok 0
set_behind (Some word) = ok_or (set_value word) BadNumber

-- the act of a word, and of a number behind it or none; none where no act is spelt so
unfoldable pub act_of : List ℕ → Option (List ℕ) → Option (Result Act ScriptKind)
act_of word None = if bytes_eq word (codes "give") then Some (Ok Give) else None
act_of word (Some text) =
    if bytes_eq word (codes "add") then Some (number text >>= λ k. Ok (Add k))
    else (if bytes_eq word (codes "mul") then Some (number text >>= λ k. Ok (Mul k))
    else (if bytes_eq word (codes "set") then Some (number text >>= λ k. Ok (Set k))
    else None))

-- an act with its own set
unfoldable pub deed_of : Result Act ScriptKind → Option (List ℕ) → Result Deed ScriptKind
deed_of act set = do
  act ← act
  set ← set_behind set
  Ok (record { act = act; set = set })
