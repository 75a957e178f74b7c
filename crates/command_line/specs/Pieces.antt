-- What do the words behind a command say?
--
-- Some are options. Most of these have a value: the next word, or what stands behind `=`. All others
-- are words of no option, and so are all behind `--`.
use Rattle.std.specs.Prelude.{ℕ, Bool, true, false, not, ◌==◌, nat_le, if◌then◌else◌}
use Rattle.std.specs.Prelude.{List, [], ◌∷◌, length, codes, Some, None}
use Rattle.std.specs.declared.option.Option.{Option}
use Rattle.std.specs.List.{before_first, after_first}
use Rattle.std.specs.Option.{option_map, option_map_or}
use Rattle.std.specs.Str.{bytes_eq}
use Rattle.command_line.specs.declared.setting.Setting.{Setting}
use Rattle.command_line.specs.declared.setting.Setting.TheVariants as setting

-- a word, and the option whose value it is, or which it names, if it has no value
abbrev pub Piece : Type 0
Piece = Option Setting × List ℕ

-- the option of this name that has a value
unfoldable pub setting_named : List ℕ → Option Setting
setting_named word =
    if bytes_eq word (codes "--delegates") then Some setting.Delegates
    else (if bytes_eq word (codes "--mode") then Some setting.Mode
    else (if bytes_eq word (codes "--ring") then Some setting.Ring
    else (if bytes_eq word (codes "--stop") then Some setting.Stop
    else None)))

-- the option of this name that has no value
unfoldable pub flag_named : List ℕ → Option Setting
flag_named word =
    if bytes_eq word (codes "--trace") then Some setting.Trace
    else (if bytes_eq word (codes "--order") then Some setting.Order
    else None)

-- the word isn't empty, and begins with `-` (byte 45) only where it is that
abbrev pub is_plain : List ℕ → Bool
is_plain [] = false
is_plain (byte ∷ []) = true
is_plain (first ∷ rest) = not (first == 45)

-- `=`
abbrev pub is_equals : ℕ → Bool
is_equals byte = byte == 61

-- the option and the value in `--x=V`
unfoldable pub joined : List ℕ → Option Piece
joined word =
    let value = after_first is_equals word in
    if nat_le 1 (length value)
    then option_map (λ owner. (Some owner, value)) (setting_named (before_first is_equals word))
    else None

-- a piece before others, if those are all right
abbrev pub and_piece : Piece → Option (List Piece) → Option (List Piece)
and_piece piece pieces = option_map (λ others. piece ∷ others) pieces

-- behind `--` each word is one of no option, and none is empty
unfoldable pub words_behind_end : List (List ℕ) → Option (List Piece)
words_behind_end [] = Some []
words_behind_end (word ∷ words) =
    if nat_le 1 (length word) then and_piece (None, word) (words_behind_end words) else None

-- what words say, where an option before them waits for its value, if one does; none is usage
unfoldable pub pieces : List (List ℕ) → Option Setting → Option (List Piece)
pieces [] None = Some []
pieces [] (Some owner) = None
pieces (value ∷ words) (Some owner) =
    if is_plain value then and_piece (Some owner, value) (pieces words None) else None
pieces (word ∷ words) None =
    if is_plain word then and_piece (None, word) (pieces words None)
    else (if bytes_eq word (codes "--") then words_behind_end words
    else option_map_or (λ owner. pieces words (Some owner)) (setting_named word)
    (option_map_or (λ owner. and_piece (Some owner, word) (pieces words None)) (flag_named word)
    (option_map_or (λ piece. and_piece piece (pieces words None)) (joined word) None)))

-- whether both are the same option, or both are none
abbrev pub is_same_owner : Option Setting → Option Setting → Bool
is_same_owner None None = true
is_same_owner (Some setting.Delegates) (Some setting.Delegates) = true
is_same_owner (Some setting.Mode) (Some setting.Mode) = true
is_same_owner (Some setting.Ring) (Some setting.Ring) = true
is_same_owner (Some setting.Stop) (Some setting.Stop) = true
is_same_owner (Some setting.Trace) (Some setting.Trace) = true
is_same_owner (Some setting.Order) (Some setting.Order) = true
is_same_owner _ _ = false

-- the words of an option's pieces, or those of none, in their order
unfoldable pub words_of : Option Setting → List Piece → List (List ℕ)
words_of owner [] = []
words_of owner (piece ∷ pieces) =
    if is_same_owner owner piece.0 then piece.1 ∷ words_of owner pieces else words_of owner pieces
