-- What is left of the words behind a command?
use Rattle.std.specs.Prelude.{ℕ, ◌≡◌, ◌<◌, List, [], ◌∷◌, length, map, string_bytes}
use Rattle.std.specs.Prelude.{if◌then◌else◌, None, Some, IsSome, Result, Ok, Err}
use Rattle.std.specs.Borrow.{Bor}
use Rattle.std.specs.declared.option.Option.{Option}
use Rattle.std.specs.Option.{option_map_or}
use Rattle.command_line.specs.declared.pieces.Piece as rust
use Rattle.command_line.specs.declared.pieces.Rest.{Rest}
use Rattle.command_line.specs.declared.pieces.Usage.{Usage}
use Rattle.command_line.specs.declared.options.Said as rust_said
use Rattle.command_line.specs.Options as said
use Rattle.command_line.specs.Pieces.{Piece, pieces, and_piece, joined, setting_named, flag_named}
use Rattle.command_line.specs.Pieces.{words_behind_end, words_of}
use Rattle.command_line.specs.kept.Given.{given_in}

abbrev pub piece_of : rust.Piece → Piece
piece_of piece = (piece.owner, piece.word.now)

-- what the words that are left say; none is usage
abbrev pub rest_pieces : Rest → Option (List Piece)
rest_pieces rest =
    let words = map string_bytes rest.words.now in
    if rest.is_behind_end then words_behind_end words else pieces words None

-- the first of these pieces and what is left behind it, of less than so many words, or usage
abbrev pub IsSplitFrom :
    Option (List Piece) → ℕ → Result (Option (rust.Piece × Rest)) Usage → Type 0
IsSplitFrom said count (Ok None) = said ≡ Some []
IsSplitFrom said count (Ok (Some (piece, others))) =
    (said ≡ and_piece (piece_of piece) (rest_pieces others))
    × (length others.words.now < count)
IsSplitFrom said count (Err usage) = said ≡ None

-- the same of what is left
abbrev pub IsSplit : Rest → Result (Option (rust.Piece × Rest)) Usage → Type 0
IsSplit rest result = IsSplitFrom (rest_pieces rest) (length rest.words.now) result

-- what an option and its value in one word say, before these words
abbrev pub said_joined : List ℕ → List (List ℕ) → Option (List Piece)
said_joined word words =
    option_map_or (λ piece. and_piece piece (pieces words None)) (joined word) None

-- what an option without a value says, before these words
abbrev pub said_flag : List ℕ → List (List ℕ) → Option (List Piece)
said_flag word words =
    option_map_or (λ owner. and_piece (Some owner, word) (pieces words None)) (flag_named word)
    (said_joined word words)

-- what an option says, before these words
abbrev pub said_option : List ℕ → List (List ℕ) → Option (List Piece)
said_option word words =
    option_map_or (λ owner. pieces words (Some owner)) (setting_named word) (said_flag word words)

-- the words of no option, of what is left
abbrev pub words_in : Rest → List (List ℕ)
words_in rest = option_map_or (words_of None) (rest_pieces rest) []

-- the first word of no option and what is left behind it, of words that are right
abbrev pub IsSplitWord : Rest → Option (Bor (List ℕ) × Rest) → Type 0
IsSplitWord rest None = words_in rest ≡ []
IsSplitWord rest (Some (word, others)) =
    (words_in rest ≡ word.now ∷ words_in others)
    × (length others.words.now < length rest.words.now)
    × IsSome (rest_pieces others)

-- what words say, with the words of no option that are left
abbrev pub IsSaid : Option said.Said → Option rust_said.Said → Type 0
IsSaid said None = said ≡ None
IsSaid said (Some found) =
    (said ≡ Some (record { given = given_in found.options; words = words_in found.words }))
    × IsSome (rest_pieces found.words)
