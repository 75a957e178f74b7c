-- What do the options say, and what holds where one isn't given?
use Rattle.std.specs.Prelude.{ℕ, List, [], ◌∷◌, codes, if◌then◌else◌, None, Some}
use Rattle.std.specs.declared.option.Option.{Option}
use Rattle.std.specs.Option.{option_and_then, option_map, option_map_or}
use Rattle.std.specs.Str.{bytes_eq}
use Rattle.ss_base.specs.declared.limits.TheConstants as limits
use Rattle.command_line.specs.declared.options.How.{How}
use Rattle.command_line.specs.declared.setting.Mode.{Mode}
use Rattle.command_line.specs.declared.setting.Mode.TheVariants as mode
use Rattle.command_line.specs.declared.setting.Setting.{Setting}
use Rattle.command_line.specs.declared.setting.Setting.TheVariants as setting
use Rattle.command_line.specs.Numbers.{number_in}
use Rattle.command_line.specs.Pieces.{Piece, pieces, words_of}

-- the mode of this name
unfoldable pub mode_named : List ℕ → Option Mode
mode_named word =
    if bytes_eq word (codes "lanes") then Some mode.Lanes
    else (if bytes_eq word (codes "batch") then Some mode.Batch
    else None)

-- the options that are given, each by its value; one that has none, by its name
pub record Given : Type 0 where
  pub delegates : Option (List ℕ)
  pub mode : Option (List ℕ)
  pub ring : Option (List ℕ)
  pub stop : Option (List ℕ)
  pub trace : Option (List ℕ)
  pub order : Option (List ℕ)

-- the one word of an option that stands, if it does; more than one are usage
abbrev pub at_most_one : List (List ℕ) → Option (Option (List ℕ))
at_most_one [] = Some None
at_most_one (word ∷ []) = Some (Some word)
at_most_one (first ∷ second ∷ others) = None

-- all of them, if each stands once at most
abbrev pub all_given :
    Option (Option (List ℕ)) → Option (Option (List ℕ)) → Option (Option (List ℕ))
    → Option (Option (List ℕ)) → Option (Option (List ℕ)) → Option (Option (List ℕ))
    → Option Given
all_given (Some delegates) (Some mode) (Some ring) (Some stop) (Some trace) (Some order) =
    Some (record {
      delegates = delegates;
      mode = mode;
      ring = ring;
      stop = stop;
      trace = trace;
      order = order;
    })
all_given _ _ _ _ _ _ = None

-- the one word of an option among pieces
abbrev pub one_of : Setting → List Piece → Option (Option (List ℕ))
one_of owner pieces = at_most_one (words_of (Some owner) pieces)

-- the options that pieces give
unfoldable pub given_by : List Piece → Option Given
given_by pieces =
    all_given (one_of setting.Delegates pieces) (one_of setting.Mode pieces)
    (one_of setting.Ring pieces) (one_of setting.Stop pieces) (one_of setting.Trace pieces)
    (one_of setting.Order pieces)

-- the number of delegates: from the least that a command takes to 64, or else 4
abbrev pub delegates_in : ℕ → Given → Option ℕ
delegates_in least given =
    option_map_or (number_in least limits.DELEGATES) given.delegates (Some 4)

-- the mode
abbrev pub mode_in : Given → Option Mode
mode_in given = option_map_or mode_named given.mode (Some mode.Lanes)

-- how many messages a lane holds: 1 to 4096, or else 256
abbrev pub ring_in : Given → Option ℕ
ring_in given = option_map_or (number_in 1 limits.RING) given.ring (Some 256)

-- how a command is run, if all three are right
abbrev pub how_of : Option ℕ → Option Mode → Option ℕ → Option How
how_of (Some delegates) (Some mode) (Some ring) =
    Some (record { delegates = delegates; mode = mode; ring = ring })
how_of _ _ _ = None

-- how a command is run, by the options that are given
abbrev pub how_in : Given → Option How
how_in given = how_of (delegates_in 0 given) (mode_in given) (ring_in given)

-- what the words behind a command say: options, and the words of none
pub record Said : Type 0 where
  pub given : Given
  pub words : List (List ℕ)

-- what pieces say, if each option stands once at most
abbrev pub said_in : List Piece → Option Said
said_in pieces =
    option_map (λ given. record { given = given; words = words_of None pieces }) (given_by pieces)

-- what these words say; none is usage
unfoldable pub said_by : List (List ℕ) → Option Said
said_by words = option_and_then said_in (pieces words None)
