-- What was given of the options so far?
use Rattle.std.specs.Prelude.{ℕ, List, ◌++◌, None, Some}
use Rattle.std.specs.declared.option.Option.{Option}
use Rattle.std.specs.Option.{option_copied, option_to_list}
use Rattle.command_line.specs.declared.options.Options.{Options}
use Rattle.command_line.specs.declared.setting.Setting.{Setting}
use Rattle.command_line.specs.declared.setting.Setting.TheVariants as setting
use Rattle.command_line.specs.Options.{Given, at_most_one, all_given}
use Rattle.command_line.specs.Pieces.{Piece, words_of}

abbrev pub given_in : Options → Given
given_in options = record {
  delegates = option_copied options.delegates;
  mode = option_copied options.mode;
  ring = option_copied options.ring;
  stop = option_copied options.stop;
  trace = option_copied options.trace;
  order = option_copied options.order;
}

-- the word of an option that may have one already
abbrev pub one_more : Option (List ℕ) → List ℕ → Option (Option (List ℕ))
one_more None word = Some (Some word)
one_more (Some before) word = None

-- the one word of an option, behind the one that it has already
abbrev pub words_behind :
    Option (List ℕ) → Setting → List Piece → Option (Option (List ℕ))
words_behind before owner pieces =
    at_most_one (option_to_list before ++ words_of (Some owner) pieces)

-- what is given by pieces, behind what was given before them
unfoldable pub given_behind : Given → List Piece → Option Given
given_behind given pieces =
    all_given (words_behind given.delegates setting.Delegates pieces)
    (words_behind given.mode setting.Mode pieces) (words_behind given.ring setting.Ring pieces)
    (words_behind given.stop setting.Stop pieces) (words_behind given.trace setting.Trace pieces)
    (words_behind given.order setting.Order pieces)

-- nothing is given yet
abbrev pub nothing_given : Given
nothing_given = record {
  delegates = None;
  mode = None;
  ring = None;
  stop = None;
  trace = None;
  order = None;
}
