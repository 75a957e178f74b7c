-- Which steps does a schedule ask for, or which of its words is bad?
--
-- Its words are its longest runs of bytes that are neither blanks nor line ends. A word is `p`, the
-- program context's step, or one or two decimal digits of a value below 64, the step of that lane.
use Rattle.std.specs.Prelude.{ℕ, Bool, ◌||◌, if◌then◌else◌, Option, Some}
use Rattle.std.specs.Prelude.{List, codes, filter, Result}
use Rattle.std.specs.List.{filter_map, position_from, slice_split}
use Rattle.std.specs.Option.{is_none, option_map}
use Rattle.std.specs.Str.{bytes_eq}
use Rattle.ss_base.specs.declared.ids.Lane.{Lane}
use Rattle.ss_base.specs.declared.ids.Event.{Event}
use Rattle.ss_base.specs.declared.ids.Event.TheVariants.{Program, Delegate}
use Rattle.script_lang.specs.Commands.{unless_fault}
use Rattle.script_lang.specs.Lines.{is_blank, is_line_end, is_some_word}
use Rattle.script_lang.specs.Tokens.{value_within}

-- the byte stands between words
abbrev pub is_gap : ℕ → Bool
is_gap byte = is_blank byte || is_line_end byte

-- the words of a schedule
abbrev pub schedule_words : List ℕ → List (List ℕ)
schedule_words bytes = filter is_some_word (slice_split is_gap bytes)

-- the lane of a number
abbrev pub lane_number : ℕ → Lane
lane_number number = record { 0 = number }

-- the lane of one or two digits
unfoldable pub lane_named : List ℕ → Option Lane
lane_named word = option_map lane_number (value_within 2 63 word)

-- the step of a word
unfoldable pub event_of : List ℕ → Option Event
event_of word =
    if bytes_eq word (codes "p") then Some Program else option_map Delegate (lane_named word)

-- the number of the first word that is no step, where they are numbered from this one on
abbrev pub bad_number : ℕ → List (List ℕ) → Option ℕ
bad_number number words = position_from (λ word. is_none (event_of word)) number words

-- the steps of a schedule, or the number of its first bad word, counted from 1
abbrev pub schedule_of : List ℕ → Result (List Event) ℕ
schedule_of bytes =
    let words = schedule_words bytes in
    unless_fault (bad_number 1 words) (filter_map event_of words)
