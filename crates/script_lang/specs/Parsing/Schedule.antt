-- Which steps has a schedule after one word more?
use Rattle.std.specs.Prelude.{ℕ, ◌+◌, Option, Some, None, List, [], ◌∷◌, ◌++◌, Result, Ok, Err}
use Rattle.ss_base.specs.declared.ids.Event.{Event}
use Rattle.script_lang.specs.Schedules.{event_of}

-- the next words, unless the word of this number is bad
abbrev pub unless_bad :
    ℕ → Option Event → (Event → Result (List Event) ℕ) → Result (List Event) ℕ
unless_bad number None next = Err number
unless_bad number (Some event) next = next event

-- these steps and those of words, the first of which has this number
abbrev pub after_words : List Event → ℕ → List (List ℕ) → Result (List Event) ℕ
after_words events number [] = Ok events
after_words events number (word ∷ rest) =
    unless_bad number (event_of word)
    (λ event. after_words (events ++ event ∷ []) (number + 1) rest)
