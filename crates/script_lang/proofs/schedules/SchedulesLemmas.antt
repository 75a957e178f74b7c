-- Words read one after the other come to the steps of the schedule.
use Rattle.std.proofs.Common.{◌≡◌, ℕ, ◌+◌, ◌<◌, ◌≤◌, cond, Some, None, List, [], ◌∷◌, ◌++◌, length}
use Rattle.std.proofs.Common.{Result, Ok, Err, drop, get_or}
use Rattle.std.proofs.Common.{refl, sym, ◌∙◌, ap, append-nil, append_assoc, arith}
use Rattle.std.specs.List.{filter_map, cons_option, slice_split}
use Rattle.std.specs.Option.{is_none}
use Rattle.std.proofs.lemmas.List.{at_drop_more, at_drop_all}
use Rattle.std.proofs.lemmas.List.Splits.{length-slice_split}
use Rattle.std.proofs.lemmas.List.Sums.{length-filter, count_by-le-length}
use Rattle.ss_base.specs.declared.ids.Event.{Event}
use Rattle.script_lang.specs.Commands.{unless_fault}
use Rattle.script_lang.specs.Lines.{is_some_word}
use Rattle.script_lang.specs.Schedules.{is_gap, schedule_words, event_of, bad_number}
use Rattle.script_lang.specs.Schedules.{schedule_of}
use Rattle.script_lang.specs.Parsing.Schedule.{unless_bad, after_words}

-- these steps and those of words, or the first bad word behind others
abbrev read : List Event → ℕ → List (List ℕ) → Result (List Event) ℕ
read events number words =
    unless_fault (bad_number number words) (events ++ filter_map event_of words)

after_words-read :
    (events : List Event) (number : ℕ) (words : List (List ℕ))
    → after_words events number words ≡ read events number words
after_words-read events number [] = ap Ok (sym (append-nil events))
after_words-read events number (word ∷ rest) =
    elim (event_of word) as (λ step.
    unless_bad number step (λ event. after_words (events ++ event ∷ []) (number + 1) rest)
    ≡ unless_fault (cond (is_none step) (Some number) (bad_number (number + 1) rest))
    (events ++ cons_option step (filter_map event_of rest))) [
      | None ↦ refl
      | Some event ↦ after_words-read (events ++ event ∷ []) (number + 1) rest
          ∙ ap (unless_fault (bad_number (number + 1) rest))
          (append_assoc events (event ∷ []) (filter_map event_of rest))
    ]

-- read from the first word on
pub after_all : (bytes : List ℕ) → after_words [] 1 (schedule_words bytes) ≡ schedule_of bytes
after_all bytes = after_words-read [] 1 (schedule_words bytes)

module _ (events : List Event) (place : ℕ) (word : List ℕ) (words : List (List ℕ))
    (within : place < length words) (is : word ≡ get_or words place word) where
  this_word :
      after_words events (place + 1) (drop place words)
      ≡ unless_bad (place + 1) (event_of word)
      (λ event. after_words (events ++ event ∷ []) (place + 1 + 1) (drop (place + 1) words))
  this_word =
      at_drop_more (after_words events (place + 1)) words place word within
      ∙ ap (λ w. unless_bad (place + 1) (event_of w)
      (λ event. after_words (events ++ event ∷ []) (place + 1 + 1) (drop (place + 1) words)))
      (sym is)

  -- a word that is a step
  pub next_word : (event : Event) → event_of word ≡ Some event
      → (more : List Event) → more ≡ events ++ event ∷ []
      → after_words more (place + 1 + 1) (drop (place + 1) words)
      ≡ after_words events (place + 1) (drop place words)
  next_word event step more pushed =
      ap (λ es. after_words es (place + 1 + 1) (drop (place + 1) words)) pushed
      ∙ sym (this_word ∙ ap (λ s. unless_bad (place + 1) s
      (λ e. after_words (events ++ e ∷ []) (place + 1 + 1) (drop (place + 1) words))) step)

  -- a bad word
  pub bad_word : event_of word ≡ None
      → after_words events (place + 1) (drop place words) ≡ Err (place + 1)
  bad_word none =
      this_word ∙ ap (λ s. unless_bad (place + 1) s
      (λ e. after_words (events ++ e ∷ []) (place + 1 + 1) (drop (place + 1) words))) none

-- no word is left
pub no_word : (events : List Event) (place : ℕ) (words : List (List ℕ)) → length words ≤ place
    → after_words events (place + 1) (drop place words) ≡ Ok events
no_word events place words past = at_drop_all (after_words events (place + 1)) words place past

-- there are no more words than bytes and one
pub few_words : (bytes : List ℕ) → length (schedule_words bytes) ≤ length bytes + 1
few_words bytes =
    let parts = slice_split is_gap bytes in
    let words : length (schedule_words bytes) ≤ length parts =
    omega (arith, length-filter is_some_word parts, count_by-le-length is_some_word parts) in
    omega (arith, words, length-slice_split is_gap bytes, count_by-le-length is_gap bytes)
