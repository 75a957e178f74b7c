-- Which is the first call of a program that the partition rule refuses?
--
-- Where there is none the program is sound: it runs with delegates as it does without.
use Rattle.std.specs.Prelude.{◌≡◌, ℕ, Option, Some, None, List, [], ◌∷◌, ◌++◌, length, take, slice_get, option_and_then}
use Rattle.execution_definitions.specs.declared.refusal.Refusal.{Refusal}
use Rattle.execution_definitions.specs.Shapes.{Shape}
use Rattle.execution_definitions.specs.Refusals.{breaks}

-- the refusal of the call at a place
abbrev pub refusal_at : List Shape → ℕ → Option Refusal
refusal_at calls place = option_and_then (breaks (take place calls)) (slice_get calls place)

-- a place where there is a refusal, and else a later place
abbrev pub place_or : Option Refusal → ℕ → Option ℕ → Option ℕ
place_or (Some refusal) place later = Some place
place_or None place later = later

-- the place of the first call that is refused, of a list that follows these calls
abbrev pub first_break_after : List Shape → List Shape → Option ℕ
first_break_after before [] = None
first_break_after before (call ∷ rest) =
    place_or (breaks before call) (length before) (first_break_after (before ++ call ∷ []) rest)

-- the place of the first call of a list that is refused
abbrev pub first_break : List Shape → Option ℕ
first_break calls = first_break_after [] calls

-- the refusal of that call
abbrev pub first_refusal : List Shape → Option Refusal
first_refusal calls = option_and_then (refusal_at calls) (first_break calls)

-- no call of the list is refused
abbrev pub IsSound : List Shape → Type 0
IsSound calls = first_break calls ≡ None
