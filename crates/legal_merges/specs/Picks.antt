-- Which order of calls do picks give?
--
-- Each pick takes the next call of a lane, or of the program context. A pick that finds no call
-- takes a place that no call has, and with that no legal merge begins.
use Rattle.std.specs.Prelude.{ℕ, zero, suc, Bool, true, false, ◌&&◌, not, ◌==◌, if◌then◌else◌, Option, Some, None, List, [], ◌∷◌, ◌++◌, length, fold}
use Rattle.ss_base.specs.declared.ids.Event.{Event}
use Rattle.ss_base.specs.declared.ids.Event.TheVariants as event
use Rattle.execution_definitions.specs.Shapes.{Shape}
use Rattle.interleavings.specs.Merges.{lane_at, is_among}

-- the lane of which an event picks a call; the program context has none
abbrev pub lane_picked : Event → Option ℕ
lane_picked event.Program = None
lane_picked (event.Delegate lane) = Some lane.0

-- both are one lane, or both the program context
abbrev pub same_lane : Option ℕ → Option ℕ → Bool
same_lane None None = true
same_lane (Some lane) (Some other) = lane == other
same_lane _ _ = false

-- the place has a call of this lane, or of the program context, and isn't done
abbrev pub is_left : ℕ → List Shape → Option ℕ → List ℕ → ℕ → Bool
is_left n calls lane done place =
    same_lane (lane_at n calls place) lane && not (is_among done place)

-- the least of so many places from the first on that passes the test; else the place behind them
abbrev pub least_from : (ℕ → Bool) → ℕ → ℕ → ℕ
least_from test first zero = first
least_from test first (suc count) =
    if test first then first else least_from test (suc first) count

-- the place of the next call of a lane, or of the program context, after what is done; where there
-- is none, the number of calls
abbrev pub next_place : ℕ → List Shape → Option ℕ → List ℕ → ℕ
next_place n calls lane done = least_from (is_left n calls lane done) 0 (length calls)

-- one pick more
abbrev pub with_pick : ℕ → List Shape → List ℕ → Event → List ℕ
with_pick n calls done pick = done ++ next_place n calls (lane_picked pick) done ∷ []

-- the places that the picks take, in their order
abbrev pub picked : ℕ → List Shape → List Event → List ℕ
picked n calls picks = fold (with_pick n calls) [] picks
