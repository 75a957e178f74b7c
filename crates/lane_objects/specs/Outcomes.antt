-- What do objects, lanes and logs come to, and when is each object in one place?
--
-- A lane is here the store to which it comes once all that was sent is taken. So a lane that goes on
-- changes nothing of what is said here.
use Rattle.std.specs.Prelude.{◌≡◌, ℕ, true, is_some, Option, Some, List, [], ◌∷◌, ◌++◌, map, fold, slice_get, option_and_then}
use Rattle.std.specs.Option.{unwrap_or}
use Rattle.std.specs.Arc.{arc_value}
use Rattle.ss_base.specs.declared.ids.Run.{Run}
use Rattle.execution_definitions.specs.Meanings.{Meaning}
use Rattle.execution_definitions.specs.Sequential.{State}
use Rattle.delegates.specs.Stores.{Stored, value_of}
use Rattle.lane_objects.specs.declared.object.Object.{Object}
use Rattle.lane_objects.specs.declared.object.Object.TheVariants.{Here, Shared, Away}
use Rattle.lane_objects.specs.Objects.{found_at}

module _ {C R : Type 0} where
  -- the value that an object comes to in the lane of a number
  abbrev pub value_in : List (Stored C R) → ℕ → ℕ → Option C
  value_in lanes lane object =
      option_and_then (λ (s : Stored C R). value_of s object) (slice_get lanes lane)

  -- the value that an object comes to
  abbrev pub value_after : List (Stored C R) → Object C → C
  value_after lanes (Here value) = value
  value_after lanes (Shared shared) = arc_value shared
  value_after lanes (Away lane number was) = unwrap_or (value_in lanes lane number.0) was.value

  -- the runs sent to each lane: those of its log, and those that it comes to
  abbrev pub sent_runs : List (List Run) → List (Stored C R) → List (List Run)
  sent_runs (log ∷ logs) (s ∷ lanes) = (log ++ s.runs) ∷ sent_runs logs lanes
  sent_runs _ _ = []

  -- each object that went to a lane is there, under its number, and lanes have no others
  pub record AreApart (objects : List (Object C)) (lanes : List (Stored C R)) : Type 0 where
    pub number : (object lane number : ℕ) →
        found_at objects object ≡ Some (lane, number) → number ≡ object
    pub there : (object lane number : ℕ) →
        found_at objects object ≡ Some (lane, number) →
        is_some (value_in lanes lane object) ≡ true
    pub only : (object lane : ℕ) → is_some (value_in lanes lane object) ≡ true →
        found_at objects object ≡ Some (lane, object)

module _ {C O R : Type 0} (m : Meaning C O R) where
  -- a total with what a lane contributes
  abbrev pub with_lane : R → Stored C R → R
  with_lane total s = m.join total s.total

  abbrev pub total_after : R → List (Stored C R) → R
  total_after total lanes = fold with_lane total lanes

  -- values and total, with all that was sent done
  abbrev pub state_from : List (Object C) → R → List (Stored C R) → State C R
  state_from objects total lanes = record {
    values = map (value_after lanes) objects;
    total = total_after total lanes;
  }
