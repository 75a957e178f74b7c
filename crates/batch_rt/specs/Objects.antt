-- What does the program context have of an object?
use Rattle.std.specs.Prelude.{◌≡◌, ℕ, Option, Some, None, List, [], ◌∷◌, slice_set}
use Rattle.ss_base.specs.declared.ids.ObjectId.{ObjectId}
use Rattle.std.specs.Arc.{arc_value}
use Rattle.batch_rt.specs.declared.object.Object.{Object}
use Rattle.batch_rt.specs.declared.object.Object.TheVariants.{Here, Shared, Sent}

module _ {C : Type 0} where
  -- the value of an object at home
  abbrev pub value_at_home : Object C → Option C
  value_at_home (Here value) = Some value
  value_at_home (Shared shared) = Some (arc_value shared)
  value_at_home (Sent lane place was) = None

  -- the lane that an object went to, and its place there
  abbrev pub lane_and_place : Object C → Option (ℕ × ℕ)
  lane_and_place (Here value) = None
  lane_and_place (Shared shared) = None
  lane_and_place (Sent lane place was) = Some (lane, place)

  -- the object is at home
  abbrev pub IsHome : Object C → Type 0
  IsHome object = lane_and_place object ≡ None

-- values that come home to the objects of these numbers
abbrev pub brought : {C : Type 0} → List (Object C) → List ObjectId → List C → List (Object C)
brought objects [] values = objects
brought objects (number ∷ numbers) [] = objects
brought objects (number ∷ numbers) (value ∷ values) =
    brought (slice_set objects number.0 (Here value)) numbers values
