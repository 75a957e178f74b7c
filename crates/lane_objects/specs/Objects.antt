-- What does the program context have of an object?
use Rattle.std.specs.Prelude.{◌≡◌, ℕ, Option, Some, None, List, [], slice_get}
use Rattle.std.specs.Arc.{arc_value}
use Rattle.delegates.specs.Stores.{Stored, value_of}
use Rattle.lane_objects.specs.declared.object.Object.{Object}
use Rattle.lane_objects.specs.declared.object.Object.TheVariants.{Here, Shared, Away}

module _ {C : Type 0} where
  -- the value of an object at home
  abbrev pub value_at_home : Object C → Option C
  value_at_home (Here value) = Some value
  value_at_home (Shared shared) = Some (arc_value shared)
  value_at_home (Away lane number was) = None

  -- the lane to which an object went, and its number there
  abbrev pub lane_and_number : Object C → Option (ℕ × ℕ)
  lane_and_number (Here value) = None
  lane_and_number (Shared shared) = None
  lane_and_number (Away lane number was) = Some (lane, number.0)

  -- the object is at home
  abbrev pub IsHome : Object C → Type 0
  IsHome object = lane_and_number object ≡ None

  -- the lane and the number of the object of a number, if it isn't at home
  abbrev pub found_in : Option (Object C) → Option (ℕ × ℕ)
  found_in None = None
  found_in (Some object) = lane_and_number object

  abbrev pub found_at : List (Object C) → ℕ → Option (ℕ × ℕ)
  found_at objects object = found_in (slice_get objects object)

  -- no object went to a lane
  abbrev pub NoneSent : List (Object C) → List (Object C) → Type 0
  NoneSent old new =
      (n lane number : ℕ) → found_at new n ≡ Some (lane, number) →
      found_at old n ≡ Some (lane, number)

  -- an object to which a value comes home, if one does
  abbrev pub come_with : Option C → Object C → Object C
  come_with None object = object
  come_with (Some value) object = Here value

  -- the object of a number, once a store's values came home
  abbrev pub come_back : {R : Type 0} → Stored C R → ℕ → Object C → Object C
  come_back s n object = come_with (value_of s n) object

-- a store without its objects
abbrev pub without_values : {C R : Type 0} → Stored C R → Stored C R
without_values s = record s { values = [] }
