-- What holds of running lanes between calls, as long as memory is found?
--
-- Each object is in one place: at home, or in the lane of its last delegation. Each message that is
-- under way finds its object where it comes to be taken.
use Rattle.std.specs.Prelude.{◌≡◌, ℕ, Bool, true, false, ◌&&◌, ◌||◌, not, ◌==◌, is_some, Some, None, List, [], ◌∷◌, slice_get}
use Rattle.set_queue.specs.declared.message.Message.{Message}
use Rattle.set_queue.specs.declared.message.Message.TheVariants as message
use Rattle.delegates.specs.Stores.{Stored, value_of}
use Rattle.lane_core.specs.Views.{LaneView, LanesView, lane_of_object}
use Rattle.lane_core.specs.Cores.{value_in}

-- these objects, and one more
abbrev pub with_number : (ℕ → Bool) → ℕ → ℕ → Bool
with_number are_there object number = (number == object) || are_there number

-- an object is in a store
abbrev pub is_in_store : {C R : Type 0} → Stored C R → ℕ → Bool
is_in_store store object = is_some (value_of store object)

module _ {C O R : Type 0} where
  -- each of these messages finds its object, where these are there before the first one: a message
  -- that carries an object comes to where it isn't, and a run to where it is
  abbrev pub all_find : (ℕ → Bool) → List (Message C O R) → Bool
  all_find are_there [] = true
  all_find are_there (message.Stop ∷ rest) = all_find are_there rest
  all_find are_there (message.Carry call epoch set object value op reading ∷ rest) =
      not (are_there object.0) && all_find (with_number are_there object.0) rest
  all_find are_there (message.Run call epoch set object op reading ∷ rest) =
      are_there object.0 && all_find are_there rest

  -- an object is in a lane: in its store, or in a message to it
  abbrev pub has_object : LaneView C O R → ℕ → Bool
  has_object lane object =
      is_some (value_in object (record { store = lane.base; waiting = lane.since }))

  -- an object is in the lane of this number
  pub record IsIn (view : LanesView C O R) (object number : ℕ) : Type 0 where
    pub lane : LaneView C O R
    pub at : slice_get view.lanes number ≡ Some lane
    pub has : has_object lane object ≡ true

  pub record IsKept (view : LanesView C O R) : Type 0 where
    -- the store with which a lane began isn't broken, and the messages since find their objects
    pub whole :
        (number : ℕ) (lane : LaneView C O R) → slice_get view.lanes number ≡ Some lane →
        lane.base.is_broken ≡ false
    pub served :
        (number : ℕ) (lane : LaneView C O R) → slice_get view.lanes number ≡ Some lane →
        all_find (is_in_store lane.base) lane.since ≡ true
    -- an object that isn't at home is in its lane
    pub away :
        (object : ℕ) → slice_get view.values object ≡ Some None →
        (number : ℕ) × (lane_of_object view object ≡ Some number) × IsIn view object number
    -- an object that is in a lane isn't at home, and this is its lane
    pub apart :
        (object number : ℕ) → IsIn view object number →
        (slice_get view.values object ≡ Some None) × (lane_of_object view object ≡ Some number)
