-- Which core of the machine are running lanes, if they have come as far as a cut says?
--
-- All values are in their places, whoever has the objects: at home, with a lane, or under way in a
-- message. Contributions are joined. What a lane has still to run waits in it.
use Rattle.std.specs.Prelude.{ℕ, suc, ◌==◌, if◌then◌else◌, Option, Some, None, List, [], ◌∷◌, ◌++◌, map, fold, slice_get, option_to_list, option_and_then}
use Rattle.std.specs.Option.{option_or}
use Rattle.execution_definitions.specs.Meanings.{Meaning}
use Rattle.execution_definitions.specs.Sequential.{State}
use Rattle.interleavings.specs.Machines.{Core, drained}
use Rattle.set_queue.specs.declared.message.Message.{Message}
use Rattle.set_queue.specs.declared.message.Message.TheVariants as message
use Rattle.delegates.specs.Stores.{value_of}
use Rattle.lane_core.specs.Views.{LanesView, entries_in, lane_of_object}
use Rattle.lane_core.specs.Cuts.{LaneAtCut, least_cut, lanes_at}

-- the values of all objects, by their numbers: those at home, and where an object isn't at home the
-- one that is given for its number
abbrev pub filled : {C : Type 0} → (ℕ → Option C) → List (Option C) → List C
filled away [] = []
filled away (Some value ∷ rest) = value ∷ filled (λ number. away (suc number)) rest
filled away (None ∷ rest) = option_to_list (away 0) ++ filled (λ number. away (suc number)) rest

module _ {C O R : Type 0} where
  -- the value of an object that a message carries
  abbrev pub carried_in : ℕ → Message C O R → Option C
  carried_in object (message.Carry call epoch set o value op reading) =
      if o.0 == object then Some value else None
  carried_in object _ = None

  -- the first value of an object that messages carry
  abbrev pub carried : ℕ → List (Message C O R) → Option C
  carried object [] = None
  carried object (next ∷ rest) = option_or (carried_in object next) (carried object rest)

  -- the value of an object in a lane: that in the store, and else the one that a message carries
  abbrev pub value_in : ℕ → LaneAtCut C O R → Option C
  value_in object lane = option_or (value_of lane.store object) (carried object lane.waiting)

  -- the value of an object in the lane of this number, where there is one
  abbrev pub value_in_lane : List (LaneAtCut C O R) → ℕ → Option ℕ → Option C
  value_in_lane lanes object lane =
      option_and_then (value_in object) (option_and_then (slice_get lanes) lane)

  -- the value of an object that isn't at home
  abbrev pub value_away : LanesView C O R → List (LaneAtCut C O R) → ℕ → Option C
  value_away view lanes object = value_in_lane lanes object (lane_of_object view object)

module _ {C O R : Type 0} (m : Meaning C O R) where
  -- a total with what a lane has contributed so far
  abbrev pub with_total_of : R → LaneAtCut C O R → R
  with_total_of total lane = m.join total lane.store.total

  -- what is at home with lanes that have come so far
  abbrev pub core_with : LanesView C O R → List (LaneAtCut C O R) → Core C O R
  core_with view lanes = record {
    state = record {
      values = filled (value_away view lanes) view.values;
      total = fold with_total_of view.total lanes;
    };
    lanes = map (λ (lane : LaneAtCut C O R). entries_in lane.waiting) lanes;
  }

  -- the core at a cut
  abbrev pub core : LanesView C O R → List ℕ → Core C O R
  core view cut = core_with view (lanes_at m view.lanes cut)

  -- the values and the total with all that was sent counted as done: those to which the core at the
  -- least cut drains
  abbrev pub logical_state : LanesView C O R → State C R
  logical_state view = drained m (core view (least_cut view.lanes))
