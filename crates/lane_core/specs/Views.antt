-- What do contracts see of running lanes?
--
-- An object is at home, or in its lane: in the store with which the lane began, or in a message
-- that carries it. How far a delegate has come since then can't be seen. So a lane is seen as that
-- store and the messages that were sent since.
use Rattle.std.specs.Prelude.{ℕ, Bool, Option, Some, None, List, ◌++◌, length, map, filter_map}
use Rattle.std.specs.Option.{option_map}
use Rattle.ss_base.specs.declared.ids.Run.{Run}
use Rattle.execution_definitions.specs.Sets.{lane_of_set}
use Rattle.partition_check.specs.Marked.{Marked, set_delegated}
use Rattle.interleavings.specs.Machines.{Entry}
use Rattle.set_queue.specs.declared.message.Message.{Message}
use Rattle.set_queue.specs.declared.message.Message.TheVariants as message
use Rattle.delegates.specs.Stores.{Stored, entry}

-- a lane
pub record LaneView (C O R : Type 0) : Type 0 where
  -- a delegate in a thread of its own takes its messages
  pub has_worker : Bool
  -- the store that this delegate was handed; where there is none, the lane's store as it is
  pub base : Stored C R
  -- the messages sent since
  pub since : List (Message C O R)
  -- the runs that came home
  pub log : List Run

-- what is at home, and all lanes
pub record LanesView (C O R : Type 0) : Type 0 where
  -- each object's value at home, by the objects' numbers; none where the object isn't at home
  pub values : List (Option C)
  -- the total at home
  pub total : R
  -- what the partition rule knows of the calls so far
  pub marks : Marked
  pub lanes : List (LaneView C O R)
  -- memory was wanted once
  pub has_failed : Bool

module _ {C O R : Type 0} where
  -- what a message asks to run
  abbrev pub entry_in : Message C O R → Option (Entry C O)
  entry_in (message.Carry call epoch set object value op reading) =
      Some (entry call epoch set object op reading)
  entry_in (message.Run call epoch set object op reading) =
      Some (entry call epoch set object op reading)
  entry_in message.Stop = None

  -- what messages ask to run, one after the other
  abbrev pub entries_in : List (Message C O R) → List (Entry C O)
  entries_in messages = filter_map entry_in messages

  -- the runs that are known to be taken: those that came home, and those of the store
  abbrev pub runs_known : LaneView C O R → List Run
  runs_known lane = lane.log ++ lane.base.runs

  -- all runs that were sent to the lane
  abbrev pub runs_sent : LaneView C O R → List Run
  runs_sent lane = runs_known lane ++ map (λ (e : Entry C O). e.run) (entries_in lane.since)

  -- the lane of an object: that of the set of its last delegation in the open epoch
  abbrev pub lane_of_object : LanesView C O R → ℕ → Option ℕ
  lane_of_object view object =
      option_map (λ set. lane_of_set set.0 (length view.lanes)) (set_delegated view.marks object)
