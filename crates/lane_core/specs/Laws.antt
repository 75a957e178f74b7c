-- What do the cuts of running lanes tell of each other?
--
-- A delegate that takes one run more takes a step of the machine, and all cuts come to the same
-- once what waits is drained. So it doesn't matter how far the delegates have come.
use Rattle.std.specs.Prelude.{◌≡◌, ℕ, ◌<◌, true, is_some, List, length}
use Rattle.execution_definitions.specs.Meanings.{Meaning}
use Rattle.interleavings.specs.Machines.{Core, front_at, lane_event, drained}
use Rattle.lane_core.specs.Views.{LanesView}
use Rattle.lane_core.specs.Cuts.{IsCut, with_one_more}
use Rattle.lane_core.specs.Cores.{core, logical_state}

module _ {C O R : Type 0} (m : Meaning C O R) where
  -- the event of a lane is enabled, and leaves this core
  pub record IsLaneEvent (before after : Core C O R) (lane : ℕ) : Type 0 where
    pub enabled : is_some (front_at before.lanes lane) ≡ true
    pub leaves : after ≡ lane_event m before lane

  -- the core at a cut that has one run more in a lane is what the event of that lane leaves
  abbrev pub CutsGoOn : LanesView C O R → Type 0
  CutsGoOn view =
      (cut : List ℕ) (lane : ℕ) → lane < length view.lanes → IsCut view.lanes cut →
      IsCut view.lanes (with_one_more lane cut) →
      IsLaneEvent (core m view cut) (core m view (with_one_more lane cut)) lane

  -- the cores at all cuts drain to the same
  abbrev pub CutsDrainAlike : LanesView C O R → Type 0
  CutsDrainAlike view =
      (cut other : List ℕ) → IsCut view.lanes cut → IsCut view.lanes other →
      drained m (core m view cut) ≡ drained m (core m view other)

  -- at every cut the core drains to the logical state
  abbrev pub CutsAreLogical : LanesView C O R → Type 0
  CutsAreLogical view =
      (cut : List ℕ) → IsCut view.lanes cut →
      drained m (core m view cut) ≡ logical_state m view
