-- How far may running lanes have come?
--
-- A cut gives each lane a number of its runs, as many as it may have taken: those that are known to
-- be taken, and some of the runs sent since, the first ones first.
use Rattle.std.specs.Prelude.{ℕ, zero, suc, ◌-◌, ◌≤◌, ⊤, List, [], ◌∷◌, length, map}
use Rattle.execution_definitions.specs.Meanings.{Meaning}
use Rattle.set_queue.specs.declared.message.Message.{Message}
use Rattle.set_queue.specs.declared.message.Message.TheVariants as message
use Rattle.delegates.specs.Stores.{Stored, taken}
use Rattle.lane_core.specs.Views.{LaneView, runs_known, runs_sent}

-- a lane that has come so far: its store by then, and the messages that wait for it
pub record LaneAtCut (C O R : Type 0) : Type 0 where
  pub store : Stored C R
  pub waiting : List (Message C O R)

module _ {C O R : Type 0} where
  -- a cut: of each lane at least the runs known to be taken, and at most all that were sent
  abbrev pub IsCut : List (LaneView C O R) → List ℕ → Type 0
  IsCut [] [] = ⊤
  IsCut (lane ∷ lanes) (runs ∷ cut) =
      (length (runs_known lane) ≤ runs) × (runs ≤ length (runs_sent lane)) × IsCut lanes cut
  IsCut _ _ = ⊥

  -- the least cut: just the runs that are known to be taken
  abbrev pub least_cut : List (LaneView C O R) → List ℕ
  least_cut lanes = map (λ (lane : LaneView C O R). length (runs_known lane)) lanes

-- the same cut, but for one run more in one lane
abbrev pub with_one_more : ℕ → List ℕ → List ℕ
with_one_more lane [] = []
with_one_more zero (runs ∷ cut) = suc runs ∷ cut
with_one_more (suc lane) (runs ∷ cut) = runs ∷ with_one_more lane cut

module _ {C O R : Type 0} (m : Meaning C O R) where
  -- a store that takes messages until so many of them ran, and the messages behind these
  abbrev pub lane_after : ℕ → Stored C R → List (Message C O R) → LaneAtCut C O R
  lane_after zero store messages = record { store = store; waiting = messages }
  lane_after (suc runs) store [] = record { store = store; waiting = [] }
  lane_after (suc runs) store (message.Stop ∷ rest) = lane_after (suc runs) store rest
  lane_after (suc runs) store (next ∷ rest) = lane_after runs (taken m store next) rest

  -- a lane that has taken so many runs in all
  abbrev pub lane_at : LaneView C O R → ℕ → LaneAtCut C O R
  lane_at lane runs = lane_after (runs - length (runs_known lane)) lane.base lane.since

  -- each lane at its number
  abbrev pub lanes_at : List (LaneView C O R) → List ℕ → List (LaneAtCut C O R)
  lanes_at (lane ∷ lanes) (runs ∷ cut) = lane_at lane runs ∷ lanes_at lanes cut
  lanes_at _ _ = []
