-- What is kept to judge an order place by place?
--
-- Turn 0 is that of the program context, and turn `lane + 1` that of a lane. The calls of a turn keep
-- their order, so that of each turn one place may come next. A place waits for a turn where that
-- turn's next place isn't before it.
use Rattle.std.specs.Prelude.{◌≡◌, ℕ, suc, ◌+◌, ◌<◌, ◌≤◌, Bool, true, false, ◌==◌, nat_lt, ◌⊎◌, Option, Some, None, List, length, take, slice_get}
use Rattle.execution_definitions.specs.Shapes.{Shape}
use Rattle.execution_definitions.specs.Epochs.{isolating}
use Rattle.execution_definitions.specs.Soundness.{IsSound}
use Rattle.interleavings.specs.Merges.{lane_of_call, lane_at, waits_for, is_among}
use Rattle.legal_merges.specs.declared.step.Step.{Step}
use Rattle.legal_merges.specs.declared.step.Waits.{Waits}
use Rattle.legal_merges.specs.declared.step.Waits.TheVariants.{For, ForAll}
use Rattle.legal_merges.specs.declared.turns.Turns.{Turns}
use Rattle.merge_laws.specs.Fronts.{IsBegun}

-- the turn of a lane, or of the program context
abbrev pub turn_of : Option ℕ → ℕ
turn_of None = 0
turn_of (Some lane) = suc lane

-- a turn is waited for
abbrev pub covers : Waits → ℕ → Bool
covers (For turn) t = turn == t
covers ForAll t = true

-- what is waited for is one of so many turns
abbrev pub AreTurns : ℕ → Waits → Type 0
AreTurns count (For turn) = turn < count
AreTurns count ForAll = Unit {0}

-- what is kept of a call after these: its turn, and the lanes that it waits for. In aggregation a
-- write or a get waits for an end, and with it for all lanes
pub record IsStepAfter (n : ℕ) (before : List Shape) (call : Option Shape) (step : Step)
    : Type 0 where
  pub turn : step.turn ≡ turn_of (lane_of_call n before call)
  pub known : step.turn < n + 1
  pub waits_known : AreTurns (n + 1) step.waits
  pub needed :
      (lane : ℕ) → covers step.waits (suc lane) ≡ true → waits_for n lane before call ≡ true
  pub enough :
      (lane : ℕ) → waits_for n lane before call ≡ true →
      (covers step.waits (suc lane) ≡ true) ⊎ (isolating before ≡ false)

-- a step is kept of each call of a sound list
pub record IsTable (n : ℕ) (calls : List Shape) (steps : List Step) : Type 0 where
  pub some : 1 ≤ n
  pub sound : IsSound calls
  pub count : length steps ≡ length calls
  pub each :
      (place : ℕ) (step : Step) → slice_get steps place ≡ Some step →
      IsStepAfter n (take place calls) (slice_get calls place) step

-- the first place of a lane, or of the program context, from a place on; or the number of calls
pub record IsFirst (n : ℕ) (calls : List Shape) (from : ℕ) (lane : Option ℕ) (place : ℕ)
    : Type 0 where
  pub low : from ≤ place
  pub within : place ≤ length calls
  pub own : place < length calls → lane_at n calls place ≡ lane
  pub none : (other : ℕ) → from ≤ other → other < place → lane_at n calls other ≡ lane → ⊥

-- the place of a lane, or of the program context, that may come next after these: the places of it
-- that are done are those before
pub record IsNext (n : ℕ) (calls : List Shape) (done : List ℕ) (lane : Option ℕ) (place : ℕ)
    : Type 0 where
  pub within : place ≤ length calls
  pub own : place < length calls → lane_at n calls place ≡ lane
  pub done_before :
      (other : ℕ) → other < length calls → lane_at n calls other ≡ lane →
      is_among done other ≡ nat_lt other place

-- a place may come next: it is the next of its turn, and no turn that it waits for has its next
-- place before it
pub record MayCome (nexts : List ℕ) (step : Step) (place : ℕ) : Type 0 where
  pub next : slice_get nexts step.turn ≡ Some place
  pub program : (other : ℕ) → slice_get nexts 0 ≡ Some other → place ≤ other
  pub waited :
      (turn other : ℕ) → covers step.waits turn ≡ true → slice_get nexts turn ≡ Some other →
      place ≤ other

-- the steps of calls, with the next place of its turn after each
pub record IsLinked (n : ℕ) (calls : List Shape) (steps : List Step) (afters : List ℕ)
    : Type 0 where
  pub table : IsTable n calls steps
  pub count : length afters ≡ length calls
  pub each :
      (place after : ℕ) → slice_get afters place ≡ Some after →
      IsFirst n calls (place + 1) (lane_at n calls place) after

-- the next place of each turn after these
pub record AreNexts (n : ℕ) (calls : List Shape) (done : List ℕ) (nexts : List ℕ) : Type 0 where
  pub count : length nexts ≡ n + 1
  pub each :
      (lane : Option ℕ) (next : ℕ) → slice_get nexts (turn_of lane) ≡ Some next →
      IsNext n calls done lane next

-- these places begin a legal merge of the calls, and this is what may come next
pub record IsOnWay (n : ℕ) (calls : List Shape) (done : List ℕ) (turns : Turns) : Type 0 where
  pub linked : IsLinked n calls turns.steps.items turns.afters.items
  pub nexts : AreNexts n calls done turns.nexts.items
  pub begun : IsBegun n calls done
