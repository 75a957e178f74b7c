-- What do the parts that judge an order say of each other's work?
use Rattle.std.specs.Prelude.{◌≡◌, ℕ, suc, ◌+◌, ◌<◌, ◌≤◌, Bool, true, false, Option, Some, None, Result, Ok, Err, List, [], ◌∷◌, ◌++◌, length, slice_get}
use Rattle.ss_base.specs.declared.ids.ObjectId.{ObjectId}
use Rattle.execution_definitions.specs.declared.refusal.Refusal.{Refusal}
use Rattle.execution_definitions.specs.declared.call.Call.{Call}
use Rattle.execution_definitions.specs.declared.call.Call.TheVariants.{Delegate}
use Rattle.execution_definitions.specs.Shapes.{Shape}
use Rattle.execution_definitions.specs.Held.{last_set}
use Rattle.partition_check.specs.Marked.{Marked}
use Rattle.partition_check.specs.Represents.{Represents}
use Rattle.delegation.specs.declared.call.Fault.{Fault}
use Rattle.delegation.specs.declared.call.Fault.TheVariants.{Refused, OutOfMemory}
use Rattle.interleavings.specs.Merges.{has_lane, is_among}
use Rattle.legal_merges.specs.declared.step.Step.{Step}
use Rattle.legal_merges.specs.declared.step.Waits.{Waits}
use Rattle.legal_merges.specs.declared.turns.Turns.{Turns}
use Rattle.merge_laws.specs.Fronts.{IsBegun}
use Rattle.legal_merges.specs.kept.Turns.{turn_of, covers, AreTurns, IsStepAfter, IsTable, IsNext, IsOnWay}

-- Ok exactly where there is no refusal, and else that refusal, unless memory ran out
abbrev pub AnswersFault : {T : Type 0} → Result T Fault → Option Refusal → Type 0
AnswersFault (Ok value) cause = cause ≡ None
AnswersFault (Err (Refused refusal)) cause = cause ≡ Some refusal
AnswersFault (Err OutOfMemory) cause = cause ≡ None

-- of every list that the marks represent, this is kept of the call after it
abbrev pub StepsAfter : ℕ → Marked → Shape → Step → Type 0
StepsAfter n marks call step =
    (calls : List Shape) → Represents marks calls → IsStepAfter n calls (Some call) step

-- a write or a get after these calls waits for the lane of the object's last delegation in the epoch
pub record IsWaitFor (n : ℕ) (calls : List Shape) (object : ℕ) (waits : Waits) : Type 0 where
  pub known : AreTurns (n + 1) waits
  pub covered : (lane : ℕ) → covers waits (suc lane) ≡ has_lane n lane (last_set calls object)

-- the same after every list that the marks represent
abbrev pub WaitsFor : ℕ → Marked → ℕ → Waits → Type 0
WaitsFor n marks object waits =
    (calls : List Shape) → Represents marks calls → IsWaitFor n calls object waits

-- of the turns that are waited for, none has its next place before this one
abbrev pub HasWaited : List ℕ → Waits → ℕ → Type 0
HasWaited nexts waits place =
    (turn other : ℕ) → covers waits turn ≡ true → slice_get nexts turn ≡ Some other → place ≤ other

-- the table is that of some calls
pub record IsOfSomeTable (n : ℕ) (steps : List Step) : Type 0 where
  pub calls : List Shape
  pub table : IsTable n calls steps

-- the turns are those after some places
pub record IsOnSomeWay (turns : Turns) : Type 0 where
  pub n : ℕ
  pub calls : List Shape
  pub done : List ℕ
  pub way : IsOnWay n calls done turns

-- the next place of the lane, or of the program context, that has this turn
abbrev pub IsNextOf : ℕ → List Shape → List ℕ → ℕ → ℕ → Type 0
IsNextOf n calls done turn place =
    (lane : Option ℕ) → turn_of lane ≡ turn → IsNext n calls done lane place

-- the place was taken, or with it the places begin no legal merge
abbrev pub IsTaken : ℕ → List Shape → List ℕ → ℕ → Turns → Bool → Type 0
IsTaken n calls done place new true = IsOnWay n calls (done ++ place ∷ []) new
IsTaken n calls done place new false = IsBegun n calls (done ++ place ∷ []) → ⊥

-- the next places are all behind the last call
abbrev pub AreDone : List ℕ → ℕ → Type 0
AreDone nexts count = (turn next : ℕ) → slice_get nexts turn ≡ Some next → count ≤ next

-- each place of the calls is among these
abbrev pub HasAll : List Shape → List ℕ → Type 0
HasAll calls done = (place : ℕ) → place < length calls → is_among done place ≡ true

-- whether it is
abbrev pub AreAllDone : List Shape → List ℕ → Bool → Type 0
AreAllDone calls done true = HasAll calls done
AreAllDone calls done false = HasAll calls done → ⊥

-- what an operation reads is another object
abbrev pub IsOther : ℕ → Option ObjectId → Type 0
IsOther object None = Unit {0}
IsOther object (Some read) = read.0 ≡ object → ⊥

-- what a delegated operation reads is another object
abbrev pub ReadsAnother : {C O : Type 0} → Call C O → Type 0
ReadsAnother (Delegate object op reading) = IsOther object.0 reading
ReadsAnother _ = Unit {0}
