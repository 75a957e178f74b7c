-- What do an open epoch, a held object and a first break come to, by the places of a list?
use Rattle.std.specs.Prelude.{◌≡◌, ◌↔◌, ◌==◌, ℕ, ◌<◌, Bool, true, false, Option, Some, None, IsSome, List, ◌∷◌, ◌++◌}
use Rattle.std.specs.List.{list_any}
use Rattle.execution_definitions.specs.Shapes.{Shape, begin, delegate, is_begin, is_end}
use Rattle.execution_definitions.specs.Sets.{set_of}
use Rattle.execution_definitions.specs.Epochs.{isolating}
use Rattle.execution_definitions.specs.Held.{frees, last_set, held_set}
use Rattle.execution_definitions.specs.Soundness.{refusal_at, first_break}

-- some begin of the list has no end after it
pub record HasOpenBegin (calls : List Shape) : Type 0 where
  pub front : List Shape
  pub rest : List Shape
  pub is : calls ≡ front ++ begin ∷ rest
  pub no_end : list_any is_end rest ≡ false

-- an epoch is open exactly where some begin has no end after it
abbrev pub EpochIsOpenFromItsBegin : Type 0
EpochIsOpenFromItsBegin =
    (calls : List Shape) → (isolating calls ≡ true) ↔ HasOpenBegin calls

-- the calls of the open epoch: those behind the last begin, where no end stands after it
pub record IsOpenEpoch (calls epoch : List Shape) : Type 0 where
  pub before : List Shape
  pub is : calls ≡ before ++ begin ∷ epoch
  pub no_begin : list_any is_begin epoch ≡ false
  pub no_end : list_any is_end epoch ≡ false

-- the call delegates an operation to this object
abbrev pub delegates_to : ℕ → Shape → Bool
delegates_to object (delegate o own reading) = o == object
delegates_to object _ = false

-- the last of some calls that delegates to the object, with the calls after it; its operation names
-- the number `own`
pub record IsLastDelegation (among : List Shape) (object own : ℕ) (after : List Shape)
    : Type 0 where
  pub before : List Shape
  pub reading : Option ℕ
  pub is : among ≡ before ++ delegate object own reading ∷ after
  pub last : list_any (delegates_to object) after ≡ false

-- in the open epoch the object's last delegation went to this set, and these calls stand after it
pub record WasDelegatedTo (calls : List Shape) (object set : ℕ) (after : List Shape)
    : Type 0 where
  pub epoch : List Shape
  pub is_open : IsOpenEpoch calls epoch
  pub own : ℕ
  pub last : IsLastDelegation epoch object own after
  pub set_is : set ≡ set_of calls object own

-- the last set is that of the last delegation; the object is held to it exactly where no write or
-- get of the object stands after that
pub record HeldFromItsLastDelegation (calls : List Shape) (object set : ℕ) : Type 0 where
  pub last :
      (last_set calls object ≡ Some set)
      ↔ ((after : List Shape) × WasDelegatedTo calls object set after)
  pub held :
      (held_set calls object ≡ Some set)
      ↔ ((after : List Shape) × WasDelegatedTo calls object set after
      × (list_any (frees object) after ≡ false))

-- the call at this place is refused, and none before it
pub record IsLeastBreak (calls : List Shape) (place : ℕ) : Type 0 where
  pub refused : IsSome (refusal_at calls place)
  pub least : (earlier : ℕ) → earlier < place → refusal_at calls earlier ≡ None

-- the first break is the least place that is refused; there is none exactly where no place is
pub record FirstBreakIsLeast (calls : List Shape) : Type 0 where
  pub place : (place : ℕ) → (first_break calls ≡ Some place) ↔ IsLeastBreak calls place
  pub none : (first_break calls ≡ None) ↔ ((place : ℕ) → refusal_at calls place ≡ None)
