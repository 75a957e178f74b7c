-- In which orders may the calls of a program take effect?
--
-- What the program context does comes before all that is later in the program. A delegation comes
-- before the later ones of its lane, before the next end, and before a write or a get of an object
-- whose last delegation in the epoch is of that lane. Nothing else is ordered.
use Rattle.std.specs.Prelude.{◌≡◌, ℕ, ◌+◌, ◌<◌, ◌≤◌, Bool, true, false, ◌&&◌, ◌==◌, nat_lt, Option, Some, None, List, ◌∷◌, ◌++◌, length, take, fold, count_by, slice_get}
use Rattle.std.specs.List.{list_any}
use Rattle.execution_definitions.specs.declared.call.Call.{Call}
use Rattle.execution_definitions.specs.Shapes.{Shape, delegate, write, get, end, is_begin}
use Rattle.execution_definitions.specs.Sets.{serializer_in, set_of, lane_of_set}
use Rattle.execution_definitions.specs.Epochs.{since}
use Rattle.execution_definitions.specs.Held.{last_set_among}
use Rattle.execution_definitions.specs.Meanings.{Meaning}
use Rattle.execution_definitions.specs.Sequential.{State, initial_state, state_after}

-- the set of the object's last delegation since the last begin
abbrev pub set_since_begin : List Shape → ℕ → Option ℕ
set_since_begin calls object =
    last_set_among (serializer_in calls object) object (since is_begin calls)

-- a set, where there is one, has this lane among n
abbrev pub has_lane : ℕ → ℕ → Option ℕ → Bool
has_lane n lane None = false
has_lane n lane (Some set) = lane_of_set set n == lane

-- the lane of a delegation after these calls; a call of the program context has none
abbrev pub lane_of_call : ℕ → List Shape → Option Shape → Option ℕ
lane_of_call n before (Some (delegate object own reading)) =
    Some (lane_of_set (set_of before object own) n)
lane_of_call n before _ = None

-- the lane of the call at a place
abbrev pub lane_at : ℕ → List Shape → ℕ → Option ℕ
lane_at n calls place = lane_of_call n (take place calls) (slice_get calls place)

-- a call after these comes after the earlier delegations of a lane
abbrev pub waits_for : ℕ → ℕ → List Shape → Option Shape → Bool
waits_for n lane before (Some (delegate object own reading)) =
    lane_of_set (set_of before object own) n == lane
waits_for n lane before (Some (write object)) = has_lane n lane (set_since_begin before object)
waits_for n lane before (Some (get object)) = has_lane n lane (set_since_begin before object)
waits_for n lane before (Some end) = true
waits_for n lane before _ = false

-- the same; where no lane is given, it comes after the earlier calls of the program context, as
-- every call does
abbrev pub waits_for_lane : ℕ → Option ℕ → List Shape → Option Shape → Bool
waits_for_lane n None before call = true
waits_for_lane n (Some lane) before call = waits_for n lane before call

-- of two places of a list: the call at the first must stand before the call at the second
abbrev pub must_stand_before : ℕ → List Shape → ℕ → ℕ → Bool
must_stand_before n calls first second =
    nat_lt first second
    && waits_for_lane n (lane_at n calls first) (take second calls) (slice_get calls second)

-- the place is one of these
abbrev pub is_among : List ℕ → ℕ → Bool
is_among places place = list_any (λ p. p == place) places

-- how often the place is among these
abbrev pub times_among : List ℕ → ℕ → ℕ
times_among places place = count_by (λ p. p == place) places

-- a legal merge: an order of all places, each once, in which whatever must stand before a place
-- stands before it
pub record IsLegal (n : ℕ) (calls : List Shape) (order : List ℕ) : Type 0 where
  pub each_once : (place : ℕ) → place < length calls → times_among order place ≡ 1
  pub no_other : (place : ℕ) → length calls ≤ place → times_among order place ≡ 0
  pub keeps :
      (front : List ℕ) (place : ℕ) (rest : List ℕ) → order ≡ front ++ place ∷ rest →
      (first : ℕ) → must_stand_before n calls first place ≡ true → is_among front first ≡ true

-- places begin a legal merge: with some others behind them they are one
pub record BeginsMerge (n : ℕ) (calls : List Shape) (front : List ℕ) : Type 0 where
  pub rest : List ℕ
  pub legal : IsLegal n calls (front ++ rest)

-- an order is no legal merge, and this is the first of its places with which it begins none; or all
-- its places begin one, and this is their number
pub record IsNoMergeAt (n : ℕ) (calls : List Shape) (order : List ℕ) (place : ℕ) : Type 0 where
  pub within : place ≤ length order
  pub begins : BeginsMerge n calls (take place order)
  pub ends : place < length order → ¬ BeginsMerge n calls (take (place + 1) order)
  pub illegal : ¬ IsLegal n calls order

module _ {C O R : Type 0} (m : Meaning C O R) where
  -- what a call leaves, where there is one
  abbrev pub state_after_some : State C R → Option (Call C O) → State C R
  state_after_some state None = state
  state_after_some state (Some call) = state_after m state call

  -- what the call at a place leaves
  abbrev pub state_after_place : List (Call C O) → State C R → ℕ → State C R
  state_after_place calls state place = state_after_some state (slice_get calls place)

  -- what the calls leave when they take effect in this order, one after the other
  abbrev pub replay_list : List (Call C O) → List ℕ → State C R
  replay_list calls order = fold (state_after_place calls) (initial_state m) order
