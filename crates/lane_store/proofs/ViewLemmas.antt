-- Running lanes between calls have what the laws on cuts ask for, and show their logical state.
use Rattle.std.proofs.Common.{◌≡◌, ℕ, zero, suc, Bool, true, false, Option, Some, None, List, [], ◌∷◌, map, length, refl, sym, ap, ◌∙◌, arith}
use Rattle.std.specs.Prelude.{is_some, fold, slice_get, option_and_then}
use Rattle.std.specs.Option.{option_map, unwrap_or}
use Rattle.std.proofs.lemmas.Option.{same_Some, slice_get-map}
use Rattle.ss_base.specs.declared.ids.Run.{Run}
use Rattle.ss_base.specs.declared.ids.SetId.{SetId}
use Rattle.execution_definitions.specs.Meanings.{Meaning}
use Rattle.execution_definitions.specs.Sequential.{State}
use Rattle.execution_definitions.specs.Sets.{lane_of_set}
use Rattle.partition_check.specs.Marked.{Marked}
use Rattle.delegates.specs.declared.home.Home.{Home}
use Rattle.set_queue.specs.declared.ends.Sender.{Sender}
use Rattle.delegates.specs.Stores.{Stored, value_of}
use Rattle.lane_core.specs.Views.{LaneView, LanesView, lane_of_object}
use Rattle.lane_core.specs.Cores.{logical_state}
use Rattle.lane_core.specs.Kept.{has_object, all_find, is_in_store, IsKept}
use Rattle.lane_core.specs.Laws.{CutsAreLogical}
use Rattle.lane_core.proofs.FilledLemmas.{IsGiven, filled-all}
use Rattle.lane_core.proofs.LogicalLemmas.{come, value_come, logical_is}
use Rattle.lane_ends.specs.declared.lane_end.LaneEnd.{LaneEnd}
use Rattle.lane_ends.specs.declared.lane_end.Taker.{Taker}
use Rattle.lane_ends.specs.LaneEnds.{each_finds, since_by, since_of, base_by, base_of, comes_to, IsTakenBy, IsWhole}
use Rattle.lane_objects.specs.declared.object.Object.{Object}
use Rattle.lane_objects.specs.declared.object.Object.TheVariants.{Here, Shared, Away}
use Rattle.lane_objects.specs.Objects.{value_at_home, lane_and_number, found_in, found_at}
use Rattle.lane_objects.specs.Outcomes.{value_in, value_after, with_lane}
use Rattle.lane_store.specs.declared.store.LaneStore.{LaneStore}
use Rattle.lane_store.specs.LaneStores.{stores_of, store_state, IsWholeStore}
use Rattle.lane_store.specs.Running.{lane_of_end, lanes_of, running_of}
use Rattle.lane_store.proofs.TakenLemmas.{find_all, comes_with}

-- an object that is found in a lane has no value at home
pub out_value : {C : Type 0} (objects : List (Object C)) (n : ℕ) (place : ℕ × ℕ) →
    found_at objects n ≡ Some place → slice_get (map value_at_home objects) n ≡ Some None
out_value [] n place found = absurd cc
out_value (Here value ∷ objects) zero place found = absurd cc
out_value (Shared shared ∷ objects) zero place found = absurd cc
out_value (Away lane number was ∷ objects) zero place found = refl
out_value (object ∷ objects) (suc n) place found = out_value objects n place found

pub away_value : {C : Type 0} (object : Object C) (place : ℕ × ℕ) →
    lane_and_number object ≡ Some place → value_at_home object ≡ None
away_value (Here value) place is = absurd cc
away_value (Shared shared) place is = absurd cc
away_value (Away lane number was) place is = refl

-- and the other way round
pub record IsFound {C : Type 0} (objects : List (Object C)) (n : ℕ) : Type 0 where
  pub lane : ℕ
  pub number : ℕ
  pub found : found_at objects n ≡ Some (lane, number)

pub out_place : {C : Type 0} (objects : List (Object C)) (n : ℕ) →
    slice_get (map value_at_home objects) n ≡ Some None → IsFound objects n
out_place [] n at = absurd cc
out_place (Here value ∷ objects) zero at = absurd cc
out_place (Shared shared ∷ objects) zero at = absurd cc
out_place (Away lane number was ∷ objects) zero at =
    record { lane = lane; number = number.0; found = refl }
out_place (object ∷ objects) (suc n) at =
    let rest = out_place objects n at in
    record { lane = rest.lane; number = rest.number; found = rest.found }

some_unwrap : {A : Type 0} (found : Option A) (other : A) → is_some found ≡ true →
    found ≡ Some (unwrap_or found other)
some_unwrap None other some = absurd cc
some_unwrap (Some a) other some = refl

same_state : {C R : Type 0} (v w : List C) (t u : R) → v ≡ w → t ≡ u →
    (let left : State C R = record { values = v; total = t } in
    let right : State C R = record { values = w; total = u } in
    left ≡ right)
same_state v w t u values total = rw (values, total) refl

module _ {C W O R : Type 0} (m : Meaning C O R) (home_of : W → Home C O R) where
  -- the store to which an end comes
  pub store_here : (ends : List (LaneEnd C W O R)) (l : ℕ) (end : LaneEnd C W O R) →
      slice_get ends l ≡ Some end →
      slice_get (stores_of m home_of ends) l ≡ Some (comes_to m home_of end)
  store_here ends l end here =
      slice_get-map (comes_to m home_of) ends l ∙ ap (option_map (comes_to m home_of)) here

  -- ---- who takes from a lane

  pub base_whole : (sender : Sender C O R) (taker : Option (Taker C W O R)) →
      IsTakenBy m home_of sender taker → (base_by m home_of taker).is_broken ≡ false
  base_whole sender None whole = absurd whole
  base_whole sender (Some taker) whole = whole.unbroken

  pub base_served : (sender : Sender C O R) (taker : Option (Taker C W O R)) →
      IsTakenBy m home_of sender taker →
      each_finds m (base_by m home_of taker) (since_by home_of sender taker) ≡ true
  base_served sender None whole = absurd whole
  base_served sender (Some taker) whole = whole.served

  -- ---- lanes, as they are seen

  pub length-lanes : (logs : List (List Run)) (ends : List (LaneEnd C W O R)) →
      length (lanes_of m home_of logs ends) ≡ length ends
  length-lanes [] [] = refl
  length-lanes (log ∷ logs) [] = refl
  length-lanes [] (end ∷ ends) = let rest = length-lanes [] ends in omega (arith, rest)
  length-lanes (log ∷ logs) (end ∷ ends) =
      let rest = length-lanes logs ends in omega (arith, rest)

  -- a lane that is seen has an end
  pub record IsSeen (ends : List (LaneEnd C W O R)) (number : ℕ) (lane : LaneView C O R) : Type 0 where
    pub end : LaneEnd C W O R
    pub at : slice_get ends number ≡ Some end
    pub log : List Run
    pub is : lane ≡ lane_of_end m home_of log end

  behind : (first : LaneEnd C W O R) (ends : List (LaneEnd C W O R)) (number : ℕ) (lane : LaneView C O R) →
      IsSeen ends number lane → IsSeen (first ∷ ends) (suc number) lane
  behind first ends number lane seen =
      record { end = seen.end; at = seen.at; log = seen.log; is = seen.is }

  pub seen_at : (logs : List (List Run)) (ends : List (LaneEnd C W O R)) (number : ℕ) (lane : LaneView C O R) →
      slice_get (lanes_of m home_of logs ends) number ≡ Some lane → IsSeen ends number lane
  seen_at [] [] number lane at = absurd cc
  seen_at (log ∷ logs) [] number lane at = absurd cc
  seen_at [] (end ∷ ends) zero lane at =
      record { end = end; at = refl; log = []; is = sym (same_Some _ _ at) }
  seen_at [] (end ∷ ends) (suc number) lane at =
      behind end ends number lane (seen_at [] ends number lane at)
  seen_at (log ∷ logs) (end ∷ ends) zero lane at =
      record { end = end; at = refl; log = log; is = sym (same_Some _ _ at) }
  seen_at (log ∷ logs) (end ∷ ends) (suc number) lane at =
      behind end ends number lane (seen_at logs ends number lane at)

  -- and an end that comes to an object is seen as a lane
  record Holds (logs : List (List Run)) (ends : List (LaneEnd C W O R)) (number object : ℕ) : Type 0 where
    pub end : LaneEnd C W O R
    pub at : slice_get ends number ≡ Some end
    pub log : List Run
    pub seen : slice_get (lanes_of m home_of logs ends) number ≡ Some (lane_of_end m home_of log end)
    pub has : is_some (value_of (comes_to m home_of end) object) ≡ true

  holds_at : (logs : List (List Run)) (ends : List (LaneEnd C W O R)) (number object : ℕ) →
      is_some (value_in (stores_of m home_of ends) number object) ≡ true →
      Holds logs ends number object
  holds_at logs [] number object is = absurd cc
  holds_at [] (end ∷ ends) zero object is =
      record { end = end; at = refl; log = []; seen = refl; has = is }
  holds_at (log ∷ logs) (end ∷ ends) zero object is =
      record { end = end; at = refl; log = log; seen = refl; has = is }
  holds_at [] (end ∷ ends) (suc number) object is =
      let rest = holds_at [] ends number object is in
      record {
        end = rest.end;
        at = rest.at;
        log = rest.log;
        seen = rest.seen;
        has = rest.has;
      }
  holds_at (log ∷ logs) (end ∷ ends) (suc number) object is =
      let rest = holds_at logs ends number object is in
      record {
        end = rest.end;
        at = rest.at;
        log = rest.log;
        seen = rest.seen;
        has = rest.has;
      }

  -- a lane that is whole comes to just the objects that it has
  pub has_all : (log : List Run) (end : LaneEnd C W O R) → IsWhole m home_of end → (object : ℕ) →
      is_some (value_of (comes_to m home_of end) object)
      ≡ has_object (lane_of_end m home_of log end) object
  has_all log end whole object =
      comes_with m (base_of m home_of end) (since_of home_of end)
      (base_whole end.sender end.taker whole) (base_served end.sender end.taker whole) object

  -- lanes come to the same stores, however they are seen
  lanes_come : (logs : List (List Run)) (ends : List (LaneEnd C W O R)) →
      map (come m) (lanes_of m home_of logs ends) ≡ stores_of m home_of ends
  lanes_come [] [] = refl
  lanes_come (log ∷ logs) [] = refl
  lanes_come [] (end ∷ ends) = ap (λ rest. comes_to m home_of end ∷ rest) (lanes_come [] ends)
  lanes_come (log ∷ logs) (end ∷ ends) =
      ap (λ rest. comes_to m home_of end ∷ rest) (lanes_come logs ends)

  -- ---- all of it

  -- each object that isn't at home is in the lane of its last delegation
  abbrev pub ArePlaced : LaneStore C W O R → Marked → Bool → Type 0
  ArePlaced store marks has_failed =
      (object lane number : ℕ) → found_at store.objects.items object ≡ Some (lane, number) →
      lane_of_object (running_of m home_of store marks has_failed) object ≡ Some lane

  module _ (store : LaneStore C W O R) (marks : Marked) (has_failed : Bool)
      (kept_whole : IsWholeStore m home_of store) (lane_is : ArePlaced store marks has_failed)
    where
      abbrev view : LanesView C O R
      view = running_of m home_of store marks has_failed

      pub running_kept : IsKept view
      running_kept = record {
        whole = λ number lane at.
            let seen = seen_at store.logs.items store.ends.items number lane at in
            ap (λ (lane : LaneView C O R). lane.base.is_broken) seen.is
            ∙ base_whole seen.end.sender seen.end.taker
            (kept_whole.lanes number seen.end seen.at);
        served = λ number lane at.
            let seen = seen_at store.logs.items store.ends.items number lane at in
            let whole = kept_whole.lanes number seen.end seen.at in
            ap (λ (lane : LaneView C O R). all_find (is_in_store lane.base) lane.since) seen.is
            ∙ find_all m (base_of m home_of seen.end) (since_of home_of seen.end)
            (base_whole seen.end.sender seen.end.taker whole)
            (base_served seen.end.sender seen.end.taker whole);
        away = λ object at.
            let place = out_place store.objects.items object at in
            let holds = holds_at store.logs.items store.ends.items place.lane object
            (kept_whole.apart.there object place.lane place.number place.found) in (
              place.lane,
              lane_is object place.lane place.number place.found,
              record {
                lane = lane_of_end m home_of holds.log holds.end;
                at = holds.seen;
                has = sym (has_all holds.log holds.end
                    (kept_whole.lanes place.lane holds.end holds.at) object) ∙ holds.has;
              },
            );
        apart = λ object number is.
            let seen = seen_at store.logs.items store.ends.items number is.lane is.at in
            let has : is_some (value_of (comes_to m home_of seen.end) object) ≡ true =
            has_all seen.log seen.end (kept_whole.lanes number seen.end seen.at) object
            ∙ sym (ap (λ (lane : LaneView C O R). has_object lane object) seen.is) ∙ is.has in
            let found = kept_whole.apart.only object number
            (ap (λ s. is_some (option_and_then (λ (s : Stored C R). value_of s object) s))
            (store_here store.ends.items number seen.end seen.at) ∙ has) in (
              out_value store.objects.items object (number, object) found,
              lane_is object number object found,
            );
      }

      -- ---- and the logical state is what every runtime shows

      abbrev stores : List (Stored C R)
      stores = stores_of m home_of store.ends.items

      value_given : (n : ℕ) (object : Object C) → slice_get store.objects.items n ≡ Some object →
          IsGiven (value_at_home object) (value_come m view n) (value_after stores object)
      value_given n (Here value) at = refl
      value_given n (Shared shared) at = refl
      value_given n (Away lane number was) at =
          let found : found_at store.objects.items n ≡ Some (lane, number.0) = ap found_in at in
          ap (λ l. option_and_then (λ (s : Stored C R). value_of s n)
          (option_and_then (slice_get (map (come m) view.lanes)) l)) (lane_is n lane number.0 found)
          ∙ ap (λ all. value_in all lane n) (lanes_come store.logs.items store.ends.items)
          ∙ some_unwrap (value_in stores lane n) was.value
          (kept_whole.apart.there n lane number.0 found)
          ∙ ap (λ k. Some (unwrap_or (value_in stores lane k) was.value))
          (sym (kept_whole.apart.number n lane number.0 found))

      pub shown : CutsAreLogical m view →
          store_state m home_of store ≡ logical_state m view
      shown logical =
          sym (logical_is m view logical
          ∙ same_state _ _ _ _
          (filled-all value_at_home (value_after stores) (value_come m view) store.objects.items
          value_given)
          (ap (fold (with_lane m) store.total) (lanes_come store.logs.items store.ends.items)))
