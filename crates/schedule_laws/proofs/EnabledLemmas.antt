-- Which events of a machine are enabled.
use Rattle.std.proofs.Common.{◌≡◌, ℕ, zero, suc, true, false, Option, Some, None, List, [], ◌∷◌, refl}
use Rattle.std.specs.Prelude.{slice_get, is_some}
use Rattle.std.specs.List.{list_all}
use Rattle.ss_base.specs.declared.ids.Event.TheVariants as event
use Rattle.execution_definitions.specs.declared.call.Call.{Call}
use Rattle.execution_definitions.specs.declared.call.Call.TheVariants.{Make, MakeFixed, Begin, Delegate, Write, Get, End, Total}
use Rattle.execution_definitions.specs.declared.refusal.Refusal.{Refusal}
use Rattle.execution_definitions.specs.Held.{last_set}
use Rattle.execution_definitions.specs.Meanings.{Meaning, shapes_of}
use Rattle.interleavings.specs.Machines.{Core, MachineState, is_empty, front_at, is_idle_for, may_take, calls_taken, next_call, may_take_some, IsFinished}
use Rattle.schedule_laws.proofs.StandsAfterLemmas.{all_idle}

module _ {A : Type 0} where
  -- where no lane has a front nothing waits
  pub no_fronts : (lanes : List (List A)) → ((k : ℕ) → is_some (front_at lanes k) ≡ false) →
      list_all is_empty lanes ≡ true
  no_fronts [] none = refl
  no_fronts ([] ∷ lanes) none = no_fronts lanes (λ k. none (suc k))
  no_fronts ((entry ∷ rest) ∷ lanes) none = let clash : true ≡ false = none zero in absurd cc

  -- and the other way round
  pub all_without_front : (lanes : List (List A)) (k : ℕ) → list_all is_empty lanes ≡ true →
      is_some (front_at lanes k) ≡ false
  all_without_front [] k empty = refl
  all_without_front ([] ∷ lanes) zero empty = refl
  all_without_front ([] ∷ lanes) (suc k) empty = all_without_front lanes k empty
  all_without_front ((entry ∷ rest) ∷ lanes) k empty = absurd cc

module _ {C O R : Type 0} (m : Meaning C O R) where
  may_idle : (core : Core C O R) (last : Option ℕ) → list_all is_empty core.lanes ≡ true →
      is_idle_for core last ≡ true
  may_idle core None empty = refl
  may_idle core (Some set) empty = all_idle core.lanes _ empty

  -- where nothing waits, every call can be taken
  pub may_take-empty : (taken : List (Call C O)) (core : Core C O R) (call : Call C O) →
      list_all is_empty core.lanes ≡ true → may_take m taken core call ≡ true
  may_take-empty taken core (Make value by) empty = refl
  may_take-empty taken core (MakeFixed value) empty = refl
  may_take-empty taken core Begin empty = refl
  may_take-empty taken core (Delegate object op reading) empty = refl
  may_take-empty taken core (Write object op) empty =
      may_idle core (last_set (shapes_of m taken) object.0) empty
  may_take-empty taken core (Get object) empty =
      may_idle core (last_set (shapes_of m taken) object.0) empty
  may_take-empty taken core End empty = empty
  may_take-empty taken core Total empty = refl

  module _ (calls : List (Call C O)) (machine : MachineState C O R) where
    -- nothing waits, and no call is left that isn't refused
    pub record IsSpent : Type 0 where
      pub empty : list_all is_empty machine.core.lanes ≡ true
      pub none_left : machine.stop ≡ None → slice_get calls machine.next ≡ None

    not_taken : (stop : Option Refusal) →
        (stop ≡ None → slice_get calls machine.next ≡ None) →
        may_take_some m calls machine (next_call m calls machine stop) ≡ false
    not_taken None none = rw (none refl) refl
    not_taken (Some refusal) none = refl

    -- then no event is enabled
    pub spent-finished : IsSpent → IsFinished m calls machine
    spent-finished spent event.Program = not_taken machine.stop spent.none_left
    spent-finished spent (event.Delegate lane) =
        all_without_front machine.core.lanes lane.0 spent.empty

    found_not : (found : Option (Call C O)) → list_all is_empty machine.core.lanes ≡ true →
        may_take_some m calls machine found ≡ false → found ≡ None
    found_not None empty not = refl
    found_not (Some call) empty not =
        let may = may_take-empty (calls_taken m calls machine) machine.core call empty in absurd cc

    left_none : (stop : Option Refusal) → list_all is_empty machine.core.lanes ≡ true →
        may_take_some m calls machine (next_call m calls machine stop) ≡ false →
        stop ≡ None → slice_get calls machine.next ≡ None
    left_none None empty not is = found_not (slice_get calls machine.next) empty not
    left_none (Some refusal) empty not is = absurd cc

    -- where no event is enabled it is so
    pub finished-spent : IsFinished m calls machine → IsSpent
    finished-spent finished =
        let empty = no_fronts machine.core.lanes
        (λ k. finished (event.Delegate (record { 0 = k }))) in
        record {
          empty = empty;
          none_left = left_none machine.stop empty (finished event.Program);
        }
