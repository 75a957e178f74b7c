-- What contracts see of running lanes, by what the runtime keeps.
use Rattle.std.proofs.Common.{◌≡◌, ℕ, zero, suc, Bool, true, false, ◌&&◌, Option, Some, None, List, [], ◌∷◌, map, refl, sym, ap, ◌∙◌}
use Rattle.std.specs.Prelude.{is_some, slice_get}
use Rattle.ss_base.specs.declared.ids.Run.{Run}
use Rattle.ss_base.specs.declared.ids.SetId.{SetId}
use Rattle.execution_definitions.specs.Meanings.{Meaning}
use Rattle.execution_definitions.specs.Sets.{lane_of_set}
use Rattle.execution_definitions.specs.Shapes.{delegate}
use Rattle.execution_definitions.specs.declared.call.Call.{Call}
use Rattle.execution_definitions.specs.declared.call.Call.TheVariants.{Make, MakeFixed, Begin, Delegate, Write, Get, End, Total}
use Rattle.partition_check.specs.Judged.{judged}
use Rattle.partition_check.specs.Marked.{Marked, mark_at, set_marked, set_delegated}
use Rattle.delegation.specs.declared.call.Fault.TheVariants.{OutOfMemory}
use Rattle.jobs.specs.declared.start.RunningJob.{RunningJob}
use Rattle.delegates.specs.declared.worker.DelegateJob.{DelegateJob}
use Rattle.lane_ends.specs.declared.lane_end.LaneEnd.{LaneEnd}
use Rattle.lane_objects.specs.declared.object.Object.{Object}
use Rattle.lane_objects.specs.declared.object.Object.TheVariants.{Here, Shared, Away}
use Rattle.lane_objects.specs.Objects.{value_at_home, found_at}
use Rattle.lane_store.specs.declared.store.LaneStore.{LaneStore}
use Rattle.lane_store.specs.LaneStores.{has_worker_at}
use Rattle.lane_rt.specs.Kept.{HoldsTogether}
use Rattle.lane_rt.specs.Moves.{is_out, works, works_for, places, Moves}
use Rattle.lane_ends.specs.Workers.{home_given}
use Rattle.lane_store.specs.Running.{lanes_of}
use Rattle.lane_rt.specs.Seen.{LanesValue}
use Rattle.lane_rt.proofs.PlacedLemmas.{held_delegated, held_accepted}

both_true : (a b : Bool) → (a && b) ≡ true → (a ≡ true) × (b ≡ true)
both_true true b both = (refl, both)
both_true false b both = absurd cc

pub and_false : (a : Bool) → (a && false) ≡ false
and_false true = refl
and_false false = refl

pub there_is : {A : Type 0} (found : Option A) → is_some found ≡ true → (a : A) × (found ≡ Some a)
there_is None some = absurd cc
there_is (Some a) some = (a, refl)

-- an object's value isn't at home where the object is found in a lane
pub out_is : {C : Type 0} (objects : List (Object C)) (n : ℕ) →
    is_out (slice_get (map value_at_home objects) n) ≡ is_some (found_at objects n)
out_is [] n = refl
out_is (Here value ∷ objects) zero = refl
out_is (Shared shared ∷ objects) zero = refl
out_is (Away lane number was ∷ objects) zero = refl
out_is (object ∷ objects) (suc n) = out_is objects n

module _ {C G O R : Type 0} (m : Meaning C O R) where
  -- who takes from a lane
  pub works_is : (logs : List (List Run))
      (ends : List (LaneEnd C (RunningJob (DelegateJob C G O R)) O R)) (l : ℕ) →
      works (slice_get (lanes_of m home_given logs ends) l) ≡ has_worker_at ends l
  works_is [] [] l = refl
  works_is (log ∷ logs) [] l = refl
  works_is [] (end ∷ ends) zero = refl
  works_is [] (end ∷ ends) (suc l) = works_is [] ends l
  works_is (log ∷ logs) (end ∷ ends) zero = refl
  works_is (log ∷ logs) (end ∷ ends) (suc l) = works_is logs ends l

  -- an object that is away at a delegate is in the lane of each delegation that is accepted
  pub away_sent :
      (store : LaneStore C (RunningJob (DelegateJob C G O R)) O R) (marks : Marked)
      (n o own lane : ℕ) (reading : Option ℕ) (set : SetId) → HoldsTogether m store marks n →
      judged marks (delegate o own reading) ≡ None →
      set.0 ≡ set_marked (mark_at marks o) o own → lane ≡ lane_of_set set.0 n →
      (is_out (slice_get (map value_at_home store.objects.items) o)
      && works_for (lanes_of m home_given store.logs.items store.ends.items) n (set_delegated marks o)) ≡ true →
      (found_at store.objects.items o ≡ Some (lane, o)) × (has_worker_at store.ends.items lane ≡ true)
  away_sent store marks n o own lane reading set kept accepted set_is lane_is away =
      let objects = store.objects.items in
      let lanes = lanes_of m home_given store.logs.items store.ends.items in
      let parts = both_true (is_out (slice_get (map value_at_home objects) o))
      (works_for lanes n (set_delegated marks o)) away in
      let found = there_is (found_at objects o) (sym (out_is objects o) ∙ parts.0) in
      let was = kept.placed o found.0.0 found.0.1 found.1 in
      let held = held_accepted marks o own reading was.set accepted was.held in
      let same : lane ≡ found.0.0 =
      lane_is ∙ ap (λ s. lane_of_set s n) (set_is ∙ sym held) ∙ was.lane_is in (
        found.1 ∙ ap (λ number. Some (found.0.0, number))
            (kept.whole.apart.number o found.0.0 found.0.1 found.1)
            ∙ ap (λ l. Some (l, o)) (sym same),
        ap (has_worker_at store.ends.items) (same ∙ sym was.lane_is)
            ∙ sym (works_is store.logs.items store.ends.items (lane_of_set was.set.0 n))
            ∙ sym (ap (works_for lanes n) (held_delegated marks o was.set was.held)) ∙ parts.1,
      )

module _ {C O R : Type 0} (m : Meaning C O R) where
  failed_places : (lanes : LanesValue C O R) (made : Call C O) →
      lanes.runtime.has_failed ≡ true → places lanes lanes made (Some OutOfMemory)
  failed_places lanes (Make value by) failed = tt
  failed_places lanes (MakeFixed value) failed = tt
  failed_places lanes Begin failed = tt
  failed_places lanes (Delegate object op reading) failed =
      record { out = λ is. absurd cc; succeeds = λ none away is. failed }
  failed_places lanes (Write object op) failed = λ is. absurd cc
  failed_places lanes (Get object) failed = λ is. absurd cc
  failed_places lanes End failed = λ is. absurd cc
  failed_places lanes Total failed = tt

  -- each call of a runtime that failed wants memory because an earlier one did
  pub failed_moves : (lanes : LanesValue C O R) (made : Call C O) →
      lanes.runtime.has_failed ≡ true → Moves m lanes lanes made (Some OutOfMemory)
  failed_moves lanes made failed =
      record { objects = failed_places lanes made failed; event = λ is. absurd cc }
