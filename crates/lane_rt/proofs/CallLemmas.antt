-- What calls of the runtime need of its store.
use Rattle.std.proofs.Common.{◌≡◌, ℕ, zero, suc, Bool, false, Option, Some, None, List, [], ◌∷◌, ◌∙◌, length, refl, sym, subst, arith}
use Rattle.std.specs.Prelude.{slice_get}
use Rattle.std.proofs.lemmas.Option.{same_Some}
use Rattle.std.proofs.lemmas.List.{length-map}
use Rattle.ss_base.specs.declared.ids.Run.{Run}
use Rattle.ss_base.specs.declared.ids.SetId.{SetId}
use Rattle.execution_definitions.specs.Meanings.{Meaning}
use Rattle.delegation.specs.Runtimes.{RuntimeView, IsFront, HasDone}
use Rattle.delegation.specs.Answers.{HasCaughtUp}
use Rattle.delegation.proofs.runs.FrontLemmas.{front_here}
use Rattle.delegates.specs.Stores.{Stored}
use Rattle.delegates.specs.declared.home.Home.{Home}
use Rattle.lane_ends.specs.LaneEnds.{comes_to}
use Rattle.lane_store.specs.declared.store.LaneStore.{LaneStore}
use Rattle.lane_objects.specs.Outcomes.{sent_runs}
use Rattle.lane_store.specs.LaneStores.{stores_of, store_sent, AreIdle, IsCaughtUp}
use Rattle.lane_store.proofs.IdleLemmas.{idle_sent}

module _ {C R : Type 0} where
  length-sent : (logs : List (List Run)) (lanes : List (Stored C R)) →
      length logs ≡ length lanes → length (sent_runs logs lanes) ≡ length logs
  length-sent [] lanes count = refl
  length-sent (log ∷ logs) [] count = absurd (omega (arith, count))
  length-sent (log ∷ logs) (s ∷ lanes) count =
      let rest = length-sent logs lanes (omega (arith, count)) in omega (arith, rest)

  each_log : (logs : List (List Run)) (lanes : List (Stored C R)) (n : ℕ)
      (front whole : List Run) → slice_get logs n ≡ Some front →
      slice_get (sent_runs logs lanes) n ≡ Some whole → IsFront front whole
  each_log [] lanes n front whole is_front is_whole = absurd cc
  each_log (log ∷ logs) [] n front whole is_front is_whole = absurd cc
  each_log (log ∷ logs) (s ∷ lanes) zero front whole is_front is_whole =
      subst (λ runs. IsFront front runs) (same_Some _ _ is_whole)
      (front_here front log s.runs (sym is_front))
  each_log (log ∷ logs) (s ∷ lanes) (suc n) front whole is_front is_whole =
      each_log logs lanes n front whole is_front is_whole

  -- what lanes did is the first of what was sent to them
  logs_done : (logs : List (List Run)) (lanes : List (Stored C R)) (is_open : Bool) →
      length logs ≡ length lanes → (is_open ≡ false → logs ≡ sent_runs logs lanes) →
      HasDone (sent_runs logs lanes) logs is_open
  logs_done logs lanes is_open count all = record {
    fronts = record {
      count = sym (length-sent logs lanes count);
      each = each_log logs lanes;
    };
    all = all;
  }

module _ {C W O R : Type 0} (m : Meaning C O R) (home_of : W → Home C O R) where
  -- lanes did the first of what was sent to them, and idle lanes all
  pub store_done : (store : LaneStore C W O R) (is_open : Bool) →
      length store.logs.items ≡ length store.ends.items →
      (is_open ≡ false → AreIdle m home_of store) →
      HasDone (store_sent m home_of store) store.logs.items is_open
  store_done store is_open count idle =
      logs_done store.logs.items (stores_of m home_of store.ends.items) is_open
      (count ∙ sym (length-map store.ends.items (comes_to m home_of)))
      (λ closed. sym (idle_sent m home_of store.logs.items store.ends.items (idle closed) count))

  -- the same of a store with these lanes and logs
  pub caught_up : (store : LaneStore C W O R) (n : ℕ) (set : Option SetId)
      (runtime : RuntimeView C R) → runtime.delegates ≡ n → runtime.logs ≡ store.logs.items →
      runtime.sent ≡ store_sent m home_of store → IsCaughtUp m home_of store n set →
      HasCaughtUp runtime set
  caught_up store n None runtime delegates logs sent is = tt
  caught_up store n (Some set) runtime delegates logs sent is = rw (delegates, logs, sent) is
