-- What calls of the runtime need of a store.
use Rattle.std.proofs.Common.{◌≡◌, ℕ, zero, suc, Bool, false, Option, Some, None, List, [], ◌∷◌, ◌++◌, length, sym, subst}
use Rattle.std.specs.Prelude.{Result, Ok, Err, OnOk}
use Rattle.std.proofs.lemmas.Option.{same_Some}
use Rattle.ss_base.specs.declared.ids.SetId.{SetId}
use Rattle.execution_definitions.specs.Sets.{lane_of_set}
use Rattle.delegation.specs.Runtimes.{RuntimeView, HasDone}
use Rattle.delegation.specs.Answers.{HasCaughtUp}
use Rattle.batch_rt.specs.declared.store.Store.{Store}
use Rattle.batch_rt.specs.declared.lane.Lane.{Lane}
use Rattle.batch_rt.specs.Lanes.{IsIdle}
use Rattle.batch_rt.specs.Stores.{store_sent, Each, IsCaughtUp}
use Rattle.batch_rt.proofs.IdleLemmas.{idle_sent, idle_caught_up}
use Rattle.batch_rt.proofs.ContinueLemmas.{logs_done}

module _ {C O R : Type 0} where
  -- lanes did the first of what was sent to them, and idle lanes all
  pub store_done : (store : Store C O R) (is_open : Bool) →
      length store.logs.items ≡ length store.lanes.items →
      (is_open ≡ false → Each IsIdle store.lanes.items) →
      HasDone (store_sent store) store.logs.items is_open
  store_done store is_open count idle =
      logs_done store.logs.items store.lanes.items is_open count
      (λ closed. sym (idle_sent store.logs.items store.lanes.items (idle closed) count))

  -- the same of a store with these lanes and logs
  pub caught_up : (store : Store C O R) (n : ℕ) (set : Option SetId) (runtime : RuntimeView C R) →
      runtime.delegates ≡ n → runtime.logs ≡ store.logs.items → runtime.sent ≡ store_sent store →
      IsCaughtUp store n set → HasCaughtUp runtime set
  caught_up store n None runtime delegates logs sent is = tt
  caught_up store n (Some set) runtime delegates logs sent is = rw (delegates, logs, sent) is

-- idle lanes have done all that was sent to them
pub idle_catch : {C O R : Type 0} (store : Store C O R) (n : ℕ) (set : Option SetId) →
    length store.logs.items ≡ length store.lanes.items → Each IsIdle store.lanes.items →
    IsCaughtUp store n set
idle_catch store n None count idle = tt
idle_catch store n (Some set) count idle =
    idle_caught_up store.logs.items store.lanes.items (lane_of_set set.0 n) count
    (idle (lane_of_set set.0 n))

-- what follows from facts that hold after Ok
pub on_ok3 : {T E P Q S U : Type 0} (result : Result T E) → OnOk result P → OnOk result Q →
    OnOk result S → (P → Q → S → U) → OnOk result U
on_ok3 (Ok value) p q s next = next p q s
on_ok3 (Err error) p q s next = tt

-- one lane more that is so
pub each_push : {C O R : Type 0} (P : Lane C O R → Type 0) (lanes : List (Lane C O R))
    (new : Lane C O R) → Each P lanes → P new → Each P (lanes ++ new ∷ [])
each_push P [] new each is zero lane at = subst P (same_Some _ _ at) is
each_push P [] new each is (suc n) lane at = absurd cc
each_push P (first ∷ lanes) new each is zero lane at = each 0 lane at
each_push P (first ∷ lanes) new each is (suc n) lane at =
    each_push P lanes new (λ k lane at. each (suc k) lane at) is n lane at
