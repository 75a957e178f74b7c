-- What calls of the runtime need of a store.
use Rattle.std.proofs.Common.{◌≡◌, ℕ, Bool, true, false, Option, Some, None, length, refl, sym}
use Rattle.std.specs.Prelude.{Result, Ok, Err, OnOk}
use Rattle.ss_base.specs.declared.ids.SetId.{SetId}
use Rattle.execution_definitions.specs.Meanings.{Meaning}
use Rattle.execution_definitions.specs.Sets.{lane_of_set}
use Rattle.delegates.specs.declared.home.Home.{Home}
use Rattle.lane_store.specs.declared.store.LaneStore.{LaneStore}
use Rattle.lane_store.specs.LaneStores.{AreIdle, IsIdleFor, IsCaughtUp}
use Rattle.lane_store.proofs.IdleLemmas.{idle_caught_up}

-- idle lanes have done all that was sent to them
pub idle_catch : {C W O R : Type 0} (m : Meaning C O R) (home_of : W → Home C O R)
    (store : LaneStore C W O R) (n : ℕ) (set : Option SetId) →
    length store.logs.items ≡ length store.ends.items → AreIdle m home_of store →
    IsCaughtUp m home_of store n set
idle_catch m home_of store n None count idle = tt
idle_catch m home_of store n (Some set) count idle =
    idle_caught_up m home_of store.logs.items store.ends.items (lane_of_set set.0 n) count
    (idle (lane_of_set set.0 n))

-- where nothing is in any lane, nothing is in that of a set
pub idle_for_all : {C W O R : Type 0} (m : Meaning C O R) (home_of : W → Home C O R)
    (store : LaneStore C W O R) (n : ℕ) (set : Option SetId) → AreIdle m home_of store →
    IsIdleFor m home_of store n set
idle_for_all m home_of store n None idle = tt
idle_for_all m home_of store n (Some set) idle = idle (lane_of_set set.0 n)

-- what follows from facts that hold after Ok
pub on_ok3 : {T E P Q S U : Type 0} (result : Result T E) → OnOk result P → OnOk result Q →
    OnOk result S → (P → Q → S → U) → OnOk result U
on_ok3 (Ok value) p q s next = next p q s
on_ok3 (Err error) p q s next = tt
