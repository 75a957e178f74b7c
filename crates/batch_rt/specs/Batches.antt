-- What do contracts see of the runtime with pending lists?
use Rattle.std.specs.Prelude.{ℕ, Bool}
use Rattle.class_laws.specs.declared.class.Class
use Rattle.class_laws.specs.declared.reducible.Reducible
use Rattle.execution_definitions.specs.Meanings.{Meaning}
use Rattle.partition_check.specs.Marked.{Marked}
use Rattle.delegation.specs.Runtimes.{RuntimeView}
use Rattle.batch_rt.specs.declared.batch.Batch.{Batch}
use Rattle.batch_rt.specs.declared.store.Store.{Store}
use Rattle.batch_rt.specs.Stores.{store_state, store_sent}

-- a store with these marks
abbrev pub store_view :
    {C O R : Type 0} → Meaning C O R → ℕ → Store C O R → Marked → Bool → RuntimeView C R
store_view m delegates store marks has_failed = record {
  delegates = delegates;
  state = store_state m store;
  marks = marks;
  sent = store_sent store;
  logs = store.logs.items;
  has_failed = has_failed;
}

module _ {C O R : Type 0} {c : Class.Ghosts C O R} {r : Reducible.Ghosts R} (m : Meaning C O R)
  where
    abbrev pub batch_view : Batch C O R c r → RuntimeView C R
    batch_view batch = store_view m batch.delegates batch.store batch.marks batch.has_failed
