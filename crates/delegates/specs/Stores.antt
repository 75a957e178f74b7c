-- What does a store hold after messages?
--
-- A message that carries an object puts its value in. An operation gives its object a new value, its
-- contribution is joined, and its run is logged. A broken store drops every message.
use Rattle.std.specs.Prelude.{ℕ, Bool, true, false, ◌||◌, is_none, if◌then◌else◌, Option, Some, None, List, [], ◌∷◌, ◌++◌, fold}
use Rattle.std.specs.Ordering.{nat_cmp}
use Rattle.std.specs.Map.{keys_of, lookup, set_value}
use Rattle.std.specs.BTreeMap.{is_at, insert_entry}
use Rattle.std.specs.Option.{option_map}
use Rattle.std.specs.declared.sync.Arc.{Arc}
use Rattle.std.specs.declared.alloc.Global.{Global}
use Rattle.std.specs.Arc.{arc_value}
use Rattle.ss_base.specs.declared.ids.Run.{Run}
use Rattle.ss_base.specs.declared.ids.CallNo.{CallNo}
use Rattle.ss_base.specs.declared.ids.SetId.{SetId}
use Rattle.ss_base.specs.declared.ids.ObjectId.{ObjectId}
use Rattle.execution_definitions.specs.Meanings.{Meaning}
use Rattle.interleavings.specs.Machines.{Entry}
use Rattle.set_queue.specs.declared.message.Message.{Message}
use Rattle.set_queue.specs.declared.message.Message.TheVariants as message
use Rattle.delegates.specs.declared.store.Store.{Store}

-- what contracts see of a store
pub record Stored (C R : Type 0) : Type 0 where
  -- the objects that are there, each with its value, in the order of their numbers
  pub values : List (ℕ × C)
  -- what operations contributed
  pub total : R
  -- what ran, in order
  pub runs : List Run
  -- an operation found no memory
  pub is_broken : Bool

module _ {C O R : Type 0} where
  abbrev pub stored : Store C O R → Stored C R
  stored s = record {
    values = s.values.entries;
    total = s.total;
    runs = s.runs.items;
    is_broken = s.is_broken;
  }

module _ {C R : Type 0} where
  -- the value of an object, where it is there
  abbrev pub value_of : Stored C R → ℕ → Option C
  value_of s object = lookup (is_at (nat_cmp object)) s.values

  -- the objects that are there, by their numbers, which rise
  abbrev pub numbers_of : Stored C R → List ℕ
  numbers_of s = keys_of s.values

  -- the store with a value put in, at the place of its number
  abbrev pub holding : Stored C R → ℕ → C → Stored C R
  holding s object value = record s { values = insert_entry nat_cmp s.values object value }

  -- the store with a value before all others
  abbrev pub with_first : Stored C R → ℕ → C → Stored C R
  with_first s object value = record s { values = (object, value) ∷ s.values }

  -- the store with another total
  abbrev pub with_total : Stored C R → R → Stored C R
  with_total s total = record s { total = total }

  -- the store with another log
  abbrev pub with_runs : Stored C R → List Run → Stored C R
  with_runs s runs = record s { runs = runs }

module _ {C O : Type 0} where
  -- a run, with its operation and the value that this reads
  abbrev pub entry_of : Run → O → Option (Arc C Global) → Entry C O
  entry_of run op reading = record { run = run; op = op; read = option_map arc_value reading }

  -- the entry that a message asks to run
  abbrev pub entry : CallNo → ℕ → SetId → ObjectId → O → Option (Arc C Global) → Entry C O
  entry call epoch set object op reading =
      entry_of (record { call = call; epoch = epoch; set = set; object = object }) op reading

module _ {C O R : Type 0} (m : Meaning C O R) where
  -- nothing but the unit
  abbrev pub empty_store : Stored C R
  empty_store = record { values = []; total = m.unit; runs = []; is_broken = false }

  -- a run gave its object a new value and contributed
  abbrev pub stepped : Stored C R → Run → C × R → Stored C R
  stepped s run after = record s {
    values = set_value (is_at (nat_cmp run.object.0)) s.values after.0;
    total = m.join s.total after.1;
    runs = s.runs ++ run ∷ [];
  }

  -- an entry ran on the value of its object, where that is there
  abbrev pub ran_on : Stored C R → Entry C O → Option C → Stored C R
  ran_on s e None = s
  ran_on s e (Some value) = stepped s e.run (m.step value e.op e.read)

  -- an entry ran
  abbrev pub ran : Stored C R → Entry C O → Stored C R
  ran s e = ran_on s e (value_of s e.run.object.0)

  -- the store after a message, where it isn't broken
  abbrev pub after_message : Stored C R → Message C O R → Stored C R
  after_message s (message.Carry call epoch set object value op reading) =
      ran (holding s object.0 value) (entry call epoch set object op reading)
  after_message s (message.Run call epoch set object op reading) =
      ran s (entry call epoch set object op reading)
  after_message s message.Stop = s

  -- the store after a message
  abbrev pub taken : Stored C R → Message C O R → Stored C R
  taken s message = if s.is_broken then s else after_message s message

  -- the store after messages
  abbrev pub folded : Stored C R → List (Message C O R) → Stored C R
  folded s messages = fold taken s messages

-- the message changes nothing: the store is broken, or a run's object isn't there, or it is a stop
abbrev pub changes_nothing : {C O R : Type 0} → Stored C R → Message C O R → Bool
changes_nothing s (message.Carry call epoch set object value op reading) = s.is_broken
changes_nothing s (message.Run call epoch set object op reading) =
    s.is_broken || is_none (value_of s object.0)
changes_nothing s message.Stop = true
