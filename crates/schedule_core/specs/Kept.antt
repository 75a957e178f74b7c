-- What do contracts see of a machine, and what holds of it between events?
use Rattle.std.specs.Prelude.{◌≡◌, Bool, false, Some, None, List, map, take, drop}
use Rattle.execution_definitions.specs.declared.call.Call.{Call}
use Rattle.execution_definitions.specs.Meanings.{Meaning}
use Rattle.interleavings.specs.Machines.{MachineState}
use Rattle.schedule_core.specs.declared.parts.Parts.{Parts}
use Rattle.schedule_core.specs.Stores.{core_of, IsFit, IsAfter}

-- a machine, as its callers know it
pub record MachineView (C O R : Type 0) : Type 0 where
  -- all calls, also those that were taken
  pub calls : List (Call C O)
  -- what the machine is, as long as it found memory
  pub state : MachineState C O R
  -- it found no memory once; from then on every event is answered so
  pub has_failed : Bool

module _ {C O R : Type 0} where
  -- all calls
  abbrev pub program_of : Parts C O R → List (Call C O)
  program_of parts = parts.program.value.items

  -- the state of a machine
  abbrev pub machine_of : Parts C O R → MachineState C O R
  machine_of parts = record {
    next = parts.store.marks.calls;
    core = core_of parts.store;
    replies = map Some parts.replies.items;
    stop = parts.stop;
    order = map (λ call. call.0) parts.order.items;
  }

  abbrev pub view_of : Parts C O R → Bool → MachineView C O R
  view_of parts has_failed =
      record { calls = program_of parts; state = machine_of parts; has_failed = has_failed }

module _ {C O R : Type 0} (m : Meaning C O R) where
  -- the marks stand for the calls that were taken, and the others are left, unless one was refused
  pub record IsKept (parts : Parts C O R) : Type 0 where
    pub fit : IsFit parts.store
    pub marks : IsAfter m parts.store (take parts.store.marks.calls (program_of parts))
    pub left : parts.stop ≡ None → parts.left.items ≡ drop parts.store.marks.calls (program_of parts)

  -- the same, as long as memory was found
  abbrev pub IsKeptUnless : Parts C O R → Bool → Type 0
  IsKeptUnless parts has_failed = has_failed ≡ false → IsKept parts
