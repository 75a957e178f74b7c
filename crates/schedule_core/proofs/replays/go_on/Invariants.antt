use Rattle.std.proofs.Common.{◌≡◌}
use Rattle.interleavings.specs.Machines.{MachineState}
use Rattle.schedule_core.specs.Kept.{program_of, machine_of, IsKept}
use Rattle.schedule_core.specs.Outcomes.{GoesOnTo}
use Rattle.schedule_laws.proofs.RuleLemmas.{events_left}
use Rattle.schedule_core.proofs.replays.go_on.Given as goal

-- an end to which the machine goes on from here is one to which it went on from the start
abbrev pub invariant-loop-e : goal.invariant-loop-e
invariant-loop-e g l = record {
  kept : IsKept g.C.Class.meaning l.parts;
  program : program_of l.parts ≡ program_of l.fn.parts;
  goes : (end_ : MachineState _ _ _) →
      GoesOnTo g.C.Class.meaning (program_of l.fn.parts) (machine_of l.parts) end_ →
      GoesOnTo g.C.Class.meaning (program_of l.fn.parts) (machine_of l.fn.parts) end_;
}

abbrev pub decreases-loop-e : goal.decreases-loop-e
decreases-loop-e g l =
    events_left g.C.Class.meaning (program_of l.parts) (machine_of l.parts)
