use Rattle.std.proofs.Common.{◌≡◌, take}
use Rattle.interleavings.specs.Machines.{after_schedule}
use Rattle.schedule_core.specs.Kept.{program_of, machine_of, IsKept}
use Rattle.schedule_core.proofs.replays.take_schedule.Given as goal

-- the machine is after the events so far
abbrev pub invariant-loop-e : goal.invariant-loop-e
invariant-loop-e g l = record {
  kept : IsKept g.C.Class.meaning l.parts;
  program : program_of l.parts ≡ program_of l.fn.parts;
  state : machine_of l.parts ≡ after_schedule g.C.Class.meaning (program_of l.fn.parts)
      (machine_of l.fn.parts) (take l.e-index l.schedule);
}
