use Rattle.std.proofs.Common.{get_or, subst, ap, ◌∙◌}
use Rattle.ss_base.specs.declared.ids.Event.TheVariants as event
use Rattle.interleavings.specs.Machines.{after_event, IsFinished}
use Rattle.schedule_core.specs.Kept.{program_of, machine_of}
use Rattle.schedule_core.specs.Steps.{IsAnswered}
use Rattle.schedule_core.proofs.ReplayLemmas.{ends_early}
use Rattle.schedule_core.proofs.replays.take_schedule.Goals as goal

pub returns-in-Finished-clause-state : goal.returns-in-Finished-clause-state
returns-in-Finished-clause-state g c =
    let m = g.C.Class.meaning in
    let schedule = c.args.schedule.now in
    let calls = program_of c.args.parts.now in
    let parts = c.loop-e.parts in
    let machine = machine_of parts in
    let was = c.loop-e.invariant in
    let took = c.in_ok-take_event.ensures in
    let e = get_or schedule c.loop-e.e-index event.Program in
    let finished : IsFinished m (program_of parts) machine =
    subst (IsAnswered m (program_of parts) machine e) c.in-Finished.is took.answered in
    ends_early m calls (machine_of c.args.parts.now) machine (machine_of c.take_event.new.parts) e
    schedule c.loop-e.e-index was.state
    (subst (λ p. IsFinished m p machine) was.program finished)
    (took.state ∙ ap (λ p. after_event m p machine e) was.program)
