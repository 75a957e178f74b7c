use Rattle.std.proofs.Common.{◌<◌, sym, ap, ◌∙◌, subst}
use Rattle.interleavings.specs.Machines.{after_event, event_by_rule}
use Rattle.schedule_core.specs.Kept.{program_of, machine_of}
use Rattle.schedule_core.proofs.KeptLemmas.{taken_within}
use Rattle.schedule_core.proofs.ReplayLemmas.{goes_on_from}
use Rattle.schedule_laws.proofs.RuleLemmas.{events_left, events_left-less}
use Rattle.schedule_core.proofs.replays.go_on.Goals as goal

pub loop-e-preserved : goal.loop-e-preserved
loop-e-preserved g c =
    let m = g.C.Class.meaning in
    let was = c.loop-e.invariant in
    let took = c.in_ok-take_event.ensures in
    let start = program_of c.args.parts.now in
    let machine = machine_of c.loop-e.parts in
    record {
      kept = took.kept;
      program = took.program ∙ was.program;
      goes = λ end_ goes. was.goes end_ (goes_on_from m start machine
          (machine_of c.take_event.new.parts) end_ c.in-Some.e
          (ap (λ p. event_by_rule m p machine) (sym was.program)
          ∙ sym c.event_by_rule.ensures ∙ c.in-Some.is)
          (took.state ∙ ap (λ p. after_event m p machine c.in-Some.e) was.program) goes);
    }

pub loop-e-smaller : goal.loop-e-smaller
loop-e-smaller g c =
    let m = g.C.Class.meaning in
    let took = c.in_ok-take_event.ensures in
    let parts = c.loop-e.parts in
    let calls = program_of parts in
    let machine = machine_of parts in
    let next = c.take_event.new.parts in
    let less = events_left-less m calls machine c.in-Some.e
    (taken_within m calls parts.store.marks c.loop-e.invariant.kept.marks)
    (sym c.event_by_rule.ensures ∙ c.in-Some.is) in
    subst (λ n. n < events_left m calls machine)
    (sym (ap (λ p. events_left m p (machine_of next)) took.program
    ∙ ap (events_left m calls) took.state)) less
