use Rattle.std.proofs.Common.{refl}
use Rattle.schedule_core.specs.Kept.{program_of, machine_of}
use Rattle.schedule_core.proofs.ReplayLemmas.{replayed}
use Rattle.schedule_core.proofs.replays.replay.Goals as goal

pub returns-clause-replayed : goal.returns-clause-replayed
returns-clause-replayed g c =
    let m = g.C.Class.meaning in
    let calls = c.args.calls.items in
    let made = c.in_ok-parts.ensures in
    let took = c.in_ok-take_schedule.ensures in
    let end_ = machine_of c.go_on.new.parts in
    let is = replayed m calls c.args.lanes c.args.schedule.now
    (program_of c.in_ok-parts.parts) (program_of c.take_schedule.new.parts)
    (machine_of c.in_ok-parts.parts) (machine_of c.take_schedule.new.parts) end_
    made.program made.state took.program took.state c.in_ok-go_on.ensures in
    record {
      end_ = end_;
      replay = is;
      replies = refl;
      stopped = refl;
      state = refl;
      order = refl;
    }

pub returns-clause-answered : goal.returns-clause-answered
returns-clause-answered g c =
    let m = g.C.Class.meaning in
    let calls = c.args.calls.items in
    let made = c.in_ok-parts.ensures in
    let took = c.in_ok-take_schedule.ensures in
    let end_ = machine_of c.go_on.new.parts in
    let is = replayed m calls c.args.lanes c.args.schedule.now
    (program_of c.in_ok-parts.parts) (program_of c.take_schedule.new.parts)
    (machine_of c.in_ok-parts.parts) (machine_of c.take_schedule.new.parts) end_
    made.program made.state took.program took.state c.in_ok-go_on.ensures in
    let at_end = c.every_replay_gives_the_same.ensures c.args.lanes c.requires.some calls
    c.args.schedule.now end_ is in
    record { replies = at_end.replies; stopped = at_end.stop }

pub returns-clause-state : goal.returns-clause-state
returns-clause-state g c =
    let m = g.C.Class.meaning in
    let calls = c.args.calls.items in
    let made = c.in_ok-parts.ensures in
    let took = c.in_ok-take_schedule.ensures in
    let end_ = machine_of c.go_on.new.parts in
    let is = replayed m calls c.args.lanes c.args.schedule.now
    (program_of c.in_ok-parts.parts) (program_of c.take_schedule.new.parts)
    (machine_of c.in_ok-parts.parts) (machine_of c.take_schedule.new.parts) end_
    made.program made.state took.program took.state c.in_ok-go_on.ensures in
    let at_end = c.every_replay_gives_the_same.ensures c.args.lanes c.requires.some calls
    c.args.schedule.now end_ is in
    at_end.state
