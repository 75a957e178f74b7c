use Rattle.std.proofs.Common.{◌∙◌, ap}
use Rattle.schedule_laws.specs.Replayed.{replayed}
use Rattle.script_lang.specs.Acts.{script_meaning}
use Rattle.script_replay.proofs.replays.replay_script.Goals as goal

pub returns-clause-order : goal.returns-clause-order
returns-clause-order c =
    let found = c.in_ok-outcome.ensures.replayed in
    found.order
    ∙ ap (λ end. end.order) (c.every_replay_is_computed.ensures c.args.lanes
    c.in_ok-calls.calls.items c.args.schedule.now found.end_ found.replay)
    ∙ ap (λ calls. (replayed script_meaning calls c.args.lanes c.args.schedule.now).order)
    c.in_ok-calls.ensures
