use Rattle.std.proofs.Common.{◌∙◌, ap, ap₂, sym}
use Rattle.ss_top.specs.Answers.{replay_answer, shown_answer}
use Rattle.ss_top.specs.Executions.{followed}
use Rattle.ss_top.proofs.ExecutionsLemmas.{order_of-replayed}
use Rattle.ss_top.proofs.commands.replay.replay_text.Goals as goal

pub returns-clause-answer : goal.returns-clause-answer
returns-clause-answer c =
    let order = order_of-replayed c.args.lanes c.in_ok-script.script
    c.in_ok-schedule.schedule.items c.in_ok-replayed.replayed.order.items
    (rw c.deref.ensures.value at c.in_ok-replayed.ensures.order) in
    ap₂ (replay_answer c.args.lanes c.args.order) c.in_ok-script.ensures.ok
    c.in_ok-schedule.ensures.ok
    ∙ ap shown_answer (ap₂ (followed c.args.order) (sym c.in_ok-replayed.ensures.shown) (sym order)
    ∙ sym c.in_ok-shown.ensures)
    ∙ sym c.printed.ensures.answer
