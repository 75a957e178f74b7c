use Rattle.std.proofs.Common.{◌≡◌, take, sym, ap, ◌∙◌, Err}
use Rattle.std.proofs.lemmas.List.{take_all}
use Rattle.script_lang.specs.ScriptCalls.{listed_calls, ends_within_epoch}
use Rattle.script_lang.proofs.shown.RunningLemmas.{open-in, goes-in, stops-in, stops-end}
use Rattle.script_lang.proofs.shown.RunningLemmas.{says_shown, says_after, ends-open, ends-closed}
use Rattle.script_lang.proofs.running.run_script.Goals as goal
use Rattle.script_lang.proofs.running.run_script.Goals.{then-is_open+in-Ok-run_command}
use Rattle.script_lang.proofs.running.run_script.Goals.{else-is_open}

pub loop-placed-preserved : goal.loop-placed-preserved
loop-placed-preserved g c =
    let items = c.commands-placed-items.result.now in
    let i = c.loop-placed.placed-index in
    let way = c.loop-placed.invariant.way in
    let accepted = c.in-Ok.ensures.follows (listed_calls (take i items)) way.after in
    record {
      way = goes-in c.args.script.now items i _ c.loop-placed-test.true _ _ _ _ way accepted.1
          c.in-Ok.ensures.text;
      is_open = rw c.is_open_after-is_open.ensures
          (open-in items i _ _ c.loop-placed-test.true c.loop-placed.invariant.is_open);
    }

pub returns : goal.returns
returns g c =
    let i = c.loop-placed.placed-index in
    let script = c.args.script.now in
    let seen : take i c.commands-placed-items.result.now ≡ script.commands =
    take_all i c.commands-placed-items.result.now c.loop-placed-test.false
    ∙ c.commands-placed-items.ensures in
    let way = rw seen at c.loop-placed.invariant.way in
    let is_open : c.loop-placed.is_open ≡ ends_within_epoch (listed_calls script.commands) =
    rw seen at c.loop-placed.invariant.is_open in
    elim c.if-is_open.branch [
      | then-is_open+in-Ok-run_command w ↦
          let accepted =
          w.in-Ok-run_command.ensures.follows (listed_calls script.commands) way.after in
          let shows = ends-open script _ _ _ _ (sym is_open ∙ w.if-is_open.true) way accepted.1
          w.in-Ok-run_command.ensures.text in
          record { shown = rw w.text-is shows.shown; after = rw w.d-is shows.after }
      | else-is_open w ↦
          let shows = ends-closed script _ _ (sym is_open ∙ w.if-is_open.false) way in
          record { shown = rw w.text-is shows.shown; after = rw w.d-is shows.after }
    ]

pub returns-in-Err : goal.returns-in-Err
returns-in-Err g c =
    let items = c.commands-placed-items.result.now in
    let i = c.loop-placed.placed-index in
    let way = c.loop-placed.invariant.way in
    let fails = c.in-Err.ensures.follows (listed_calls (take i items)) way.after in
    let stops = stops-in c.args.script.now items c.commands-placed-items.ensures i _
    c.loop-placed-test.true _ (g.D.Runtime.seen c.run_command.new.d) _
    c.run_command.new.text.items c.in-Err.fault way fails
    (λ refusal is. c.in-Err.ensures.refused refusal (ap Err is)) in
    let result = c.shown_until.result in
    let told = c.shown_until.ensures in
    record {
      shown = says_shown c.args.script.now _ _ _ _ stops result told;
      after = says_after c.args.script.now _ _ _ _ stops result told;
    }

pub returns-in-Err-run_command : goal.returns-in-Err-run_command
returns-in-Err-run_command g c =
    let script = c.args.script.now in
    let seen : take c.loop-placed.placed-index c.commands-placed-items.result.now
    ≡ script.commands =
    take_all c.loop-placed.placed-index c.commands-placed-items.result.now c.loop-placed-test.false
    ∙ c.commands-placed-items.ensures in
    let way = rw seen at c.loop-placed.invariant.way in
    let is_open : c.loop-placed.is_open ≡ ends_within_epoch (listed_calls script.commands) =
    rw seen at c.loop-placed.invariant.is_open in
    let fails = c.in-Err-run_command.ensures.follows (listed_calls script.commands) way.after in
    let stops = stops-end script _ (g.D.Runtime.seen c.run_command-then-is_open.new.d) _
    c.run_command-then-is_open.new.text.items c.in-Err-run_command.fault
    (sym is_open ∙ c.if-is_open.true) way fails
    (λ refusal is. c.in-Err-run_command.ensures.refused refusal (ap Err is)) in
    let result = c.shown_until-in-Err-run_command.result in
    let told = c.shown_until-in-Err-run_command.ensures in
    record {
      shown = says_shown script _ _ _ _ stops result told;
      after = says_after script _ _ _ _ stops result told;
    }
