use Rattle.std.proofs.Common.{◌∙◌, ap}
use Rattle.std.proofs.lemmas.Result.{IfOk-weaker}
use Rattle.report.specs.Traces.{runs_in, trace_text}
use Rattle.script_lang.specs.ScriptAnswers.{shown_of}
use Rattle.ss_top.specs.Executions.{followed, trace_of}
use Rattle.ss_top.proofs.ExecutionsLemmas.{followed-same, trace_of-sent}
use Rattle.ss_top.proofs.commands.script.shown_on.Goals as goal

pub returns : goal.returns
returns g c =
    let listing = c.args.script.now in
    let printed = trace_text (runs_in c.deref.result.now) in
    IfOk-weaker c.with_trace.result _ _
    (λ given is. is ∙ ap (λ shown. followed c.args.trace shown printed) c.in_ok-given.ensures.shown
    ∙ followed-same c.args.trace (shown_of listing) printed (trace_of listing)
    (trace_of-sent listing (g.D.Runtime.seen c.run_script-given.new.d)
    c.deref.result.now c.logs_have_the_programs_trace.ensures c.in_ok-given.ensures.after
    (c.deref.ensures.value ∙ c.in_ok-logs.ensures.logs)))
    c.with_trace.ensures
