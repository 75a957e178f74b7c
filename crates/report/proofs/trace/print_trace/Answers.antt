use Rattle.std.proofs.Common.{ap, ap₂, ◌∙◌, ◌++◌, None, rules}
use Rattle.std.proofs.lemmas.List.Sorted.{answers_always}
use Rattle.report.specs.Traces.{epoch_set, trace_text}
use Rattle.report.specs.Tracing.{runs_text}
use Rattle.report.proofs.TraceLemmas.{runs_text-sorted}
use Rattle.report.proofs.trace.print_trace.Goals as goal

pub returns : goal.returns
returns c =
    c.in_ok-push_runs.ensures
    ∙ ap₂ (λ text runs. text ++ runs_text None runs) c.new-text.ensures.items c.deref.ensures.value
    ∙ runs_text-sorted c.in_ok-runs.runs.items _
    (c.in_ok-sort_by_key.ensures.sorted epoch_set (answers_always _ _ _ (λ f a r g h. search rules)))
    (c.sort_by_key.ensures.stable epoch_set (answers_always _ _ _ (λ f a r g h. search rules)))
    ∙ ap trace_text c.in_ok-runs.ensures
