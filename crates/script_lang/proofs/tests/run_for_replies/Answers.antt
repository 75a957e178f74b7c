use Rattle.std.proofs.Common.{subst}
use Rattle.execution_definitions.specs.Programs.{HasAnswered}
use Rattle.script_lang.specs.Acts.{script_meaning}
use Rattle.script_lang.proofs.tests.run_for_replies.Goals as goal

pub shown_by-requires : goal.shown_by-requires
shown_by-requires g c =
    rw c.deref.ensures.value
    (subst (λ calls. HasAnswered script_meaning calls c.in_ok-ran.ran.replies.items
    c.in_ok-ran.ran.stopped) c.in_ok-calls.ensures c.in_ok-ran.ensures.answered)
