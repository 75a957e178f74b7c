use Rattle.report.proofs.TextsLemmas.{take-kept}
use Rattle.report.proofs.print.push_escaped.Goals as goal

pub returns-in_err-push_byte-clause-kept : goal.returns-in_err-push_byte-clause-kept
returns-in_err-push_byte-clause-kept c =
    take-kept c.args.text.now.items _ _ _ c.loop-byte.invariant c.in_err-push_byte.ensures.kept
