use Rattle.std.proofs.Common.{sym, ap, ◌∙◌, ◌++◌, append-nil}
use Rattle.report.specs.Printing.{pairs_text}
use Rattle.report.proofs.PrintingLemmas.{pairs_text-postings}
use Rattle.report.proofs.print.push_postings.Goals as goal

pub returns : goal.returns
returns c =
    sym (append-nil c.loop-document.text.items)
    ∙ ap (λ left. c.loop-document.text.items ++ pairs_text c.loop-document.last left)
    (sym (c.in-None.ensures.steps.0))
    ∙ c.loop-document.invariant
    ∙ ap (λ t. c.args.text.now.items ++ t)
    (pairs_text-postings c.args.postings.now c.iter-document-items.ensures.rises)
