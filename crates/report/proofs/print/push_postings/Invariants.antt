use Rattle.std.proofs.Common.{◌≡◌, ◌++◌}
use Rattle.index_definitions.specs.PostingLists.{pairs_of}
use Rattle.report.specs.Printing.{pairs_text}
use Rattle.report.proofs.print.push_postings.Given as goal

-- what is appended and what is left to append are the text of all pairs
abbrev pub invariant-loop-document : goal.invariant-loop-document
invariant-loop-document l =
    l.text.items ++ pairs_text l.last l.document-iterator
    ≡ l.fn.text.items ++ pairs_text 0 (pairs_of l.postings)
