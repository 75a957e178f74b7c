use Rattle.std.proofs.Common.{◌≡◌, ◌++◌, take}
use Rattle.std.specs.List.{flat_map}
use Rattle.index_definitions.specs.IndexText.{term_line}
use Rattle.report.proofs.print.push_lines.Given as goal

-- the lines of the terms so far are appended
abbrev pub invariant-loop-term : goal.invariant-loop-term
invariant-loop-term l =
    l.text.items ≡ l.fn.text.items ++ flat_map term_line (take l.term-index l.terms)
