use Rattle.std.proofs.Common.{◌≡◌, ◌++◌, take}
use Rattle.index_definitions.specs.IndexText.{escaped}
use Rattle.report.proofs.print.push_escaped.Given as goal

-- the bytes so far are appended
abbrev pub invariant-loop-byte : goal.invariant-loop-byte
invariant-loop-byte l =
    l.text.items ≡ l.fn.text.items ++ escaped (take l.byte-index l.byte-items)
