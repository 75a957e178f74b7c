use Rattle.std.proofs.Common.{◌≡◌, ◌+◌, ◌≤◌, length, drop}
use Rattle.script_lang.specs.Lines.{lines}
use Rattle.ss_top.proofs.LinesLemmas.{lines_from}
use Rattle.ss_top.proofs.reading.line_count.Given as goal

-- the lines so far, and those that begin from here on
abbrev pub invariant-loop-byte : goal.invariant-loop-byte
invariant-loop-byte l = record {
  within : l.count ≤ l.byte-index;
  count : l.count + lines_from l.is_between (drop l.byte-index l.script)
      ≡ length (lines l.script);
}
