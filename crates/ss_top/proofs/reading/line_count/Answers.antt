use Rattle.std.proofs.Common.{arith}
use Rattle.ss_top.proofs.LinesLemmas.{lines_from-lines}
use Rattle.ss_top.proofs.reading.line_count.Goals as goal

pub loop-byte-init : goal.loop-byte-init
loop-byte-init c = record {
  within = omega arith;
  count = omega (arith, lines_from-lines c.args.script.now);
}
