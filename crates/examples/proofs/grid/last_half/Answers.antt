use Rattle.std.proofs.Common.{◌+◌, sym, arith}
use Rattle.examples.proofs.GridLemmas.{half_after-even, half_after-odd}
use Rattle.examples.proofs.grid.last_half.Goals as goal

pub returns-then-rounds-eq0 : goal.returns-then-rounds-eq0
returns-then-rounds-eq0 c = sym (half_after-even c.args.rounds 0 (c.args.rows + 2) (omega arith))

pub returns-else-rounds-eq0 : goal.returns-else-rounds-eq0
returns-else-rounds-eq0 c = sym (half_after-odd c.args.rounds 0 (c.args.rows + 2) (omega arith))
