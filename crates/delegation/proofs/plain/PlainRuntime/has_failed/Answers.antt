use Rattle.delegation.proofs.plains.PlainLemmas.{failed_moves}
use Rattle.delegation.proofs.plain.PlainRuntime.has_failed.Goals as goal

pub returns-clause-moves : goal.returns-clause-moves
returns-clause-moves g c = λ failed made. failed_moves c.args.self.now made failed
