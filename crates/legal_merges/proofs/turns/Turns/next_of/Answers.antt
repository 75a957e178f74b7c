use Rattle.std.proofs.Common.{rules}
use Rattle.legal_merges.proofs.TakeLemmas.{next_found}
use Rattle.legal_merges.proofs.turns.Turns.next_of.Goals as goal

pub returns-in-Some : goal.returns-in-Some
returns-in-Some c = λ n calls done way.
    next_found n calls done c.args.self.now way c.args.turn c.in-Some.next (search rules)
