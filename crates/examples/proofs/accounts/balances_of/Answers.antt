use Rattle.std.proofs.Common.{◌∙◌}
use Rattle.examples.proofs.AccountLemmas.{balances_of-more}
use Rattle.examples.proofs.accounts.balances_of.Goals as goal

pub loop-holding-preserved : goal.loop-holding-preserved
loop-holding-preserved c =
    c.in_ok-push_balance.ensures
    ∙ rw c.loop-holding.invariant
    (balances_of-more c.args.holdings.now c.loop-holding.holding-index _ c.loop-holding-test.true)
