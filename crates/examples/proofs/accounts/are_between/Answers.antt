use Rattle.examples.proofs.AccountLemmas.{between-more}
use Rattle.examples.proofs.accounts.are_between.Goals as goal

pub loop-transfer-preserved : goal.loop-transfer-preserved
loop-transfer-preserved c =
    between-more c.args.accounts c.args.transfers.now c.loop-transfer.transfer-index
    (record { from = 0; to = 0; amount = 0 }) c.loop-transfer-test.true c.loop-transfer.invariant
    (record { from = c.if-transfer-accounts.false; to = c.if-transfer-accounts-2.false })
