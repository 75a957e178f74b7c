use Rattle.std.proofs.Common.{◌<◌, ◌∷◌, length, map, ◌∙◌, arith}
use Rattle.execution_definitions.specs.declared.call.Call.TheVariants as call
use Rattle.examples.specs.declared.accounts.Holding.TheVariants as holding
use Rattle.examples.specs.AccountCalls.{make_account}
use Rattle.examples.proofs.AccountLemmas.{between-at, bookings-more}
use Rattle.examples.proofs.accounts.calls_of.Goals as goal

pub booking_call-requires-in-loop-transfer : goal.booking_call-requires-in-loop-transfer
booking_call-requires-in-loop-transfer c =
    let balances = c.args.balances.now in
    let few : length balances < 1048576 = c.requires.accounts in
    let between = between-at (length balances) c.args.transfers.now c.loop-transfer.transfer-index
    (record { from = 0; to = 0; amount = 0 }) c.requires.between c.loop-transfer-test.true in
    omega (arith, few, between.to)

pub loop-transfer-preserved : goal.loop-transfer-preserved
loop-transfer-preserved c =
    let made = call.MakeFixed (holding.Fees c.args.fees) ∷ map make_account c.args.balances.now in
    c.in_ok-push-5.ensures.items
    ∙ rw (
      c.in_ok-push-4.ensures.items,
      c.loop-transfer.invariant,
      c.booking_call.ensures,
      c.booking_call-in-loop-transfer.ensures,
    ) (bookings-more made c.args.transfers.now c.loop-transfer.transfer-index
    (record { from = 0; to = 0; amount = 0 }) c.loop-transfer-test.true)
