use Rattle.std.proofs.Common.{◌≡◌, ◌∷◌, ◌++◌, map, take}
use Rattle.std.specs.List.{flat_map}
use Rattle.execution_definitions.specs.declared.call.Call.TheVariants as call
use Rattle.examples.specs.declared.accounts.Holding.TheVariants as holding
use Rattle.examples.specs.AccountCalls.{make_account, transfer_calls}
use Rattle.examples.proofs.accounts.calls_of.Given as goal

-- the accounts so far are made
abbrev pub invariant-loop-balance : goal.invariant-loop-balance
invariant-loop-balance l =
    l.calls.items
    ≡ call.MakeFixed (holding.Fees l.fn.fees) ∷ map make_account (take l.balance-index l.balances)

-- all accounts are made, and the bookings of the transfers so far
abbrev pub invariant-loop-transfer : goal.invariant-loop-transfer
invariant-loop-transfer l =
    l.calls.items
    ≡ call.MakeFixed (holding.Fees l.fn.fees) ∷ map make_account l.balances
    ++ (call.Begin ∷ flat_map transfer_calls (take l.transfer-index l.transfers))
