use Rattle.std.proofs.Common.{◌≡◌, take}
use Rattle.examples.specs.Accounts.{balances_of}
use Rattle.examples.proofs.accounts.balances_of.Given as goal

-- the balances so far
abbrev pub invariant-loop-holding : goal.invariant-loop-holding
invariant-loop-holding l = l.balances.items ≡ balances_of (take l.holding-index l.holdings)
