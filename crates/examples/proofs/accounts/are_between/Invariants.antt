use Rattle.std.proofs.Common.{take}
use Rattle.std.specs.List.{AllByRecursion}
use Rattle.examples.specs.Accounts.{IsBetween}
use Rattle.examples.proofs.accounts.are_between.Given as goal

-- those so far are
abbrev pub invariant-loop-transfer : goal.invariant-loop-transfer
invariant-loop-transfer l =
    AllByRecursion (IsBetween l.accounts) (take l.transfer-index l.transfers)
