-- What are the balances of accounts after transfers?
--
-- The definition makes the transfers one after the other on a list of balances. A balance is never
-- below 0 and never above 2^64 - 1.
use Rattle.std.specs.Prelude.{ℕ, ◌+◌, ◌-◌, ◌^◌, ◌<◌, List, [], ◌∷◌, Some, get_or, min, fold, slice_set}
use Rattle.std.specs.declared.option.Option.{Option}
use Rattle.class_laws.specs.declared.numbers.WrapSum.{WrapSum}
use Rattle.class_laws.specs.Numbers.{wrap_sum_unit, wrap_sum_join}
use Rattle.execution_definitions.specs.Meanings.{Meaning}
use Rattle.examples.specs.declared.accounts.Fees.{Fees}
use Rattle.examples.specs.declared.accounts.Transfer.{Transfer}
use Rattle.examples.specs.declared.accounts.Booking.{Booking}
use Rattle.examples.specs.declared.accounts.Booking.TheVariants.{Debit, Credit}
use Rattle.examples.specs.declared.accounts.Holding.{Holding}
use Rattle.examples.specs.declared.accounts.Holding.TheVariants as holding

-- a balance after a booking: `-` stops at 0
abbrev pub balance_after : Fees → Booking → ℕ → ℕ
balance_after fees (Debit amount) balance = balance - amount - fees.debit
balance_after fees (Credit amount) balance = min (balance + (amount - fees.credit)) (2 ^ 64 - 1)

-- the balances with a booking on one account
abbrev pub booked : Fees → List ℕ → ℕ → Booking → List ℕ
booked fees balances account booking =
    slice_set balances account (balance_after fees booking (get_or balances account 0))

-- the balances after a transfer
abbrev pub after_transfer : Fees → List ℕ → Transfer → List ℕ
after_transfer fees balances transfer =
    booked fees (booked fees balances transfer.from (Debit transfer.amount)) transfer.to
    (Credit transfer.amount)

-- the balances after all transfers
abbrev pub balances_after : Fees → List ℕ → List Transfer → List ℕ
balances_after fees balances transfers = fold (after_transfer fees) balances transfers

-- a transfer between accounts that there are
pub record IsBetween (accounts : ℕ) (transfer : Transfer) : Type 0 where
  pub from : transfer.from < accounts
  pub to : transfer.to < accounts

-- the most transfers of one program
abbrev pub MOST_TRANSFERS : ℕ
MOST_TRANSFERS = 4294967296

-- a holding after a booking, where a holding is read
abbrev pub holding_after : Holding → Booking → Option Holding → Holding
holding_after (holding.Account balance) booking (Some (holding.Fees fees)) =
    holding.Account (balance_after fees booking balance)
holding_after holding booking read = holding

-- the meaning of the holdings
abbrev pub holding_meaning : Meaning Holding Booking WrapSum
holding_meaning = record {
  step = λ holding booking read. (holding_after holding booking read, wrap_sum_unit);
  own = λ booking. 0;
  unit = wrap_sum_unit;
  join = wrap_sum_join;
}

-- the balances of the accounts among holdings
abbrev pub balances_of : List Holding → List ℕ
balances_of [] = []
balances_of (holding.Account balance ∷ rest) = balance ∷ balances_of rest
balances_of (holding.Fees fees ∷ rest) = balances_of rest
