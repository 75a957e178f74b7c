-- Which calls make transfers between accounts?
--
-- Object 0 has the fees, which are only read. The accounts follow, by sequence. In one epoch each
-- transfer is two bookings, on two accounts, each of which reads the fees.
use Rattle.std.specs.Prelude.{ℕ, ◌+◌, List, [], ◌∷◌, ◌++◌, Some, map}
use Rattle.std.specs.List.{flat_map}
use Rattle.ss_base.specs.Ids.{object_id}
use Rattle.execution_definitions.specs.declared.call.Call.{Call}
use Rattle.execution_definitions.specs.declared.call.Call.TheVariants.{Make, MakeFixed, Begin, Delegate, End}
use Rattle.execution_definitions.specs.declared.serializer.By.TheVariants.{Sequence}
use Rattle.examples.specs.declared.accounts.Fees.{Fees}
use Rattle.examples.specs.declared.accounts.Transfer.{Transfer}
use Rattle.examples.specs.declared.accounts.Booking.{Booking}
use Rattle.examples.specs.declared.accounts.Booking.TheVariants.{Debit, Credit}
use Rattle.examples.specs.declared.accounts.Holding.{Holding}
use Rattle.examples.specs.declared.accounts.Holding.TheVariants as holding

-- a call on the holdings
abbrev pub HoldingCall : Type 0
HoldingCall = Call Holding Booking

-- an account is made
abbrev pub make_account : ℕ → HoldingCall
make_account balance = Make (holding.Account balance) Sequence

-- a booking on an account
abbrev pub booking_call : ℕ → Booking → HoldingCall
booking_call account booking = Delegate (object_id (1 + account)) booking (Some (object_id 0))

-- a transfer is made
abbrev pub transfer_calls : Transfer → List HoldingCall
transfer_calls transfer =
    booking_call transfer.from (Debit transfer.amount)
    ∷ booking_call transfer.to (Credit transfer.amount) ∷ []

-- all calls
abbrev pub settle_calls : Fees → List ℕ → List Transfer → List HoldingCall
settle_calls fees balances transfers =
    MakeFixed (holding.Fees fees) ∷ map make_account balances
    ++ (Begin ∷ flat_map transfer_calls transfers ++ End ∷ [])
