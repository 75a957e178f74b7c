-- The calls that make transfers: none is refused, and what they leave are the balances after them.
use Rattle.std.proofs.Common.{◌≡◌, ℕ, zero, suc, ◌+◌, ◌*◌, ◌<◌, ◌≤◌, Some, List, [], ◌∷◌, ◌++◌}
use Rattle.std.proofs.Common.{length, map, get_or, take, refl, sym, ap, ◌∙◌, subst, arith, append_assoc}
use Rattle.std.proofs.lemmas.Grind.{flat_map-append}
use Rattle.std.specs.Prelude.{fold, slice_get, slice_set}
use Rattle.std.specs.List.{AllByRecursion, flat_map}
use Rattle.std.proofs.lemmas.List.{length-map, map-append, length-set, take_more}
use Rattle.std.proofs.lemmas.List.Sums.{fold-append}
use Rattle.class_laws.specs.Numbers.{wrap_sum_unit}
use Rattle.execution_definitions.specs.declared.call.Call.TheVariants as call
use Rattle.execution_definitions.specs.declared.serializer.By.TheVariants.{Sequence}
use Rattle.execution_definitions.specs.Meanings.{shape_of, shapes_of}
use Rattle.execution_definitions.specs.Sequential.{state_after, sequential_state}
use Rattle.execution_definitions.specs.Soundness.{IsSound}
use Rattle.execution_definitions.proofs.shapes.PreparedLemmas.{IsApart}
use Rattle.examples.specs.declared.accounts.Fees.{Fees}
use Rattle.examples.specs.declared.accounts.Transfer.{Transfer}
use Rattle.examples.specs.declared.accounts.Booking.{Booking}
use Rattle.examples.specs.declared.accounts.Booking.TheVariants.{Debit, Credit}
use Rattle.examples.specs.declared.accounts.Holding.{Holding}
use Rattle.examples.specs.declared.accounts.Holding.TheVariants as holding
use Rattle.examples.specs.Accounts.{balance_after, booked, balances_after, balances_of}
use Rattle.examples.specs.Accounts.{IsBetween, holding_meaning}
use Rattle.examples.specs.AccountCalls.{HoldingCall, make_account, booking_call, transfer_calls}
use Rattle.examples.specs.AccountCalls.{settle_calls}
use Rattle.examples.proofs.RangeLemmas.{all-map, all-append, all-any, state_of, left-made}
use Rattle.examples.proofs.EpochLemmas.{IsMake, one_epoch-sound}

-- ---- none is refused

booking-apart : (n account : ℕ) (booking : Booking) → account < n
    → IsApart 1 (1 + n) 0 1 (shape_of holding_meaning.own (booking_call account booking))
booking-apart n account booking within = record {
  object = 1 + account;
  read = 0;
  is = refl;
  from = omega arith;
  to = omega arith;
  from_read = omega arith;
  to_read = omega arith;
}

bookings-apart : (n : ℕ) (transfers : List Transfer) → AllByRecursion (IsBetween n) transfers
    → AllByRecursion (IsApart 1 (1 + n) 0 1)
    (map (shape_of holding_meaning.own) (flat_map transfer_calls transfers))
bookings-apart n [] all = tt
bookings-apart n (t ∷ ts) all = (
  booking-apart n t.from (Debit t.amount) all.0.from,
  (booking-apart n t.to (Credit t.amount) all.0.to, bookings-apart n ts all.1),
)

length-bookings : (transfers : List Transfer)
    → length (flat_map transfer_calls transfers) ≡ 2 * length transfers
length-bookings [] = refl
length-bookings (t ∷ ts) = omega (arith, length-bookings ts)

pub settle-sound : (fees : Fees) (balances : List ℕ) (transfers : List Transfer)
    → length balances < 1048576 → length transfers ≤ 4294967296
    → AllByRecursion (IsBetween (length balances)) transfers
    → IsSound (shapes_of holding_meaning (settle_calls fees balances transfers))
settle-sound fees balances transfers few short between =
    let n = length balances in
    let shape = shape_of holding_meaning.own in
    let bookings = flat_map transfer_calls transfers in
    let made = map shape (map make_account balances) in
    let more = map shape bookings in
    let long : length made ≡ n =
    length-map (map make_account balances) shape ∙ length-map balances make_account in
    let count : length more ≡ 2 * length transfers =
    length-map bookings shape ∙ length-bookings transfers in
    let parts : shapes_of holding_meaning (settle_calls fees balances transfers)
    ≡ shape (call.MakeFixed (holding.Fees fees)) ∷ made
    ++ (shape call.Begin ∷ more ++ shape call.End ∷ []) =
    ap (λ rest. shape (call.MakeFixed (holding.Fees fees)) ∷ rest)
    (map-append shape (map make_account balances) (call.Begin ∷ bookings ++ call.End ∷ [])
    ∙ ap (λ rest. made ++ (shape call.Begin ∷ rest)) (map-append shape bookings (call.End ∷ []))) in
    subst IsSound (sym parts)
    (one_epoch-sound n made more long few (omega (arith, count, short))
    (all-map IsMake shape (map make_account balances) (all-map _ make_account balances
    (all-any _ balances (λ balance. record { by = Sequence; is = refl }))))
    (bookings-apart n transfers between))

-- ---- what they leave

account-at : (balances : List ℕ) (i : ℕ) → i < length balances
    → slice_get (map holding.Account balances) i ≡ Some (holding.Account (get_or balances i 0))
account-at [] i within = absurd (omega arith)
account-at (b ∷ bs) zero within = refl
account-at (b ∷ bs) (suc i) within = account-at bs i (omega arith)

account-set : (balances : List ℕ) (i balance : ℕ)
    → slice_set (map holding.Account balances) i (holding.Account balance)
    ≡ map holding.Account (slice_set balances i balance)
account-set [] i balance = refl
account-set (b ∷ bs) zero balance = refl
account-set (b ∷ bs) (suc i) balance =
    ap (λ vs. holding.Account b ∷ vs) (account-set bs i balance)

module _ (fees : Fees) where
  abbrev with_fees : List ℕ → List Holding
  with_fees balances = holding.Fees fees ∷ map holding.Account balances

  left-booked : (balances : List ℕ) (i : ℕ) (booking : Booking) → i < length balances
      → state_after holding_meaning (state_of (with_fees balances) wrap_sum_unit)
      (booking_call i booking)
      ≡ state_of (with_fees (booked fees balances i booking)) wrap_sum_unit
  left-booked balances i booking within =
      let behind : 1 + i ≡ suc i = omega arith in
      let new = balance_after fees booking (get_or balances i 0) in
      let there : slice_get (with_fees balances) (1 + i)
      ≡ Some (holding.Account (get_or balances i 0)) =
      ap (slice_get (with_fees balances)) behind ∙ account-at balances i within in
      let put : slice_set (with_fees balances) (1 + i) (holding.Account new)
      ≡ with_fees (slice_set balances i new) =
      ap (λ k. slice_set (with_fees balances) k (holding.Account new)) behind
      ∙ ap (λ vs. holding.Fees fees ∷ vs) (account-set balances i new) in
      rw there (ap (λ vs. state_of vs wrap_sum_unit) put)

  left-settled : (transfers : List Transfer) (balances : List ℕ)
      → AllByRecursion (IsBetween (length balances)) transfers
      → fold (state_after holding_meaning) (state_of (with_fees balances) wrap_sum_unit)
      (flat_map transfer_calls transfers)
      ≡ state_of (with_fees (balances_after fees balances transfers)) wrap_sum_unit
  left-settled [] balances all = refl
  left-settled (t ∷ ts) balances all =
      let run = fold (state_after holding_meaning) in
      let rest = flat_map transfer_calls ts in
      let first = booked fees balances t.from (Debit t.amount) in
      let second = booked fees first t.to (Credit t.amount) in
      let same : length first ≡ length balances = length-set balances t.from _ in
      let kept : length second ≡ length balances = length-set first t.to _ ∙ same in
      let into : t.to < length first = omega (arith, same, all.0.to) in
      ap (λ state. run (state_after holding_meaning state (booking_call t.to (Credit t.amount))) rest)
      (left-booked balances t.from (Debit t.amount) all.0.from)
      ∙ ap (λ state. run state rest) (left-booked first t.to (Credit t.amount) into)
      ∙ left-settled ts second (subst (λ n. AllByRecursion (IsBetween n) ts) (sym kept) all.1)

  pub settle-left : (balances : List ℕ) (transfers : List Transfer)
      → AllByRecursion (IsBetween (length balances)) transfers
      → sequential_state holding_meaning (settle_calls fees balances transfers)
      ≡ state_of (with_fees (balances_after fees balances transfers)) wrap_sum_unit
  settle-left balances transfers all =
      let run = fold (state_after holding_meaning) in
      let bookings = flat_map transfer_calls transfers in
      fold-append (state_after holding_meaning)
      (state_of (holding.Fees fees ∷ []) wrap_sum_unit) (map make_account balances)
      (call.Begin ∷ bookings ++ call.End ∷ [])
      ∙ ap (λ state. run state (call.Begin ∷ bookings ++ call.End ∷ []))
      (left-made holding_meaning holding.Account Sequence balances (holding.Fees fees ∷ [])
      wrap_sum_unit)
      ∙ fold-append (state_after holding_meaning) (state_of (with_fees balances) wrap_sum_unit)
      bookings (call.End ∷ [])
      ∙ left-settled transfers balances all

-- ---- the balances among holdings

balances_of-accounts : (balances : List ℕ) → balances_of (map holding.Account balances) ≡ balances
balances_of-accounts [] = refl
balances_of-accounts (b ∷ bs) = ap (λ rest. b ∷ rest) (balances_of-accounts bs)

pub balances_of-all : (fees : Fees) (balances : List ℕ)
    → balances_of (with_fees fees balances) ≡ balances
balances_of-all fees balances = balances_of-accounts balances

balances_of-append : (first second : List Holding)
    → balances_of (first ++ second) ≡ balances_of first ++ balances_of second
balances_of-append [] second = refl
balances_of-append (holding.Account b ∷ rest) second =
    ap (λ more. b ∷ more) (balances_of-append rest second)
balances_of-append (holding.Fees f ∷ rest) second = balances_of-append rest second

-- one holding more
pub balances_of-more : (holdings : List Holding) (i : ℕ) (d : Holding) → i < length holdings
    → balances_of (take i holdings) ++ balances_of (get_or holdings i d ∷ [])
    ≡ balances_of (take (i + 1) holdings)
balances_of-more holdings i d within =
    sym (balances_of-append (take i holdings) (get_or holdings i d ∷ []))
    ∙ ap balances_of (sym (take_more holdings i d within))

-- ---- one transfer more

pub between-at : (n : ℕ) (transfers : List Transfer) (i : ℕ) (d : Transfer)
    → AllByRecursion (IsBetween n) transfers → i < length transfers
    → IsBetween n (get_or transfers i d)
between-at n [] i d all within = absurd (omega arith)
between-at n (t ∷ ts) zero d all within = all.0
between-at n (t ∷ ts) (suc i) d all within = between-at n ts i d all.1 (omega arith)

pub bookings-more : (made : List HoldingCall) (transfers : List Transfer) (i : ℕ) (d : Transfer)
    → i < length transfers
    → ((made ++ (call.Begin ∷ flat_map transfer_calls (take i transfers)))
    ++ booking_call (get_or transfers i d).from (Debit (get_or transfers i d).amount) ∷ [])
    ++ booking_call (get_or transfers i d).to (Credit (get_or transfers i d).amount) ∷ []
    ≡ made ++ (call.Begin ∷ flat_map transfer_calls (take (i + 1) transfers))
bookings-more made transfers i d within =
    let t = get_or transfers i d in
    let done = flat_map transfer_calls (take i transfers) in
    let first = booking_call t.from (Debit t.amount) in
    let second = booking_call t.to (Credit t.amount) in
    append_assoc (made ++ (call.Begin ∷ done)) (first ∷ []) (second ∷ [])
    ∙ append_assoc made (call.Begin ∷ done) (first ∷ second ∷ [])
    ∙ ap (λ more. made ++ (call.Begin ∷ more))
    (sym (flat_map-append transfer_calls (take i transfers) (t ∷ []))
    ∙ ap (flat_map transfer_calls) (sym (take_more transfers i d within)))

pub between-more : (n : ℕ) (transfers : List Transfer) (i : ℕ) (d : Transfer)
    → i < length transfers → AllByRecursion (IsBetween n) (take i transfers)
    → IsBetween n (get_or transfers i d) → AllByRecursion (IsBetween n) (take (i + 1) transfers)
between-more n transfers i d within all last =
    subst (AllByRecursion (IsBetween n)) (sym (take_more transfers i d within))
    (all-append (IsBetween n) (take i transfers) (get_or transfers i d ∷ []) all (last, tt))
