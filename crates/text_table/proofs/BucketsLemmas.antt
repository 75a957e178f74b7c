-- A bucket that is written leaves the others, and what stood in it where it keeps that.
use Rattle.std.proofs.Common.{◌≡◌, ◌≢◌, ℕ, ◌<◌, List, [], length, get_or, set}
use Rattle.std.proofs.Common.{◌≤◌, sym, ◌∙◌, ap, subst, arith}
use Rattle.std.proofs.Common.{inl, inr, refl, Bool, true, false, IsTrue}
use Rattle.std.proofs.Common.{⊎_elim, get_or-set_same, get_or-set_other, length-set}
use Rattle.std.proofs.lemmas.Bool.{cases_eq, cases_lt}
use Rattle.std.proofs.lemmas.List.{get_or_past}
use Rattle.std.proofs.lemmas.List.Elements.{All-contains, All-get_or}
use Rattle.std.specs.List.{All, Contains}
use Rattle.text_table.specs.Buckets.{place_of, bucket_of, slot_of, KeepsTaken, Holds}
use Rattle.text_table.specs.Buckets.{AreHeldBy, IsHeldBy, IsFull, StayFull, IsHeldOrFull}
use Rattle.text_table.specs.declared.buckets.Slot.{Slot}

module _ (buckets : List (List Slot)) (place : ℕ) (bucket : List Slot)
    (within : place < length buckets) where
  bucket_written : (tag : ℕ) → place_of (length buckets) tag ≡ place
      → bucket_of (set buckets place bucket) tag ≡ bucket
  bucket_written tag here =
      ap (λ n. get_or (set buckets place bucket) (place_of n tag) [])
      (length-set buckets place bucket)
      ∙ ap (λ n. get_or (set buckets place bucket) n []) here
      ∙ get_or-set_same buckets place bucket [] within

  bucket_left : (tag : ℕ) → place_of (length buckets) tag ≢ place
      → bucket_of (set buckets place bucket) tag ≡ bucket_of buckets tag
  bucket_left tag elsewhere =
      ap (λ n. get_or (set buckets place bucket) (place_of n tag) [])
      (length-set buckets place bucket)
      ∙ get_or-set_other buckets place (place_of (length buckets) tag) bucket [] elsewhere

  pub Holds-written : (tag number : ℕ) → place ≡ place_of (length buckets) tag
      → Contains bucket (slot_of tag number) → Holds (set buckets place bucket) tag number
  Holds-written tag number here contains =
      subst (λ b. Contains b (slot_of tag number)) (sym (bucket_written tag (sym here))) contains

  pub AreHeldBy-written : (was : List Slot) → get_or buckets place [] ≡ was → KeepsTaken was bucket
      → AreHeldBy buckets (set buckets place bucket)
  AreHeldBy-written was is_was keeps tag number taken holds =
      ⊎_elim
      (λ (here : place_of (length buckets) tag ≡ place).
      let in_was =
      subst (λ b. Contains b (slot_of tag number))
      (ap (λ n. get_or buckets n []) here ∙ is_was) holds in
      Holds-written tag number (sym here) (keeps (slot_of tag number) taken in_was))
      (λ (elsewhere : place_of (length buckets) tag ≢ place).
      subst (λ b. Contains b (slot_of tag number)) (sym (bucket_left tag elsewhere)) holds)
      (cases_eq (place_of (length buckets) tag) place)

-- what stood in the buckets before still does
pub IsHeldBy-later : (before after : List (List Slot)) → AreHeldBy before after
    → (slot : Slot) → IsHeldBy before slot → IsHeldBy after slot
IsHeldBy-later before after later slot held taken =
    later slot.tag slot.number taken (held taken)

pub AreHeldBy-both : (first second third : List (List Slot)) → AreHeldBy first second
    → AreHeldBy second third → AreHeldBy first third
AreHeldBy-both first second third sooner later tag number taken holds =
    later tag number taken (sooner tag number taken holds)

-- a number that was put stands there, or its bucket was full and is so still
pub IsHeldOrFull-put : (before after : List (List Slot)) (tag number : ℕ) (put : Bool)
    → (IsTrue put → Holds after tag number)
    → (put ≡ false → IsFull (bucket_of before tag)) → StayFull before after
    → IsHeldOrFull after tag number
IsHeldOrFull-put before after tag number true holds full still taken = inl (holds refl)
IsHeldOrFull-put before after tag number false holds full still taken = inr (still tag (full refl))

pub IsHeldOrFull-later : (before after : List (List Slot)) → AreHeldBy before after
    → StayFull before after → (tag number : ℕ) → IsHeldOrFull before tag number
    → IsHeldOrFull after tag number
IsHeldOrFull-later before after held still tag number was taken =
    ⊎_elim
    (λ (holds : Holds before tag number). inl (held tag number taken holds))
    (λ (full : IsFull (bucket_of before tag)). inr (still tag full))
    (was taken)

-- a number stands under its tag in one of the buckets
pub AreHeldBy-from_each : (buckets others : List (List Slot))
    → All (All (IsHeldBy others)) buckets → AreHeldBy buckets others
AreHeldBy-from_each buckets others each tag number taken holds =
    let place = place_of (length buckets) tag in
    ⊎_elim
    (λ (within : place < length buckets).
    All-contains (IsHeldBy others) (bucket_of buckets tag) (slot_of tag number)
    (All-get_or (All (IsHeldBy others)) buckets place [] within each) holds taken)
    (λ (past : length buckets ≤ place).
    let none =
    subst (λ b. Contains b (slot_of tag number)) (get_or_past buckets place [] past) holds in
    absurd (omega (arith, none.1)))
    (cases_lt place (length buckets))
