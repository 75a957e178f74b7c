-- What stores come to.
use Rattle.std.proofs.Common.{◌≡◌, ℕ, zero, suc, ◌+◌, Option, Some, None, List, [], ◌∷◌, length, map, replicate, refl, sym, ap, ◌∙◌}
use Rattle.std.specs.Prelude.{slice_get}
use Rattle.std.specs.Option.{option_map}
use Rattle.std.specs.List.{list_all, range_with_len}
use Rattle.std.proofs.lemmas.List.{map-append, length-map}
use Rattle.schedule_core.specs.declared.queues.Queue.{Queue}
use Rattle.execution_definitions.specs.Meanings.{Meaning}
use Rattle.execution_definitions.specs.Sequential.{State}
use Rattle.interleavings.specs.Machines.{Entry, entry_done, taken, lane_event, is_empty, front_of, behind_front, is_idle, front_at, with_entry, without_front, least_busy}
use Rattle.schedule_core.specs.declared.store.Waiting.{Waiting}
use Rattle.schedule_core.specs.Queues.{queued}
use Rattle.schedule_core.specs.Stores.{entry_of, lanes_of}
use Rattle.schedule_core.proofs.QueueLemmas.{length-queued}

-- entries in another form
module _ {A B : Type 0} (f : A → B) where
  empty-map : (entries : List A) → is_empty (map f entries) ≡ is_empty entries
  empty-map [] = refl
  empty-map (entry ∷ entries) = refl

  front-map : (entries : List A) → front_of (map f entries) ≡ option_map f (front_of entries)
  front-map [] = refl
  front-map (entry ∷ entries) = refl

  behind-map : (entries : List A) → behind_front (map f entries) ≡ map f (behind_front entries)
  behind-map [] = refl
  behind-map (entry ∷ entries) = refl

  pub with_entry-map : (lanes : List (List A)) (lane : ℕ) (entry : A) →
      map (λ l. map f l) (with_entry lane entry lanes)
      ≡ with_entry lane (f entry) (map (λ l. map f l) lanes)
  with_entry-map [] zero entry = refl
  with_entry-map [] (suc lane) entry = refl
  with_entry-map (entries ∷ lanes) zero entry =
      ap (λ l. l ∷ map (λ l. map f l) lanes) (map-append f entries (entry ∷ []))
  with_entry-map (entries ∷ lanes) (suc lane) entry =
      ap (λ l. map f entries ∷ l) (with_entry-map lanes lane entry)

  pub without_front-map : (lanes : List (List A)) (lane : ℕ) →
      map (λ l. map f l) (without_front lane lanes)
      ≡ without_front lane (map (λ l. map f l) lanes)
  without_front-map [] zero = refl
  without_front-map [] (suc lane) = refl
  without_front-map (entries ∷ lanes) zero =
      ap (λ l. l ∷ map (λ l. map f l) lanes) (sym (behind-map entries))
  without_front-map (entries ∷ lanes) (suc lane) =
      ap (λ l. map f entries ∷ l) (without_front-map lanes lane)

  pub front_at-map : (lanes : List (List A)) (lane : ℕ) →
      front_at (map (λ l. map f l) lanes) lane ≡ option_map f (front_at lanes lane)
  front_at-map [] lane = refl
  front_at-map (entries ∷ lanes) zero = front-map entries
  front_at-map (entries ∷ lanes) (suc lane) = front_at-map lanes lane

  pub idle-map : (lanes : List (List A)) (lane : ℕ) →
      is_idle (slice_get (map (λ l. map f l) lanes) lane) ≡ is_idle (slice_get lanes lane)
  idle-map [] lane = refl
  idle-map (entries ∷ lanes) zero = empty-map entries
  idle-map (entries ∷ lanes) (suc lane) = idle-map lanes lane

  pub all_empty-map : (lanes : List (List A)) →
      list_all is_empty (map (λ l. map f l) lanes) ≡ list_all is_empty lanes
  all_empty-map [] = refl
  all_empty-map ([] ∷ lanes) = all_empty-map lanes
  all_empty-map ((entry ∷ entries) ∷ lanes) = refl

  pub least_busy-map : (lanes : List (List A)) →
      least_busy (map (λ l. map f l) lanes) ≡ least_busy lanes
  least_busy-map [] = refl
  least_busy-map ([] ∷ lanes) = ap (option_map (λ lane. lane + 1)) (least_busy-map lanes)
  least_busy-map ((entry ∷ entries) ∷ lanes) = refl

-- lanes in which nothing waits
pub no_entries : {A B : Type 0} (f : A → B) (n first : ℕ) →
    map (λ l. map f l) (replicate n []) ≡ map (λ lane. []) (range_with_len first n)
no_entries f zero first = refl
no_entries f (suc n) first = ap (λ l. [] ∷ l) (no_entries f n (first + 1))

pub length-lanes_of : {C O R : Type 0} (lanes : List (Queue (Waiting C O R))) →
    length (lanes_of lanes) ≡ length lanes
length-lanes_of lanes = length-map (queued lanes) _ ∙ length-queued lanes

module _ {A : Type 0} where
  -- a lane without a front stays as it is
  pub without_front-none : (lanes : List (List A)) (lane : ℕ) → front_at lanes lane ≡ None →
      without_front lane lanes ≡ lanes
  without_front-none [] zero none = refl
  without_front-none [] (suc lane) none = refl
  without_front-none ([] ∷ lanes) zero none = refl
  without_front-none ((entry ∷ rest) ∷ lanes) zero none = absurd cc
  without_front-none (entries ∷ lanes) (suc lane) none =
      ap (λ l. entries ∷ l) (without_front-none lanes lane none)

module _ {C O R : Type 0} (m : Meaning C O R) (state after : State C R)
    (old new : List (Queue (Waiting C O R))) (lane : ℕ)
    (left : queued new ≡ without_front lane (queued old)) where
  lanes-left : lanes_of new ≡ without_front lane (lanes_of old)
  lanes-left =
      ap (λ l. map (λ entries. map entry_of entries) l) left
      ∙ without_front-map entry_of (queued old) lane

  pub front-of : (found : Option (Waiting C O R)) → found ≡ front_at (queued old) lane →
      front_at (lanes_of old) lane ≡ option_map entry_of found
  front-of found is = front_at-map entry_of (queued old) lane ∙ ap (option_map entry_of) (sym is)

  -- the number of its call
  pub call-of : (found : Option (Waiting C O R)) → found ≡ front_at (queued old) lane →
      option_map (λ (waiting : Waiting C O R). waiting.run.call) found
      ≡ option_map (λ (entry : Entry C O). entry.run.call) (front_at (lanes_of old) lane)
  call-of None is =
      sym (ap (option_map (λ (entry : Entry C O). entry.run.call)) (front-of None is))
  call-of (Some waiting) is =
      sym (ap (option_map (λ (entry : Entry C O). entry.run.call)) (front-of (Some waiting) is))

  -- what is at the front of a lane takes effect
  pub ran-front : (waiting : Waiting C O R) → Some waiting ≡ front_at (queued old) lane →
      after ≡ entry_done m state (entry_of waiting) →
      record { state = after; lanes = lanes_of new }
      ≡ lane_event m (record { state = state; lanes = lanes_of old }) lane
  ran-front waiting front is =
      ap (λ s. record { state = s; lanes = lanes_of new }) is
      ∙ ap (λ l. record { state = entry_done m state (entry_of waiting); lanes = l }) lanes-left
      ∙ sym (ap (taken m (record { state = state; lanes = lanes_of old }) lane)
      (front-of (Some waiting) front))

  -- or nothing waits there
  pub ran-none : None ≡ front_at (queued old) lane → after ≡ state →
      record { state = after; lanes = lanes_of new }
      ≡ lane_event m (record { state = state; lanes = lanes_of old }) lane
  ran-none front is =
      let none = front-of None front in
      ap (λ s. record { state = s; lanes = lanes_of new }) is
      ∙ ap (λ l. record { state = state; lanes = l })
      (lanes-left ∙ without_front-none (lanes_of old) lane none)
      ∙ sym (ap (taken m (record { state = state; lanes = lanes_of old }) lane) none)
