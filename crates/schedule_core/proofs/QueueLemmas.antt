-- Lanes that are kept as queues.
use Rattle.std.proofs.Common.{◌≡◌, ℕ, zero, suc, ◌+◌, ◌<◌, ◌≤◌, Bool, true, false, Option, Some, None, List, [], ◌∷◌, ◌++◌, length, drop, refl, sym, ap, ◌∙◌, arith, add-one, eq-eqb}
use Rattle.std.specs.Prelude.{slice_get, slice_set, option_to_list, is_some, not, ◌==◌}
use Rattle.std.specs.Option.{option_map}
use Rattle.std.specs.List.{list_all}
use Rattle.std.proofs.lemmas.Bool.{ne_eqb, false_from_ne_true}
use Rattle.std.proofs.lemmas.Option.{same_Some}
use Rattle.ss_base.specs.declared.ids.Lane.{Lane}
use Rattle.interleavings.specs.Machines.{is_empty, front_of, behind_front, is_idle, front_at, with_entry, without_front, least_busy}
use Rattle.schedule_core.specs.declared.queues.Queue.{Queue}
use Rattle.schedule_core.specs.Queues.{queued}

none_below : (busy : Option ℕ) → option_map (λ k. k + 1) busy ≡ None → busy ≡ None
none_below None is = refl
none_below (Some lane) is = absurd cc

module _ {A : Type 0} where
  -- what a queue gives, and what is left
  pub popped_front : (items rest : List A) (found : Option A) → items ≡ option_to_list found ++ rest →
      rest ≡ drop 1 items → found ≡ front_of items
  popped_front [] rest None is left = refl
  popped_front [] rest (Some x) is left = absurd cc
  popped_front (y ∷ ys) rest None is left =
      let same : length (y ∷ ys) ≡ length ys = ap length (is ∙ left) in absurd (omega (arith, same))
  popped_front (y ∷ ys) rest (Some x) is left = let same : y ≡ x = cc in ap Some (sym same)

  pub popped_rest : (items rest : List A) → rest ≡ drop 1 items → rest ≡ behind_front items
  popped_rest [] rest left = left
  popped_rest (y ∷ ys) rest left = left

  -- a queue is empty where its length is 0
  pub empty_len : (items : List A) (n : ℕ) → n ≡ length items → (n == 0) ≡ is_empty items
  empty_len [] n is = eq-eqb n 0 is
  empty_len (y ∷ ys) n is =
      let more : n ≡ suc (length ys) = is in ne_eqb n 0 (λ none. omega (arith, more, none))

  pub empty_nil : (items : List A) → is_empty items ≡ true → items ≡ []
  empty_nil [] empty = refl
  empty_nil (y ∷ ys) empty = absurd cc

  pub length-queued : (queues : List (Queue A)) → length (queued queues) ≡ length queues
  length-queued [] = refl
  length-queued (queue ∷ queues) = ap suc (length-queued queues)

  pub queued-push : (queues : List (Queue A)) (more : Queue A) →
      queued (queues ++ more ∷ []) ≡ queued queues ++ more.entries.items ∷ []
  queued-push [] more = refl
  queued-push (queue ∷ queues) more = ap (λ l. queue.entries.items ∷ l) (queued-push queues more)

  pub get-queued : (queues : List (Queue A)) (lane : ℕ) (queue : Queue A) →
      slice_get queues lane ≡ Some queue → slice_get (queued queues) lane ≡ Some queue.entries.items
  get-queued [] lane queue here = absurd cc
  get-queued (first ∷ queues) zero queue here =
      ap (λ q. Some q.entries.items) (same_Some first queue here)
  get-queued (first ∷ queues) (suc lane) queue here = get-queued queues lane queue here

  pub set-entered : (queues : List (Queue A)) (lane : ℕ) (queue new : Queue A)
      (entry : A) → slice_get queues lane ≡ Some queue → new.entries.items ≡ queue.entries.items ++ entry ∷ [] →
      queued (slice_set queues lane new) ≡ with_entry lane entry (queued queues)
  set-entered [] lane queue new entry here is = absurd cc
  set-entered (first ∷ queues) zero queue new entry here is =
      ap (λ l. l ∷ queued queues)
      (is ∙ ap (λ q. q.entries.items ++ entry ∷ []) (sym (same_Some first queue here)))
  set-entered (first ∷ queues) (suc lane) queue new entry here is =
      ap (λ l. first.entries.items ∷ l) (set-entered queues lane queue new entry here is)

  pub set-taken : (queues : List (Queue A)) (lane : ℕ) (queue new : Queue A) →
      slice_get queues lane ≡ Some queue → new.entries.items ≡ behind_front queue.entries.items →
      queued (slice_set queues lane new) ≡ without_front lane (queued queues)
  set-taken [] lane queue new here is = absurd cc
  set-taken (first ∷ queues) zero queue new here is =
      ap (λ l. l ∷ queued queues)
      (is ∙ ap (λ q. behind_front q.entries.items) (sym (same_Some first queue here)))
  set-taken (first ∷ queues) (suc lane) queue new here is =
      ap (λ l. first.entries.items ∷ l) (set-taken queues lane queue new here is)

  -- there is no such lane
  pub past-front : (lanes : List (List A)) (lane : ℕ) → length lanes ≤ lane →
      front_at lanes lane ≡ None
  past-front [] lane past = refl
  past-front (entries ∷ lanes) zero past = absurd (omega (arith, past))
  past-front (entries ∷ lanes) (suc lane) past = past-front lanes lane (omega (arith, past))

  pub past-rest : (lanes : List (List A)) (lane : ℕ) → length lanes ≤ lane →
      without_front lane lanes ≡ lanes
  past-rest [] zero past = refl
  past-rest [] (suc lane) past = refl
  past-rest (entries ∷ lanes) zero past = absurd (omega (arith, past))
  past-rest (entries ∷ lanes) (suc lane) past =
      ap (λ l. entries ∷ l) (past-rest lanes lane (omega (arith, past)))

  -- an entry is at a front exactly where the lane has one
  pub front_at-get : (lanes : List (List A)) (lane : ℕ) (entries : List A) →
      slice_get lanes lane ≡ Some entries → front_at lanes lane ≡ front_of entries
  front_at-get [] lane entries here = absurd cc
  front_at-get (first ∷ lanes) zero entries here = ap front_of (same_Some first entries here)
  front_at-get (first ∷ lanes) (suc lane) entries here = front_at-get lanes lane entries here

  -- the least lane in which something waits
  pub least_busy-at : (lanes : List (List A)) (lane : ℕ) →
      ((k : ℕ) → k < lane → is_idle (slice_get lanes k) ≡ true) →
      is_idle (slice_get lanes lane) ≡ false → least_busy lanes ≡ Some lane
  least_busy-at [] lane before here = absurd cc
  least_busy-at ([] ∷ lanes) zero before here = absurd cc
  least_busy-at ((first ∷ rest) ∷ lanes) zero before here = refl
  least_busy-at ([] ∷ lanes) (suc lane) before here =
      ap (option_map (λ k. k + 1))
      (least_busy-at lanes lane (λ k below. before (suc k) (omega (arith, below))) here)
      ∙ ap Some (add-one lane)
  least_busy-at ((first ∷ rest) ∷ lanes) (suc lane) before here =
      let busy = before zero (omega arith) in absurd cc

  -- there is none
  pub least_busy-none : (lanes : List (List A)) →
      ((k : ℕ) → k < length lanes → is_idle (slice_get lanes k) ≡ true) →
      least_busy lanes ≡ None
  least_busy-none [] before = refl
  least_busy-none ([] ∷ lanes) before =
      ap (option_map (λ k. k + 1))
      (least_busy-none lanes (λ k below. before (suc k) (omega (arith, below))))
  least_busy-none ((first ∷ rest) ∷ lanes) before =
      let busy = before zero (omega arith) in absurd cc

  -- there is none exactly where nothing waits
  empty_when : (lanes : List (List A)) → least_busy lanes ≡ None →
      list_all is_empty lanes ≡ true
  empty_when [] is = refl
  empty_when ([] ∷ lanes) is = empty_when lanes (none_below (least_busy lanes) is)
  empty_when ((first ∷ rest) ∷ lanes) is = absurd cc

  none_when : (lanes : List (List A)) → list_all is_empty lanes ≡ true → least_busy lanes ≡ None
  none_when [] all = refl
  none_when ([] ∷ lanes) all = ap (option_map (λ k. k + 1)) (none_when lanes all)
  none_when ((first ∷ rest) ∷ lanes) all = absurd cc

  pub none_busy : (found : Option Lane) (lanes : List (List A)) (none : Bool) →
      is_some found ≡ not none → option_map (λ lane. lane.0) found ≡ least_busy lanes →
      none ≡ list_all is_empty lanes
  none_busy None lanes true none is = sym (empty_when lanes (sym is))
  none_busy None lanes false none is = absurd cc
  none_busy (Some lane) lanes true none is = absurd cc
  none_busy (Some lane) lanes false none is =
      sym (false_from_ne_true (list_all is_empty lanes) (λ all.
      let clash : None ≡ Some lane.0 = sym (is ∙ none_when lanes all) in absurd cc))
