-- Messages find their objects where lanes take them, and a lane comes to the objects that it has.
use Rattle.std.proofs.Common.{◌≡◌, ℕ, Bool, true, false, ◌&&◌, ◌||◌, not, Option, Some, None, List, [], ◌∷◌, refl, sym, ap, ◌∙◌, subst, arith}
use Rattle.std.specs.Prelude.{◌==◌, if◌then◌else◌, is_none, is_some}
use Rattle.std.specs.Option.{option_or}
use Rattle.std.proofs.lemmas.Bool.Decides.{nat_tests}
use Rattle.execution_definitions.specs.Meanings.{Meaning}
use Rattle.set_queue.specs.declared.message.Message.{Message}
use Rattle.set_queue.specs.declared.message.Message.TheVariants as message
use Rattle.delegates.specs.Stores.{Stored, value_of, taken, folded}
use Rattle.lane_core.specs.Cores.{value_in}
use Rattle.lane_core.specs.Kept.{with_number, all_find, is_in_store}
use Rattle.lane_core.proofs.StepLemmas.{has_the_same}
use Rattle.lane_core.proofs.StoreLemmas.{taken-whole, stays_whole}
use Rattle.lane_ends.specs.LaneEnds.{each_finds}

both_true : (a b : Bool) → (a && b) ≡ true → (a ≡ true) × (b ≡ true)
both_true true b both = (refl, both)
both_true false b both = absurd cc

both_are : (a b : Bool) → a ≡ true → b ≡ true → (a && b) ≡ true
both_are a b first second = rw (first, second) refl

same_test : (n k : ℕ) → (k == n) ≡ (n == k)
same_test n k = grind (arith, nat_tests)

not_some : {A : Type 0} (found : Option A) → is_none found ≡ true → not (is_some found) ≡ true
not_some None none = refl
not_some (Some a) none = absurd cc

or_none : {A : Type 0} (found : Option A) → is_some (option_or found None) ≡ is_some found
or_none None = refl
or_none (Some a) = refl

or_one : {A : Type 0} (found : Option A) (b : Bool) (a : A) →
    is_some (option_or found (option_or (if b then Some a else None) None)) ≡ (b || is_some found)
or_one None true a = refl
or_one None false a = refl
or_one (Some x) true a = refl
or_one (Some x) false a = refl

module _ {C O R : Type 0} where
  -- messages find their objects where the same objects are there
  same_find : (f g : ℕ → Bool) → ((n : ℕ) → g n ≡ f n) → (messages : List (Message C O R)) →
      all_find f messages ≡ true → all_find g messages ≡ true
  same_find f g same [] found = refl
  same_find f g same (message.Stop ∷ rest) found = same_find f g same rest found
  same_find f g same (message.Carry call epoch set object value op reading ∷ rest) found =
      let parts = both_true (not (f object.0)) (all_find (with_number f object.0) rest) found in
      both_are (not (g object.0)) (all_find (with_number g object.0) rest)
      (ap not (same object.0) ∙ parts.0)
      (same_find (with_number f object.0) (with_number g object.0)
      (λ n. ap (λ b. (n == object.0) || b) (same n)) rest parts.1)
  same_find f g same (message.Run call epoch set object op reading ∷ rest) found =
      let parts = both_true (f object.0) (all_find f rest) found in
      both_are (g object.0) (all_find g rest) (same object.0 ∙ parts.0)
      (same_find f g same rest parts.1)

module _ {C O R : Type 0} (m : Meaning C O R) where
  -- messages that find their objects one by one find them all
  pub find_all : (s : Stored C R) (messages : List (Message C O R)) → s.is_broken ≡ false →
      each_finds m s messages ≡ true → all_find (is_in_store s) messages ≡ true
  find_all s [] whole found = refl
  find_all s (message.Stop ∷ rest) whole found =
      find_all s rest whole (subst (λ (t : Stored C R). each_finds m t rest ≡ true)
      (taken-whole m s message.Stop whole) found)
  find_all s (message.Carry call epoch set object value op reading ∷ rest) whole found =
      let x = message.Carry call epoch set object value op reading in
      let parts = both_true (is_none (value_of s object.0)) (each_finds m (taken m s x) rest) found in
      let free = not_some (value_of s object.0) parts.0 in
      both_are (not (is_in_store s object.0)) (all_find (with_number (is_in_store s) object.0) rest)
      free
      (same_find (is_in_store (taken m s x)) (with_number (is_in_store s) object.0)
      (λ n. sym (sym (or_none (value_of (taken m s x) n))
      ∙ has_the_same m 1 s (x ∷ []) whole (both_are (not (is_in_store s object.0)) true free refl)
      (omega arith) n
      ∙ or_one (value_of s n) (object.0 == n) value
      ∙ ap (λ b. b || is_in_store s n) (same_test n object.0)))
      rest (find_all (taken m s x) rest (stays_whole m s x whole) parts.1))
  find_all s (message.Run call epoch set object op reading ∷ rest) whole found =
      let x = message.Run call epoch set object op reading in
      let parts = both_true (is_some (value_of s object.0)) (each_finds m (taken m s x) rest) found in
      both_are (is_in_store s object.0) (all_find (is_in_store s) rest) parts.0
      (same_find (is_in_store (taken m s x)) (is_in_store s)
      (λ n. sym (sym (or_none (value_of (taken m s x) n))
      ∙ has_the_same m 1 s (x ∷ []) whole (both_are (is_in_store s object.0) true parts.0 refl)
      (omega arith) n
      ∙ or_none (value_of s n)))
      rest (find_all (taken m s x) rest (stays_whole m s x whole) parts.1))

  -- a lane comes to just the objects that it has
  pub comes_with : (s : Stored C R) (messages : List (Message C O R)) → s.is_broken ≡ false →
      each_finds m s messages ≡ true → (n : ℕ) →
      is_some (value_of (folded m s messages) n)
      ≡ is_some (value_in n (record { store = s; waiting = messages }))
  comes_with s [] whole found n = sym (or_none (value_of s n))
  comes_with s (message.Stop ∷ rest) whole found n =
      let stays = taken-whole m s message.Stop whole in
      ap (λ (t : Stored C R). is_some (value_of (folded m t rest) n)) stays
      ∙ comes_with s rest whole
      (subst (λ (t : Stored C R). each_finds m t rest ≡ true) stays found) n
  comes_with s (message.Carry call epoch set object value op reading ∷ rest) whole found n =
      let x = message.Carry call epoch set object value op reading in
      let parts = both_true (is_none (value_of s object.0)) (each_finds m (taken m s x) rest) found in
      comes_with (taken m s x) rest (stays_whole m s x whole) parts.1 n
      ∙ has_the_same m 1 s (x ∷ rest) whole (find_all s (x ∷ rest) whole found) (omega arith) n
  comes_with s (message.Run call epoch set object op reading ∷ rest) whole found n =
      let x = message.Run call epoch set object op reading in
      let parts = both_true (is_some (value_of s object.0)) (each_finds m (taken m s x) rest) found in
      comes_with (taken m s x) rest (stays_whole m s x whole) parts.1 n
      ∙ has_the_same m 1 s (x ∷ rest) whole (find_all s (x ∷ rest) whole found) (omega arith) n
