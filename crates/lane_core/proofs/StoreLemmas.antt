-- What does a store have, once a value was put in, and once an operation ran?
use Rattle.std.proofs.Common.{◌≡◌, ℕ, Bool, true, false, cond, Option, Some, None, List, [], ◌∷◌, refl, sym, ap, ◌∙◌, arith}
use Rattle.std.specs.Ordering.{nat_cmp, is_eq, match_ordering}
use Rattle.std.specs.declared.cmp.Ordering.{Ordering}
use Rattle.std.specs.declared.cmp.Ordering.TheVariants.{Less, Equal, Greater}
use Rattle.std.specs.Map.{lookup, set_value}
use Rattle.std.specs.BTreeMap.{is_at, insert_entry}
use Rattle.std.proofs.lemmas.Bool.Decides.{nat_tests}
use Rattle.std.proofs.lemmas.Map.Entries.{lookup_head, lookup_tail}
use Rattle.std.proofs.lemmas.Map.Lookups.{exact_unsigned}
use Rattle.execution_definitions.specs.Meanings.{Meaning}
use Rattle.interleavings.specs.Machines.{Entry}
use Rattle.set_queue.specs.declared.message.Message.{Message}
use Rattle.set_queue.specs.declared.message.Message.TheVariants as message
use Rattle.delegates.specs.Stores.{Stored, value_of, holding, entry, stepped, ran_on, ran, after_message, taken}

-- a number compares as equal with itself alone
same_number : (n : ℕ) → is_at (nat_cmp n) n ≡ true
same_number n = grind (arith, nat_tests)

pub other_number : (n k : ℕ) → (n ≡ k → ⊥) → is_at (nat_cmp n) k ≡ false
other_number n k differs = grind (arith, nat_tests)

module _ {X : Type 0} where
  -- ---- entries

  set_here : (test : ℕ → Bool) (es : List (ℕ × X)) (old new : X) → lookup test es ≡ Some old →
      lookup test (set_value test es new) ≡ Some new
  set_here test [] old new here = absurd cc
  set_here test (e ∷ es) old new here =
      by (λ h. set_here test es old new h) (test e.0) refl
    where
      by : (lookup test es ≡ Some old → lookup test (set_value test es new) ≡ Some new) →
          (b : Bool) → test e.0 ≡ b →
          lookup test (cond b ((e.0, new) ∷ es) (e ∷ set_value test es new)) ≡ Some new
      by rest true is = lookup_head test (e.0, new) es is
      by rest false is =
          lookup_tail test e (set_value test es new) is
          ∙ rest (sym (lookup_tail test e es is) ∙ here)

  set_other : (test other : ℕ → Bool) (es : List (ℕ × X)) (new : X) →
      ((k : ℕ) → test k ≡ true → other k ≡ false) →
      lookup other (set_value test es new) ≡ lookup other es
  set_other test other [] new apart = refl
  set_other test other (e ∷ es) new apart =
      by (set_other test other es new apart) (test e.0) refl
    where
      by : lookup other (set_value test es new) ≡ lookup other es → (b : Bool) → test e.0 ≡ b →
          lookup other (cond b ((e.0, new) ∷ es) (e ∷ set_value test es new))
          ≡ lookup other (e ∷ es)
      by rest true is =
          lookup_tail other (e.0, new) es (apart e.0 is)
          ∙ sym (lookup_tail other e es (apart e.0 is))
      by rest false is = ap (λ found. cond (other e.0) (Some e.1) found) rest

  insert_here : (es : List (ℕ × X)) (k : ℕ) (v : X) →
      lookup (is_at (nat_cmp k)) (insert_entry nat_cmp es k v) ≡ Some v
  insert_here [] k v = lookup_head (is_at (nat_cmp k)) (k, v) [] (same_number k)
  insert_here (e ∷ es) k v = by (insert_here es k v) (nat_cmp k e.0) refl where
    by : lookup (is_at (nat_cmp k)) (insert_entry nat_cmp es k v) ≡ Some v →
        (r : Ordering) → nat_cmp k e.0 ≡ r →
        lookup (is_at (nat_cmp k)) (match_ordering r ((k, v) ∷ e ∷ es) ((e.0, v) ∷ es)
        (e ∷ insert_entry nat_cmp es k v)) ≡ Some v
    by rest Less is = lookup_head (is_at (nat_cmp k)) (k, v) (e ∷ es) (same_number k)
    by rest Equal is = lookup_head (is_at (nat_cmp k)) (e.0, v) es (ap is_eq is)
    by rest Greater is =
        lookup_tail (is_at (nat_cmp k)) e (insert_entry nat_cmp es k v) (ap is_eq is) ∙ rest

  insert_other : (es : List (ℕ × X)) (k : ℕ) (v : X) (n : ℕ) → (n ≡ k → ⊥) →
      lookup (is_at (nat_cmp n)) (insert_entry nat_cmp es k v)
      ≡ lookup (is_at (nat_cmp n)) es
  insert_other [] k v n differs =
      lookup_tail (is_at (nat_cmp n)) (k, v) [] (other_number n k differs)
  insert_other (e ∷ es) k v n differs =
      by (insert_other es k v n differs) (nat_cmp k e.0) refl
    where
      by : lookup (is_at (nat_cmp n)) (insert_entry nat_cmp es k v)
          ≡ lookup (is_at (nat_cmp n)) es →
          (r : Ordering) → nat_cmp k e.0 ≡ r →
          lookup (is_at (nat_cmp n)) (match_ordering r ((k, v) ∷ e ∷ es) ((e.0, v) ∷ es)
          (e ∷ insert_entry nat_cmp es k v)) ≡ lookup (is_at (nat_cmp n)) (e ∷ es)
      by rest Less is =
          lookup_tail (is_at (nat_cmp n)) (k, v) (e ∷ es) (other_number n k differs)
      by rest Equal is =
          let same : k ≡ e.0 = exact_unsigned k e.0 is in
          let apart = other_number n e.0 (λ same_as. differs (same_as ∙ sym same)) in
          lookup_tail (is_at (nat_cmp n)) (e.0, v) es apart
          ∙ sym (lookup_tail (is_at (nat_cmp n)) e es apart)
      by rest Greater is = ap (λ found. cond (is_at (nat_cmp n) e.0) (Some e.1) found) rest

module _ {C R : Type 0} where
  -- ---- stores

  pub holding_here : (s : Stored C R) (object : ℕ) (value : C) →
      value_of (holding s object value) object ≡ Some value
  holding_here s object value = insert_here s.values object value

  pub holding_other : (s : Stored C R) (object : ℕ) (value : C) (n : ℕ) → (n ≡ object → ⊥) →
      value_of (holding s object value) n ≡ value_of s n
  holding_other s object value n differs = insert_other s.values object value n differs

module _ {C O R : Type 0} (m : Meaning C O R) where
  pub stepped_here : (s : Stored C R) (e : Entry C O) (old : C) (after : C × R) →
      value_of s e.run.object.0 ≡ Some old →
      value_of (stepped m s e.run after) e.run.object.0 ≡ Some after.0
  stepped_here s e old after here =
      set_here (is_at (nat_cmp e.run.object.0)) s.values old after.0 here

  pub stepped_other : (s : Stored C R) (e : Entry C O) (after : C × R) (n : ℕ) →
      (n ≡ e.run.object.0 → ⊥) → value_of (stepped m s e.run after) n ≡ value_of s n
  stepped_other s e after n differs =
      set_other (is_at (nat_cmp e.run.object.0)) (is_at (nat_cmp n)) s.values after.0
      (λ k is. apart k is)
    where
      apart : (k : ℕ) → is_at (nat_cmp e.run.object.0) k ≡ true → is_at (nat_cmp n) k ≡ false
      apart k is = other_number n k (λ same. differs (same ∙ sym (grind (arith, nat_tests))))

  ran_on-whole : (s : Stored C R) (e : Entry C O) (found : Option C) →
      (ran_on m s e found).is_broken ≡ s.is_broken
  ran_on-whole s e None = refl
  ran_on-whole s e (Some value) = refl

  after_message-whole : (s : Stored C R) (x : Message C O R) →
      (after_message m s x).is_broken ≡ s.is_broken
  after_message-whole s (message.Carry call epoch set object value op reading) =
      ran_on-whole (holding s object.0 value) (entry call epoch set object op reading) _
  after_message-whole s (message.Run call epoch set object op reading) =
      ran_on-whole s (entry call epoch set object op reading) _
  after_message-whole s message.Stop = refl

  -- a store that isn't broken takes a message
  pub taken-whole : (s : Stored C R) (x : Message C O R) → s.is_broken ≡ false →
      taken m s x ≡ after_message m s x
  taken-whole s x whole = rw whole refl

  -- and isn't broken then
  pub stays_whole : (s : Stored C R) (x : Message C O R) → s.is_broken ≡ false →
      (taken m s x).is_broken ≡ false
  stays_whole s x whole =
      ap (λ (t : Stored C R). t.is_broken) (taken-whole s x whole)
      ∙ after_message-whole s x ∙ whole

  -- an entry runs where its object is there
  pub ran-found : (s : Stored C R) (e : Entry C O) (value : C) →
      value_of s e.run.object.0 ≡ Some value →
      ran m s e ≡ stepped m s e.run (m.step value e.op e.read)
  ran-found s e value here = ap (ran_on m s e) here
