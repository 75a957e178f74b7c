-- Operations on different objects can change places.
use Rattle.std.proofs.Common.{◌≡◌, ℕ, zero, suc, ◌<◌, ◌≢◌, Option, Some, None, List, [], ◌∷◌, ◌++◌, length, refl, sym, ap, ◌∙◌, arith, length-set}
use Rattle.std.specs.Prelude.{slice_get, slice_set, ⊤}
use Rattle.std.proofs.lemmas.List.{set_comm}
use Rattle.ss_base.specs.declared.ids.ObjectId.{ObjectId}
use Rattle.execution_definitions.specs.Meanings.{Meaning}
use Rattle.execution_definitions.specs.Sequential.{State, value_read, with_object, put, operated_on, operated}
use Rattle.execution_definitions.proofs.lists.ListLemmas.{slice_get-front}

-- a value elsewhere stays
pub slice_get-set_other : {A : Type 0} (xs : List A) (i j : ℕ) (x : A) → i ≢ j →
    slice_get (slice_set xs i x) j ≡ slice_get xs j
slice_get-set_other [] i j x other = refl
slice_get-set_other (first ∷ xs) zero zero x other = absurd (other refl)
slice_get-set_other (first ∷ xs) zero (suc j) x other = refl
slice_get-set_other (first ∷ xs) (suc i) zero x other = refl
slice_get-set_other (first ∷ xs) (suc i) (suc j) x other =
    slice_get-set_other xs i j x (λ e. other (ap suc e))

-- a change in the front of a list leaves what is behind it
set-front : {A : Type 0} (xs ys : List A) (i : ℕ) (x : A) → i < length xs →
    slice_set (xs ++ ys) i x ≡ slice_set xs i x ++ ys
set-front [] ys i x inside = absurd (omega arith)
set-front (first ∷ xs) ys zero x inside = refl
set-front (first ∷ xs) ys (suc i) x inside =
    ap (λ rest. first ∷ rest) (set-front xs ys i x (omega arith))

-- what is read, if anything, is another object than this
abbrev pub IsOther : ℕ → Option ObjectId → Type 0
IsOther object None = ⊤
IsOther object (Some read) = object ≢ read.0

module _ {C O R : Type 0} (m : Meaning C O R) where
  operated_on-length : (state : State C R) (object : ℕ) (op : O) (read found : Option C) →
      length (operated_on m state object op read found).values ≡ length state.values
  operated_on-length state object op read None = refl
  operated_on-length state object op read (Some value) =
      length-set state.values object (m.step value op read).0

  -- an operation makes no object
  pub operated-length : (state : State C R) (object : ℕ) (op : O) (read : Option C) →
      length (operated m state object op read).values ≡ length state.values
  operated-length state object op read =
      operated_on-length state object op read (slice_get state.values object)

  slice_get-operated_on : (state : State C R) (object : ℕ) (op : O) (read found : Option C)
      (other : ℕ) → object ≢ other →
      slice_get (operated_on m state object op read found).values other
      ≡ slice_get state.values other
  slice_get-operated_on state object op read None other apart = refl
  slice_get-operated_on state object op read (Some value) other apart =
      slice_get-set_other state.values object other (m.step value op read).0 apart

  -- nor does it change another object
  pub slice_get-operated : (state : State C R) (object : ℕ) (op : O) (read : Option C)
      (other : ℕ) → object ≢ other →
      slice_get (operated m state object op read).values other ≡ slice_get state.values other
  slice_get-operated state object op read other apart =
      slice_get-operated_on state object op read (slice_get state.values object) other apart

  -- so a value that is read elsewhere stays
  pub value_read-operated : (state : State C R) (object : ℕ) (op : O) (read : Option C)
      (reading : Option ObjectId) → IsOther object reading →
      value_read (operated m state object op read).values reading
      ≡ value_read state.values reading
  value_read-operated state object op read None other = refl
  value_read-operated state object op read (Some from) other =
      slice_get-operated state object op read from.0 other

  operated_on-with_object : (state : State C R) (object : ℕ) (op : O) (read found : Option C)
      (new : C) → object < length state.values →
      operated_on m (with_object state new) object op read found
      ≡ with_object (operated_on m state object op read found) new
  operated_on-with_object state object op read None new inside = refl
  operated_on-with_object state object op read (Some value) new inside =
      let stepped = m.step value op read in
      ap (λ (values : List C). record {
        values = values;
        total = m.join state.total stepped.1;
      })
      (set-front state.values (new ∷ []) object stepped.0 inside)

  -- an operation, and an object that is made
  pub operated-with_object : (state : State C R) (object : ℕ) (op : O) (read : Option C)
      (new : C) → object < length state.values →
      operated m (with_object state new) object op read
      ≡ with_object (operated m state object op read) new
  operated-with_object state object op read new inside =
      ap (operated_on m (with_object state new) object op read)
      (slice_get-front state.values (new ∷ []) object inside)
      ∙ operated_on-with_object state object op read (slice_get state.values object) new inside

  -- contributions may be joined in any order
  abbrev pub JoinsInAnyOrder : Type 0
  JoinsInAnyOrder = (total a b : R) → m.join (m.join total a) b ≡ m.join (m.join total b) a

  module _ (any_order : JoinsInAnyOrder) where
    puts_commute : (state : State C R) (a b : ℕ) (x y : C × R) → a ≢ b →
        put m (put m state a x) b y ≡ put m (put m state b y) a x
    puts_commute state a b x y apart =
        rw (
          set_comm state.values a b x.0 y.0 apart,
          any_order state.total x.1 y.1,
        ) refl

    operated_on-commutes : (state : State C R) (a b : ℕ) (p q : O) (r s : Option C)
        (x y : Option C) → a ≢ b →
        operated_on m (operated_on m state a p r x) b q s y
        ≡ operated_on m (operated_on m state b q s y) a p r x
    operated_on-commutes state a b p q r s None None apart = refl
    operated_on-commutes state a b p q r s None (Some y) apart = refl
    operated_on-commutes state a b p q r s (Some x) None apart = refl
    operated_on-commutes state a b p q r s (Some x) (Some y) apart =
        puts_commute state a b (m.step x p r) (m.step y q s) apart

    -- two operations on different objects, with what they read
    pub operations_commute : (state : State C R) (a b : ℕ) (p q : O) (r s : Option C) → a ≢ b →
        operated m (operated m state a p r) b q s ≡ operated m (operated m state b q s) a p r
    operations_commute state a b p q r s apart =
        let x = slice_get state.values a in
        let y = slice_get state.values b in
        ap (operated_on m (operated m state a p r) b q s) (slice_get-operated state a p r b apart)
        ∙ operated_on-commutes state a b p q r s x y apart
        ∙ sym (ap (operated_on m (operated m state b q s) a p r)
        (slice_get-operated state b q s a (λ e. apart (sym e))))
