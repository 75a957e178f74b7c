-- What does a lane come to with one run more?
--
-- It takes the first entry that waits: the object's value is stepped, the contribution is joined,
-- and all other objects are as they were.
use Rattle.std.proofs.Common.{◌≡◌, ℕ, zero, suc, ◌+◌, ◌<◌, ◌≤◌, Bool, true, false, Option, Some, None, List, [], ◌∷◌, ◌++◌, length, map, append_assoc, append-nil, refl, sym, ap, ◌∙◌, subst, arith, rules}
use Rattle.std.specs.Prelude.{◌==◌, ◌&&◌, ◌||◌, not, if◌then◌else◌, is_some}
use Rattle.std.specs.Option.{option_or}
use Rattle.std.proofs.lemmas.Bool.{eqb-true}
use Rattle.execution_definitions.specs.Meanings.{Meaning}
use Rattle.interleavings.specs.Machines.{Entry}
use Rattle.set_queue.specs.declared.message.Message.{Message}
use Rattle.set_queue.specs.declared.message.Message.TheVariants as message
use Rattle.delegates.specs.Stores.{Stored, value_of, holding, entry, stepped, ran, after_message, taken, folded}
use Rattle.lane_core.specs.Views.{entries_in}
use Rattle.lane_core.specs.Cuts.{LaneAtCut, lane_after}
use Rattle.lane_core.specs.Cores.{carried, value_in}
use Rattle.lane_core.specs.Kept.{with_number, all_find, is_in_store}
use Rattle.lane_core.proofs.StoreLemmas.{holding_here, holding_other, stepped_here, stepped_other, taken-whole, stays_whole, ran-found}

-- ---- small words

pub same_either : {A : Type 0} (b : Bool) (a : A) → (if b then a else a) ≡ a
same_either true a = refl
same_either false a = refl

pub some_value : {A : Type 0} (o : Option A) → is_some o ≡ true → (a : A) × (o ≡ Some a)
some_value None some = absurd cc
some_value (Some a) some = (a, refl)

pub no_value : {A : Type 0} (o : Option A) → not (is_some o) ≡ true → o ≡ None
no_value None none = refl
no_value (Some a) none = absurd cc

both_true : (a b : Bool) → (a && b) ≡ true → (a ≡ true) × (b ≡ true)
both_true true b both = (refl, both)
both_true false b both = absurd cc

both_are : (a b : Bool) → a ≡ true → b ≡ true → (a && b) ≡ true
both_are a b first second = rw (first, second) refl

pub same_as_itself : (n : ℕ) → (n == n) ≡ true
same_as_itself n = search rules

pub not_the_other : (n k : ℕ) → (n ≡ k → ⊥) → (n == k) ≡ false
not_the_other n k differs = by (n == k) refl where
  by : (b : Bool) → (n == k) ≡ b → (n == k) ≡ false
  by true is = absurd (differs (eqb-true n k is))
  by false is = is

pub are_apart : (n k : ℕ) → (n == k) ≡ false → n ≡ k → ⊥
are_apart n k is same =
    let equal : (n == k) ≡ true = subst (λ j. (n == j) ≡ true) same (same_as_itself n) in
    absurd cc

module _ {C O R : Type 0} where
  -- messages find their objects where the same objects are there
  all_find-same : (f g : ℕ → Bool) → ((n : ℕ) → g n ≡ f n) → (messages : List (Message C O R)) →
      all_find f messages ≡ true → all_find g messages ≡ true
  all_find-same f g same [] found = refl
  all_find-same f g same (message.Stop ∷ rest) found = all_find-same f g same rest found
  all_find-same f g same (message.Carry call epoch set object value op reading ∷ rest) found =
      let parts = both_true (not (f object.0)) (all_find (with_number f object.0) rest) found in
      both_are (not (g object.0)) (all_find (with_number g object.0) rest)
      (ap not (same object.0) ∙ parts.0)
      (all_find-same (with_number f object.0) (with_number g object.0)
      (λ n. ap (λ b. (n == object.0) || b) (same n)) rest parts.1)
  all_find-same f g same (message.Run call epoch set object op reading ∷ rest) found =
      let parts = both_true (f object.0) (all_find f rest) found in
      both_are (g object.0) (all_find g rest) (same object.0 ∙ parts.0)
      (all_find-same f g same rest parts.1)

module _ {C O R : Type 0} (m : Meaning C O R) where
  -- an entry that ran on an object of a store leaves it the same objects
  stepped_has : (s : Stored C R) (e : Entry C O) (old : C) (after : C × R) →
      value_of s e.run.object.0 ≡ Some old → (n : ℕ) →
      is_in_store (stepped m s e.run after) n ≡ is_in_store s n
  stepped_has s e old after here n = by (n == e.run.object.0) refl where
    by : (b : Bool) → (n == e.run.object.0) ≡ b →
        is_in_store (stepped m s e.run after) n ≡ is_in_store s n
    by true is =
        subst (λ k. is_in_store (stepped m s e.run after) k ≡ is_in_store s k)
        (sym (eqb-true n e.run.object.0 is))
        (ap (λ o. is_some o) (stepped_here m s e old after here)
        ∙ sym (ap (λ o. is_some o) here))
    by false is =
        ap (λ o. is_some o)
        (stepped_other m s e after n (are_apart n e.run.object.0 is))

  -- a store into which an object was put has that one too
  holding_has : (s : Stored C R) (object : ℕ) (value : C) (n : ℕ) →
      is_in_store (holding s object value) n ≡ with_number (is_in_store s) object n
  holding_has s object value n = by (n == object) refl where
    by : (b : Bool) → (n == object) ≡ b →
        is_in_store (holding s object value) n ≡ (b || is_in_store s n)
    by true is =
        ap (λ k. is_in_store (holding s object value) k) (eqb-true n object is)
        ∙ ap (λ o. is_some o) (holding_here s object value)
    by false is =
        ap (λ o. is_some o) (holding_other s object value n (are_apart n object is))

  -- a lane takes this entry, whose object has this value
  pub record IsStep (before after : LaneAtCut C O R) (e : Entry C O) (value : C) : Type 0 where
    pub entries : entries_in before.waiting ≡ e ∷ entries_in after.waiting
    pub had : value_in e.run.object.0 before ≡ Some value
    pub has : value_in e.run.object.0 after ≡ Some (m.step value e.op e.read).0
    pub total :
        after.store.total ≡ m.join before.store.total (m.step value e.op e.read).1
    pub others :
        (n : ℕ) → (n ≡ e.run.object.0 → ⊥) → value_in n after ≡ value_in n before

  pub record Steps (before after : LaneAtCut C O R) : Type 0 where
    pub taken : Entry C O
    pub value : C
    pub is : IsStep before after taken value

  -- behind a stop
  stop_first : (s : Stored C R) (rest : List (Message C O R)) (after : LaneAtCut C O R) →
      Steps (record { store = s; waiting = rest }) after →
      Steps (record { store = s; waiting = message.Stop ∷ rest }) after
  stop_first s rest after steps = record {
    taken = steps.taken;
    value = steps.value;
    is = record {
      entries = steps.is.entries;
      had = steps.is.had;
      has = steps.is.has;
      total = steps.is.total;
      others = steps.is.others;
    };
  }

  -- the object is in the store
  run_first : (s : Stored C R) (x : Message C O R) (rest : List (Message C O R)) (e : Entry C O)
      (value : C) → entries_in (x ∷ rest) ≡ e ∷ entries_in rest →
      ((n : ℕ) → carried n (x ∷ rest) ≡ carried n rest) →
      value_of s e.run.object.0 ≡ Some value →
      taken m s x ≡ stepped m s e.run (m.step value e.op e.read) →
      Steps (record { store = s; waiting = x ∷ rest })
      (record { store = taken m s x; waiting = rest })
  run_first s x rest e value front carries here takes =
      let after = m.step value e.op e.read in
      subst (λ (t : Stored C R). Steps (record { store = s; waiting = x ∷ rest })
      (record { store = t; waiting = rest })) (sym takes)
      (record {
        taken = e;
        value = value;
        is = record {
          entries = front;
          had = ap (λ o. option_or o (carried e.run.object.0 (x ∷ rest))) here;
          has = ap (λ o. option_or o (carried e.run.object.0 rest))
              (stepped_here m s e value after here);
          total = refl;
          others = λ n differs.
              ap (λ o. option_or o (carried n rest)) (stepped_other m s e after n differs)
              ∙ ap (λ o. option_or (value_of s n) o) (sym (carries n));
        };
      })

  -- the message carries the object
  carry_first : (s : Stored C R) (x : Message C O R) (rest : List (Message C O R)) (e : Entry C O)
      (value : C) → entries_in (x ∷ rest) ≡ e ∷ entries_in rest →
      carried e.run.object.0 (x ∷ rest) ≡ Some value →
      ((n : ℕ) → (n ≡ e.run.object.0 → ⊥) → carried n (x ∷ rest) ≡ carried n rest) →
      value_of s e.run.object.0 ≡ None →
      taken m s x
      ≡ stepped m (holding s e.run.object.0 value) e.run (m.step value e.op e.read) →
      Steps (record { store = s; waiting = x ∷ rest })
      (record { store = taken m s x; waiting = rest })
  carry_first s x rest e value front carries others none takes =
      let object = e.run.object.0 in
      let held = holding s object value in
      let after = m.step value e.op e.read in
      subst (λ (t : Stored C R). Steps (record { store = s; waiting = x ∷ rest })
      (record { store = t; waiting = rest })) (sym takes)
      (record {
        taken = e;
        value = value;
        is = record {
          entries = front;
          had = ap (λ o. option_or o (carried object (x ∷ rest))) none ∙ carries;
          has = ap (λ o. option_or o (carried object rest))
              (stepped_here m held e value after (holding_here s object value));
          total = refl;
          others = λ n differs.
              ap (λ o. option_or o (carried n rest))
              (stepped_other m held e after n differs ∙ holding_other s object value n differs)
              ∙ ap (λ o. option_or (value_of s n) o) (sym (others n differs));
        };
      })

  -- what a message does that carries an object, and a run
  carry_taken : (s : Stored C R) (e : Entry C O) (x : Message C O R) (value : C) →
      s.is_broken ≡ false →
      after_message m s x ≡ ran m (holding s e.run.object.0 value) e →
      taken m s x
      ≡ stepped m (holding s e.run.object.0 value) e.run (m.step value e.op e.read)
  carry_taken s e x value whole is =
      taken-whole m s x whole ∙ is
      ∙ ran-found m (holding s e.run.object.0 value) e value
      (holding_here s e.run.object.0 value)

  run_taken : (s : Stored C R) (e : Entry C O) (x : Message C O R) (value : C) →
      s.is_broken ≡ false → after_message m s x ≡ ran m s e →
      value_of s e.run.object.0 ≡ Some value →
      taken m s x ≡ stepped m s e.run (m.step value e.op e.read)
  run_taken s e x value whole is here =
      taken-whole m s x whole ∙ is ∙ ran-found m s e value here

  carry_has : (s : Stored C R) (e : Entry C O) (x : Message C O R) (value : C) →
      taken m s x
      ≡ stepped m (holding s e.run.object.0 value) e.run (m.step value e.op e.read) →
      (n : ℕ) →
      is_in_store (taken m s x) n ≡ with_number (is_in_store s) e.run.object.0 n
  carry_has s e x value takes n =
      ap (λ (t : Stored C R). is_in_store t n) takes
      ∙ stepped_has (holding s e.run.object.0 value) e value (m.step value e.op e.read)
      (holding_here s e.run.object.0 value) n
      ∙ holding_has s e.run.object.0 value n

  run_has : (s : Stored C R) (e : Entry C O) (x : Message C O R) (value : C) →
      taken m s x ≡ stepped m s e.run (m.step value e.op e.read) →
      value_of s e.run.object.0 ≡ Some value → (n : ℕ) →
      is_in_store (taken m s x) n ≡ is_in_store s n
  run_has s e x value takes here n =
      ap (λ (t : Stored C R). is_in_store t n) takes
      ∙ stepped_has s e value (m.step value e.op e.read) here n

  -- one run more, where there is one
  pub steps_on : (runs : ℕ) (s : Stored C R) (messages : List (Message C O R)) →
      s.is_broken ≡ false → all_find (is_in_store s) messages ≡ true →
      runs < length (entries_in messages) →
      Steps (lane_after m runs s messages) (lane_after m (suc runs) s messages)
  steps_on runs s [] whole found room = absurd (omega (arith, room))
  steps_on zero s (message.Stop ∷ rest) whole found room =
      stop_first s rest (lane_after m (suc zero) s rest) (steps_on zero s rest whole found room)
  steps_on (suc runs) s (message.Stop ∷ rest) whole found room =
      steps_on (suc runs) s rest whole found room
  steps_on zero s (message.Carry call epoch set object value op reading ∷ rest) whole found room =
      let x = message.Carry call epoch set object value op reading in
      let e = entry call epoch set object op reading in
      let parts = both_true (not (is_in_store s object.0))
      (all_find (with_number (is_in_store s) object.0) rest) found in
      carry_first s x rest e value refl
      (rw (same_as_itself object.0) refl)
      (λ n differs. rw (not_the_other object.0 n (λ same. differs (sym same))) refl)
      (no_value (value_of s object.0) parts.0)
      (carry_taken s e x value whole refl)
  steps_on zero s (message.Run call epoch set object op reading ∷ rest) whole found room =
      let x = message.Run call epoch set object op reading in
      let e = entry call epoch set object op reading in
      let parts = both_true (is_in_store s object.0) (all_find (is_in_store s) rest) found in
      let has = some_value (value_of s object.0) parts.0 in
      run_first s x rest e has.0 refl (λ n. refl) has.1 (run_taken s e x has.0 whole refl has.1)
  steps_on (suc runs) s (message.Carry call epoch set object value op reading ∷ rest) whole found
      room =
      let x = message.Carry call epoch set object value op reading in
      let e = entry call epoch set object op reading in
      let parts = both_true (not (is_in_store s object.0))
      (all_find (with_number (is_in_store s) object.0) rest) found in
      let takes = carry_taken s e x value whole refl in
      steps_on runs (taken m s x) rest (stays_whole m s x whole)
      (all_find-same (with_number (is_in_store s) object.0) (is_in_store (taken m s x))
      (carry_has s e x value takes) rest parts.1) (omega (arith, room))
  steps_on (suc runs) s (message.Run call epoch set object op reading ∷ rest) whole found room =
      let x = message.Run call epoch set object op reading in
      let e = entry call epoch set object op reading in
      let parts = both_true (is_in_store s object.0) (all_find (is_in_store s) rest) found in
      let has = some_value (value_of s object.0) parts.0 in
      let takes = run_taken s e x has.0 whole refl has.1 in
      steps_on runs (taken m s x) rest (stays_whole m s x whole)
      (all_find-same (is_in_store s) (is_in_store (taken m s x))
      (run_has s e x has.0 takes has.1) rest parts.1) (omega (arith, room))

  -- a step neither brings an object nor loses one
  step_keeps : (before after : LaneAtCut C O R) (steps : Steps before after) (n : ℕ) →
      is_some (value_in n after) ≡ is_some (value_in n before)
  step_keeps before after steps n = by (n == object) refl where
    object : ℕ
    object = steps.taken.run.object.0

    by : (b : Bool) → (n == object) ≡ b →
        is_some (value_in n after) ≡ is_some (value_in n before)
    by true is =
        subst (λ k. is_some (value_in k after) ≡ is_some (value_in k before))
        (sym (eqb-true n object is))
        (ap (λ o. is_some o) (steps.is.has) ∙ sym (ap (λ o. is_some o) steps.is.had))
    by false is = ap (λ o. is_some o) (steps.is.others n (are_apart n object is))

  -- so a lane has the same objects however far it has come
  pub has_the_same : (runs : ℕ) (s : Stored C R) (messages : List (Message C O R)) →
      s.is_broken ≡ false → all_find (is_in_store s) messages ≡ true →
      runs ≤ length (entries_in messages) → (n : ℕ) →
      is_some (value_in n (lane_after m runs s messages))
      ≡ is_some (value_in n (record { store = s; waiting = messages }))
  has_the_same zero s messages whole found room n = refl
  has_the_same (suc runs) s messages whole found room n =
      step_keeps (lane_after m runs s messages) (lane_after m (suc runs) s messages)
      (steps_on runs s messages whole found (omega (arith, room))) n
      ∙ has_the_same runs s messages whole found (omega (arith, room)) n

  -- what waits in a lane that has come so far
  pub entries_left : (runs : ℕ) (s : Stored C R) (messages : List (Message C O R)) →
      runs ≤ length (entries_in messages) →
      runs + length (entries_in (lane_after m runs s messages).waiting)
      ≡ length (entries_in messages)
  entries_left zero s messages room = omega arith
  entries_left (suc runs) s [] room = absurd (omega (arith, room))
  entries_left (suc runs) s (message.Stop ∷ rest) room = entries_left (suc runs) s rest room
  entries_left (suc runs) s (message.Carry call epoch set object value op reading ∷ rest) room =
      let x = message.Carry call epoch set object value op reading in
      let left = entries_left runs (taken m s x) rest (omega (arith, room)) in
      omega (arith, left)
  entries_left (suc runs) s (message.Run call epoch set object op reading ∷ rest) room =
      let x = message.Run call epoch set object op reading in
      let left = entries_left runs (taken m s x) rest (omega (arith, room)) in
      omega (arith, left)

  -- ---- a store that took messages

  -- what ran is logged, and the messages behind find their objects
  pub record HasRun (s after : Stored C R) (done left : List (Message C O R)) : Type 0 where
    pub runs : after.runs ≡ s.runs ++ map (λ (e : Entry C O). e.run) (entries_in done)
    pub whole : after.is_broken ≡ false
    pub found : all_find (is_in_store after) left ≡ true

  one_ran : (s first after : Stored C R) (e : Entry C O) (done left : List (Message C O R)) →
      first.runs ≡ s.runs ++ e.run ∷ [] → HasRun first after done left →
      after.runs ≡ s.runs ++ e.run ∷ map (λ (e : Entry C O). e.run) (entries_in done)
  one_ran s first after e done left one rest =
      let runs = map (λ (e : Entry C O). e.run) (entries_in done) in
      rest.runs ∙ ap (λ log. log ++ runs) one ∙ append_assoc s.runs (e.run ∷ []) runs

  pub has_run : (s : Stored C R) (done left : List (Message C O R)) → s.is_broken ≡ false →
      all_find (is_in_store s) (done ++ left) ≡ true → HasRun s (folded m s done) done left
  has_run s [] left whole found =
      record { runs = sym (append-nil s.runs); whole = whole; found = found }
  has_run s (message.Stop ∷ done) left whole found =
      let stays : taken m s message.Stop ≡ s = taken-whole m s message.Stop whole in
      subst (λ (t : Stored C R). HasRun s (folded m t done) (message.Stop ∷ done) left) (sym stays)
      (let rest = has_run s done left whole found in
      record { runs = rest.runs; whole = rest.whole; found = rest.found })
  has_run s (message.Carry call epoch set object value op reading ∷ done) left whole found =
      let x = message.Carry call epoch set object value op reading in
      let e = entry call epoch set object op reading in
      let parts = both_true (not (is_in_store s object.0))
      (all_find (with_number (is_in_store s) object.0) (done ++ left)) found in
      let takes = carry_taken s e x value whole refl in
      let rest = has_run (taken m s x) done left (stays_whole m s x whole)
      (all_find-same (with_number (is_in_store s) object.0) (is_in_store (taken m s x))
      (carry_has s e x value takes) (done ++ left) parts.1) in
      record {
        runs = one_ran s (taken m s x) (folded m (taken m s x) done) e done left
            (ap (λ (t : Stored C R). t.runs) takes) rest;
        whole = rest.whole;
        found = rest.found;
      }
  has_run s (message.Run call epoch set object op reading ∷ done) left whole found =
      let x = message.Run call epoch set object op reading in
      let e = entry call epoch set object op reading in
      let parts = both_true (is_in_store s object.0)
      (all_find (is_in_store s) (done ++ left)) found in
      let has = some_value (value_of s object.0) parts.0 in
      let takes = run_taken s e x has.0 whole refl has.1 in
      let rest = has_run (taken m s x) done left (stays_whole m s x whole)
      (all_find-same (is_in_store s) (is_in_store (taken m s x))
      (run_has s e x has.0 takes has.1) (done ++ left) parts.1) in
      record {
        runs = one_ran s (taken m s x) (folded m (taken m s x) done) e done left
            (ap (λ (t : Stored C R). t.runs) takes) rest;
        whole = rest.whole;
        found = rest.found;
      }

  -- two lanes at a cut differ at most in stops
  pub record AreAlike (a b : LaneAtCut C O R) : Type 0 where
    pub store : b.store ≡ a.store
    pub waiting : entries_in b.waiting ≡ entries_in a.waiting
    pub carried : (n : ℕ) → carried n b.waiting ≡ carried n a.waiting

  stop_skipped : (runs : ℕ) (s : Stored C R) (rest : List (Message C O R)) →
      AreAlike (lane_after m runs s (message.Stop ∷ rest)) (lane_after m runs s rest)
  stop_skipped zero s rest = record { store = refl; waiting = refl; carried = λ n. refl }
  stop_skipped (suc runs) s rest = record { store = refl; waiting = refl; carried = λ n. refl }

  -- a lane whose store took the first messages has come as far as the one before
  pub goes_on_after : (all runs : ℕ) (s : Stored C R) (done left : List (Message C O R)) →
      all ≡ length (entries_in done) + runs →
      AreAlike (lane_after m all s (done ++ left)) (lane_after m runs (folded m s done) left)
  goes_on_after all runs s [] left is =
      subst (λ k. AreAlike (lane_after m k s left) (lane_after m runs s left))
      (omega (arith, is)) (record { store = refl; waiting = refl; carried = λ n. refl })
  goes_on_after all runs s (message.Stop ∷ done) left is =
      let skipped = stop_skipped all s (done ++ left) in
      let rest = subst (λ (t : Stored C R). AreAlike (lane_after m all s (done ++ left))
      (lane_after m runs (folded m t done) left)) (sym (same_either s.is_broken s))
      (goes_on_after all runs s done left is) in
      record {
        store = rest.store ∙ skipped.store;
        waiting = rest.waiting ∙ skipped.waiting;
        carried = λ n. rest.carried n ∙ skipped.carried n;
      }
  goes_on_after zero runs s (message.Carry call epoch set object value op reading ∷ done) left is =
      absurd (omega (arith, is))
  goes_on_after zero runs s (message.Run call epoch set object op reading ∷ done) left is =
      absurd (omega (arith, is))
  goes_on_after (suc all) runs s (message.Carry call epoch set object value op reading ∷ done) left
      is =
      let x = message.Carry call epoch set object value op reading in
      goes_on_after all runs (taken m s x) done left (omega (arith, is))
  goes_on_after (suc all) runs s (message.Run call epoch set object op reading ∷ done) left is =
      let x = message.Run call epoch set object op reading in
      goes_on_after all runs (taken m s x) done left (omega (arith, is))
