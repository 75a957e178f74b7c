-- What does a lane come to, step by step?
use Rattle.std.proofs.Common.{◌≡◌, ◌<◌, Bool, true, false, ◌&&◌, Some, None, List, [], ◌∷◌, ◌++◌, length, drop, refl, sym, ap, ◌∙◌, subst, append_assoc, append-nil, arith}
use Rattle.std.specs.Prelude.{if◌then◌else◌, Result, Ok, Err, IfOk}
use Rattle.std.proofs.Math.Seq.{drop-append_seam}
use Rattle.std.proofs.lemmas.List.{append_cancel_left}
use Rattle.std.proofs.lemmas.List.Sums.{fold-append}
use Rattle.execution_definitions.specs.Meanings.{Meaning}
use Rattle.set_queue.specs.Ends.{sent, received, AreOneLane, IsSameSender, IsSameReceiver}
use Rattle.set_queue.specs.declared.ends.Sender.{Sender}
use Rattle.set_queue.specs.declared.ends.Receiver.{Receiver}
use Rattle.set_queue.specs.declared.message.Message.{Message}
use Rattle.set_queue.specs.declared.message.Message.TheVariants as message
use Rattle.delegates.specs.Stores.{Stored, stored, taken, folded}
use Rattle.delegates.specs.Works.{HasReturned}
use Rattle.delegates.specs.declared.home.Home.{Home}
use Rattle.delegates.proofs.WorkLemmas.{returned_as_it_was}
use Rattle.delegates.specs.declared.store.Store.{Store}
use Rattle.lane_ends.specs.declared.lane_end.Taker.{Taker}
use Rattle.lane_ends.specs.declared.lane_end.LaneEnd.{LaneEnd}
use Rattle.lane_ends.specs.LaneEnds.{finds, sent_since, each_finds, comes_from, IsTakenFrom, ComesOn, ComesToSame, HasGoneOn, HasTakenIn, taker_home, since_by, since_of, base_by, base_of, comes_to, IsTakenBy, IsWhole, GoesOn, TakesIn, HasCome}

both_true : (a b : Bool) → (a && b) ≡ true → (a ≡ true) × (b ≡ true)
both_true true b both = (refl, both)
both_true false b both = absurd cc

both_are : (a b : Bool) → a ≡ true → b ≡ true → (a && b) ≡ true
both_are a b first second = rw (first, second) refl

-- what follows from two facts that hold of a value after Ok
pub if_ok2 : {T E : Type 0} (result : Result T E) (P Q S : T → Type 0) → IfOk result P →
    IfOk result Q → ((value : T) → P value → Q value → S value) → IfOk result S
if_ok2 (Ok value) P Q S p q next = next value p q
if_ok2 (Err error) P Q S p q next = tt

module _ {C O R : Type 0} where
  -- ---- the two ends

  pub same_sender : (a b c : Sender C O R) → IsSameSender a b → IsSameSender b c →
      IsSameSender a c
  same_sender a b c p q = grind arith

  same_receiver : (a b c : Receiver C O R) → IsSameReceiver a b → IsSameReceiver b c →
      IsSameReceiver a c
  same_receiver a b c p q = grind arith

  pub still_one : (s s' : Sender C O R) (r : Receiver C O R) → AreOneLane s r →
      IsSameSender s s' → AreOneLane s' r
  still_one s s' r one same = grind arith

  pub still_one_there : (s : Sender C O R) (r r' : Receiver C O R) → AreOneLane s r →
      IsSameReceiver r r' → AreOneLane s r'
  still_one_there s r r' one same = grind arith

  pub nothing_known : (xs : List (Message C O R)) → (0 < length xs → ⊥) → xs ≡ []
  nothing_known [] none = refl
  nothing_known (x ∷ xs) none = absurd (none (omega arith))

  pub since_is : (s : Sender C O R) (h : Home C O R) (rest : List (Message C O R)) →
      sent s ≡ received h.receiver ++ rest → sent_since s h ≡ rest
  since_is s h rest is =
      ap (λ xs. drop (length (received h.receiver)) xs) is
      ∙ drop-append_seam (received h.receiver) rest

module _ {C O R : Type 0} (m : Meaning C O R) where
  -- ---- messages find their objects

  finds_behind : (s : Stored C R) (xs ys : List (Message C O R)) →
      each_finds m s (xs ++ ys) ≡ true → each_finds m (folded m s xs) ys ≡ true
  finds_behind s [] ys found = found
  finds_behind s (x ∷ xs) ys found =
      finds_behind (taken m s x) xs ys
      (both_true (finds s x) (each_finds m (taken m s x) (xs ++ ys)) found).1

  finds_more : (s : Stored C R) (xs : List (Message C O R)) (x : Message C O R) →
      each_finds m s xs ≡ true → finds (folded m s xs) x ≡ true →
      each_finds m s (xs ++ x ∷ []) ≡ true
  finds_more s [] x found next = both_are (finds s x) true next refl
  finds_more s (y ∷ ys) x found next =
      let parts = both_true (finds s y) (each_finds m (taken m s y) ys) found in
      both_are (finds s y) (each_finds m (taken m s y) (ys ++ x ∷ [])) parts.0
      (finds_more (taken m s y) ys x parts.1 next)

  -- ---- a home

  -- the ends of its lane met
  pub returned_looked : (h : Home C O R) (s : Store C O R) (r r' : Receiver C O R) →
      HasReturned m h (record { store = s; receiver = r }) → IsSameReceiver r r' →
      received r' ≡ received r → HasReturned m h (record { store = s; receiver = r' })
  returned_looked h s r r' before same took = record {
    messages = before.messages;
    took = record {
      receiver = same_receiver h.receiver r r' before.took.receiver same;
      received = took ∙ before.took.received;
      store = before.took.store;
    };
  }

  -- ---- how far a store has come

  -- it took nothing
  comes_on_itself : (base : Stored C R) (since : List (Message C O R)) →
      ComesOn m base base since since
  comes_on_itself base since = record { done = []; split = refl; store = refl }

  -- it took some, and then some more
  comes_on_again : (a b c : Stored C R) (xs ys zs : List (Message C O R)) →
      ComesOn m a b xs ys → ComesOn m b c ys zs → ComesOn m a c xs zs
  comes_on_again a b c xs ys zs first second = record {
    done = first.done ++ second.done;
    split = first.split ∙ ap (λ vs. first.done ++ vs) second.split
        ∙ sym (append_assoc first.done second.done zs);
    store = second.store ∙ ap (λ s. folded m s second.done) first.store
        ∙ sym (fold-append (taken m) a first.done second.done);
  }

  -- ---- from one home to the next

  -- nothing happened
  pub goes_on_itself : (s : Sender C O R) (h : Home C O R) → IsTakenFrom m s h →
      HasGoneOn m s s h h
  goes_on_itself s h whole =
      record { whole = whole; same = refl; on = comes_on_itself (stored h.store) (sent_since s h) }

  -- one message more was sent
  pub sent_more : (s s' : Sender C O R) (h : Home C O R) (x : Message C O R) →
      IsTakenFrom m s h → IsSameSender s s' → sent s' ≡ sent s ++ x ∷ [] →
      finds (comes_from m s h) x ≡ true → HasTakenIn m s s' h h x
  sent_more s s' h x whole same more found =
      let base = stored h.store in
      let all : sent s' ≡ received h.receiver ++ (sent_since s h ++ x ∷ []) =
      more ∙ ap (λ xs. xs ++ x ∷ []) whole.first
      ∙ append_assoc (received h.receiver) (sent_since s h) (x ∷ []) in
      let since = since_is s' h (sent_since s h ++ x ∷ []) all in
      record {
        whole = record {
          one = still_one s s' h.receiver whole.one same;
          first = all ∙ ap (λ xs. received h.receiver ++ xs) (sym since);
          unbroken = whole.unbroken;
          served = subst (λ xs. each_finds m base xs ≡ true) (sym since)
              (finds_more base (sent_since s h) x whole.served found);
        };
        takes = ap (λ xs. folded m base xs) since
            ∙ fold-append (taken m) base (sent_since s h) (x ∷ []);
        left = sent_since s h;
        on = comes_on_itself base (sent_since s h);
        last = since;
      }

  stop_changes_nothing : (s : Stored C R) → taken m s message.Stop ≡ s
  stop_changes_nothing s = by s.is_broken where
    by : (b : Bool) → (if b then s else s) ≡ s
    by true = refl
    by false = refl

  -- a stop was sent
  pub sent_stop : (s s' : Sender C O R) (h : Home C O R) → IsTakenFrom m s h →
      IsSameSender s s' → sent s' ≡ sent s ++ message.Stop ∷ [] → ComesToSame m s s' h
  sent_stop s s' h whole same more =
      let sends = sent_more s s' h message.Stop whole same more refl in
      record {
        whole = sends.whole;
        same = sends.takes ∙ stop_changes_nothing (comes_from m s h);
      }

  -- a home came back, and what it has taken was seen
  pub gone_on : (s s' : Sender C O R) (h k k' : Home C O R) (rest : List (Message C O R)) →
      IsTakenFrom m s h → HasReturned m h k → AreOneLane s' k'.receiver → sent s' ≡ sent s →
      received k'.receiver ≡ received k.receiver → sent s' ≡ received k'.receiver ++ rest →
      stored k'.store ≡ stored k.store → (stored k.store).is_broken ≡ false →
      HasGoneOn m s s' h k'
  gone_on s s' h k k' rest whole back one same took all store unbroken =
      let base = stored h.store in
      let received_is : received k'.receiver ≡ received h.receiver ++ back.messages =
      took ∙ back.took.received in
      let split : back.messages ++ rest ≡ sent_since s h =
      append_cancel_left (received h.receiver) (back.messages ++ rest) (sent_since s h)
      (sym (append_assoc (received h.receiver) back.messages rest)
      ∙ ap (λ xs. xs ++ rest) (sym received_is) ∙ sym all ∙ same ∙ whole.first) in
      let since = since_is s' k' rest all in
      let folds : stored k'.store ≡ folded m base back.messages =
      store ∙ back.took.store.folds unbroken in
      record {
        whole = record {
          one = one;
          first = all ∙ ap (λ xs. received k'.receiver ++ xs) (sym since);
          unbroken = ap (λ (v : Stored C R). v.is_broken) store ∙ unbroken;
          served = subst (λ xs. each_finds m (stored k'.store) xs ≡ true) (sym since)
              (subst (λ t. each_finds m t rest ≡ true) (sym folds)
              (finds_behind base back.messages rest
              (subst (λ xs. each_finds m base xs ≡ true) (sym split) whole.served)));
        };
        same = ap (λ xs. folded m (stored k'.store) xs) since
            ∙ ap (λ t. folded m t rest) folds
            ∙ sym (fold-append (taken m) base back.messages rest)
            ∙ ap (λ xs. folded m base xs) split;
        on = record {
          done = back.messages;
          split = sym split ∙ ap (λ xs. back.messages ++ xs) (sym since);
          store = folds;
        };
      }

  -- its sender looked, and sent nothing
  pub looked_on : (s s' : Sender C O R) (h : Home C O R) → IsTakenFrom m s h →
      IsSameSender s s' → sent s' ≡ sent s → HasGoneOn m s s' h h
  looked_on s s' h whole same none =
      gone_on s s' h h h (sent_since s h) whole (returned_as_it_was m h)
      (still_one s s' h.receiver whole.one same) none refl (none ∙ whole.first) refl
      whole.unbroken

  -- a home that has taken all comes to what it has
  pub came_all : (s : Sender C O R) (h : Home C O R) → received h.receiver ≡ sent s →
      comes_from m s h ≡ stored h.store
  came_all s h all =
      ap (λ xs. folded m (stored h.store) xs)
      (since_is s h [] (sym all ∙ sym (append-nil (received h.receiver))))

  -- another home that is the same
  pub gone_to : (s : Sender C O R) (h k : Home C O R) → k ≡ h → IsTakenFrom m s h →
      HasGoneOn m s s h k
  gone_to s h k is whole =
      subst (λ j. HasGoneOn m s s h j) (sym is) (goes_on_itself s h whole)

  -- one step after the other
  pub gone_on_again : (s t u : Sender C O R) (h k l : Home C O R) → HasGoneOn m s t h k →
      HasGoneOn m t u k l → HasGoneOn m s u h l
  gone_on_again s t u h k l first second = record {
    whole = second.whole;
    same = second.same ∙ first.same;
    on = comes_on_again (stored h.store) (stored k.store) (stored l.store) (sent_since s h)
        (sent_since t k) (sent_since u l) first.on second.on;
  }

  pub gone_on_taken : (s t u : Sender C O R) (h k l : Home C O R) (x : Message C O R) →
      HasGoneOn m s t h k → HasTakenIn m t u k l x → HasTakenIn m s u h l x
  gone_on_taken s t u h k l x first second = record {
    whole = second.whole;
    takes = second.takes ∙ ap (λ v. taken m v x) first.same;
    left = second.left;
    on = comes_on_again (stored h.store) (stored k.store) (stored l.store) (sent_since s h)
        (sent_since t k) second.left first.on second.on;
    last = second.last;
  }

module _ {C W O R : Type 0} (m : Meaning C O R) (home_of : W → Home C O R) where
  -- ---- an end

  pub whole_from : (end : LaneEnd C W O R) (taker : Taker C W O R) → end.taker ≡ Some taker →
      IsWhole m home_of end → IsTakenFrom m end.sender (taker_home home_of taker)
  whole_from end taker is whole = subst (λ t. IsTakenBy m home_of end.sender t) is whole

  pub comes_by : (end : LaneEnd C W O R) (taker : Taker C W O R) → end.taker ≡ Some taker →
      comes_to m home_of end ≡ comes_from m end.sender (taker_home home_of taker)
  comes_by end taker is =
      ap (λ t. folded m (base_by m home_of t) (since_by home_of end.sender t)) is

  base_is : (end : LaneEnd C W O R) (taker : Taker C W O R) → end.taker ≡ Some taker →
      base_of m home_of end ≡ stored (taker_home home_of taker).store
  base_is end taker is = ap (base_by m home_of) is

  since_at : (end : LaneEnd C W O R) (taker : Taker C W O R) → end.taker ≡ Some taker →
      since_of home_of end ≡ sent_since end.sender (taker_home home_of taker)
  since_at end taker is = ap (since_by home_of end.sender) is

  -- how far the homes have come is how far the ends have
  end_comes_on : (old new : LaneEnd C W O R) (taker taker' : Taker C W O R)
      (left : List (Message C O R)) → old.taker ≡ Some taker → new.taker ≡ Some taker' →
      ComesOn m (stored (taker_home home_of taker).store)
      (stored (taker_home home_of taker').store)
      (sent_since old.sender (taker_home home_of taker)) left →
      ComesOn m (base_of m home_of old) (base_of m home_of new) (since_of home_of old) left
  end_comes_on old new taker taker' left was is on = record {
    done = on.done;
    split = since_at old taker was ∙ on.split;
    store = base_is new taker' is ∙ on.store
        ∙ ap (λ s. folded m s on.done) (sym (base_is old taker was));
  }

  pub end_goes_on : (old new : LaneEnd C W O R) (taker taker' : Taker C W O R) →
      old.taker ≡ Some taker → new.taker ≡ Some taker' →
      HasGoneOn m old.sender new.sender (taker_home home_of taker) (taker_home home_of taker') →
      GoesOn m home_of old new
  end_goes_on old new taker taker' was is goes = record {
    whole = subst (λ t. IsTakenBy m home_of new.sender t) (sym is) goes.whole;
    same = comes_by new taker' is ∙ goes.same ∙ sym (comes_by old taker was);
    on = subst (ComesOn m (base_of m home_of old) (base_of m home_of new) (since_of home_of old))
        (sym (since_at new taker' is))
        (end_comes_on old new taker taker' _ was is goes.on);
  }

  -- an end that is as it was before a step took it
  pub goes_on_from : (old same new : LaneEnd C W O R) → same ≡ old →
      GoesOn m home_of same new → GoesOn m home_of old new
  goes_on_from old same new is goes = subst (λ end. GoesOn m home_of end new) is goes

  pub takes_in_from : (old same new : LaneEnd C W O R) (x : Message C O R) → same ≡ old →
      TakesIn m home_of same new x → TakesIn m home_of old new x
  takes_in_from old same new x is takes = subst (λ end. TakesIn m home_of end new x) is takes

  pub end_takes_in : (old new : LaneEnd C W O R) (taker taker' : Taker C W O R)
      (x : Message C O R) → old.taker ≡ Some taker → new.taker ≡ Some taker' →
      HasTakenIn m old.sender new.sender (taker_home home_of taker) (taker_home home_of taker') x →
      TakesIn m home_of old new x
  end_takes_in old new taker taker' x was is takes = record {
    whole = subst (λ t. IsTakenBy m home_of new.sender t) (sym is) takes.whole;
    takes = comes_by new taker' is ∙ takes.takes
        ∙ ap (λ v. taken m v x) (sym (comes_by old taker was));
    left = takes.left;
    on = end_comes_on old new taker taker' takes.left was is takes.on;
    last = since_at new taker' is ∙ takes.last;
  }

  -- no end is whole without a taker
  pub none_taker : (end : LaneEnd C W O R) → end.taker ≡ None → IsWhole m home_of end → ⊥
  none_taker end none whole = subst (λ t. IsTakenBy m home_of end.sender t) none whole

  pub goes_on_takes_in : (old mid new : LaneEnd C W O R) (x : Message C O R) →
      GoesOn m home_of old mid → TakesIn m home_of mid new x → TakesIn m home_of old new x
  goes_on_takes_in old mid new x first second = record {
    whole = second.whole;
    takes = second.takes ∙ ap (λ v. taken m v x) first.same;
    left = second.left;
    on = comes_on_again m (base_of m home_of old) (base_of m home_of mid)
        (base_of m home_of new) (since_of home_of old) (since_of home_of mid) second.left first.on
        second.on;
    last = second.last;
  }

  -- all was taken from a home that came back
  pub has_come : (old new : LaneEnd C W O R) (taker : Taker C W O R) (mid : Sender C O R)
      (home : Home C O R) → old.taker ≡ Some taker →
      ComesToSame m old.sender mid (taker_home home_of taker) →
      HasGoneOn m mid new.sender (taker_home home_of taker) home →
      received home.receiver ≡ sent new.sender → HasCome m home_of old new home
  has_come old new taker mid home is first second all = record {
    one = second.whole.one;
    all = all;
    store = sym (came_all m new.sender home all) ∙ second.same ∙ first.same
        ∙ sym (comes_by old taker is);
    unbroken = second.whole.unbroken;
  }
