-- What becomes of a home that takes one message more?
use Rattle.std.proofs.Common.{◌≡◌, Bool, true, false, List, [], ◌∷◌, ◌++◌, refl, sym, ap, ◌∙◌, subst, append_assoc, append-nil, arith, rules}
use Rattle.std.proofs.lemmas.List.Folds.{list_any-append}
use Rattle.std.proofs.lemmas.List.Sums.{fold-append}
use Rattle.jobs.specs.declared.errand.Returned.{Returned}
use Rattle.jobs.specs.declared.errand.Returned.TheVariants.{Done, CalledOff}
use Rattle.jobs.specs.Jobs.{ComesBack}
use Rattle.execution_definitions.specs.Meanings.{Meaning}
use Rattle.set_queue.specs.Ends.{received, IsSameReceiver}
use Rattle.set_queue.specs.declared.ends.Receiver.{Receiver}
use Rattle.set_queue.specs.declared.message.Message.{Message}
use Rattle.set_queue.specs.declared.message.Message.TheVariants as message
use Rattle.delegates.specs.Stores.{Stored, stored, taken, folded, changes_nothing}
use Rattle.delegates.specs.Works.{is_stop, HasStored, Took, TookNoStop, HasWorked, HasReturned}
use Rattle.delegates.specs.Starts.{home_in}
use Rattle.delegates.specs.declared.store.Store.{Store}
use Rattle.delegates.specs.declared.home.Home.{Home}
use Rattle.delegates.specs.declared.worker.DelegateJob.{DelegateJob}

-- a store that is whole was whole before
was_whole : {C R : Type 0} (s t : Stored C R) (b : Bool) → s.is_broken ≡ b →
    (s.is_broken ≡ true → t ≡ s) → t.is_broken ≡ false → s.is_broken ≡ false
was_whole {C} {R} s t false is same whole = is
was_whole {C} {R} s t true is same whole =
    sym (ap (λ (v : Stored C R). v.is_broken) (same is)) ∙ whole

module _ {C O R : Type 0} where
  -- a broken store drops every message
  broken_drops : (s : Stored C R) (x : Message C O R) → s.is_broken ≡ true →
      changes_nothing s x ≡ true
  broken_drops s (message.Carry a b c d e f g) broken = broken
  broken_drops s (message.Run a b c d e f) broken = rw broken refl
  broken_drops s message.Stop broken = refl

  -- a message that is a stop
  stop_is : (x : Message C O R) → is_stop x ≡ true → x ≡ message.Stop
  stop_is message.Stop is = refl
  stop_is (message.Carry a b c d e f g) is = absurd cc
  stop_is (message.Run a b c d e f) is = absurd cc

  same_receiver : (a b c : Receiver C O R) → IsSameReceiver a b → IsSameReceiver b c →
      IsSameReceiver a c
  same_receiver a b c before next = grind arith

module _ {C O R : Type 0} (m : Meaning C O R) where
  -- no message
  stored_none : (s : Stored C R) → HasStored m s s []
  stored_none s = record { folds = λ whole. refl; drops = λ broken. refl }

  -- one message more
  stored_more : (s t u : Stored C R) (messages : List (Message C O R)) (x : Message C O R) →
      HasStored m s t messages → (u.is_broken ≡ false → u ≡ taken m t x) →
      (changes_nothing t x ≡ true → u ≡ t) → HasStored m s u (messages ++ x ∷ [])
  stored_more s t u messages x before takes same = record {
    folds = λ whole.
        let was = was_whole t u t.is_broken refl (λ broken. same (broken_drops t x broken)) whole in
        takes whole ∙ ap (λ v. taken m v x) (before.folds was)
        ∙ sym (fold-append (taken m) s messages (x ∷ []));
    drops = λ broken.
        let still = before.drops broken in
        same (broken_drops t x (ap (λ (v : Stored C R). v.is_broken) still ∙ broken)) ∙ still;
  }

  took_none : (h : Home C O R) → Took m h h []
  took_none h = record {
    receiver = search rules;
    received = sym (append-nil _);
    store = stored_none (stored h.store);
  }

  took_more : (h : Home C O R) (s s' : Store C O R) (r r' : Receiver C O R)
      (messages : List (Message C O R)) (x : Message C O R) →
      Took m h (record { store = s; receiver = r }) messages → IsSameReceiver r r' →
      received r' ≡ received r ++ x ∷ [] →
      ((stored s').is_broken ≡ false → stored s' ≡ taken m (stored s) x) →
      (changes_nothing (stored s) x ≡ true → stored s' ≡ stored s) →
      Took m h (record { store = s'; receiver = r' }) (messages ++ x ∷ [])
  took_more h s s' r r' messages x before end more takes same = record {
    receiver = same_receiver h.receiver r r' before.receiver end;
    received = more ∙ ap (λ v. v ++ x ∷ []) before.received ∙ append_assoc _ messages (x ∷ []);
    store = stored_more (stored h.store) (stored s) (stored s') messages x before.store takes same;
  }

  -- a delegate before its first message
  pub working_none : (h : Home C O R) → TookNoStop m h h
  working_none h = record { front = []; took = took_none h; only = refl }

  -- one message more, which is no stop
  pub working_more : (h : Home C O R) (s s' : Store C O R) (r r' : Receiver C O R)
      (x : Message C O R) → TookNoStop m h (record { store = s; receiver = r }) →
      IsSameReceiver r r' → received r' ≡ received r ++ x ∷ [] →
      ((stored s').is_broken ≡ false → stored s' ≡ taken m (stored s) x) →
      (changes_nothing (stored s) x ≡ true → stored s' ≡ stored s) → is_stop x ≡ false →
      TookNoStop m h (record { store = s'; receiver = r' })
  working_more h s s' r r' x before end more takes same on = record {
    front = before.front ++ x ∷ [];
    took = took_more h s s' r r' before.front x before.took end more takes same;
    only = rw (list_any-append, before.only, on) refl;
  }

  -- one message more, which is a stop
  pub working_done : (h : Home C O R) (s s' : Store C O R) (r r' : Receiver C O R)
      (x : Message C O R) → TookNoStop m h (record { store = s; receiver = r }) →
      IsSameReceiver r r' → received r' ≡ received r ++ x ∷ [] →
      ((stored s').is_broken ≡ false → stored s' ≡ taken m (stored s) x) →
      (changes_nothing (stored s) x ≡ true → stored s' ≡ stored s) → is_stop x ≡ true →
      HasWorked m h (record { store = s'; receiver = r' })
  working_done h s s' r r' x before end more takes same last = record {
    front = before.front;
    took = subst
        (λ v. Took m h (record { store = s'; receiver = r' }) (before.front ++ v ∷ []))
        (stop_is x last)
        (took_more h s s' r r' before.front x before.took end more takes same);
    only = before.only;
  }

  -- a home that is as it was took no message
  pub returned_as_it_was : (h : Home C O R) → HasReturned m h h
  returned_as_it_was h = record { messages = []; took = took_none h }

  -- a home comes back with one message more
  pub returned_more : (h : Home C O R) (s s' : Store C O R) (r r' : Receiver C O R)
      (x : Message C O R) → HasReturned m h (record { store = s; receiver = r }) →
      IsSameReceiver r r' → received r' ≡ received r ++ x ∷ [] →
      ((stored s').is_broken ≡ false → stored s' ≡ taken m (stored s) x) →
      (changes_nothing (stored s) x ≡ true → stored s' ≡ stored s) →
      HasReturned m h (record { store = s'; receiver = r' })
  returned_more h s s' r r' x before end more takes same = record {
    messages = before.messages ++ x ∷ [];
    took = took_more h s s' r r' before.messages x before.took end more takes same;
  }

  stored_on : (s t u : Stored C R) (xs ys : List (Message C O R)) → HasStored m s t xs →
      HasStored m t u ys → HasStored m s u (xs ++ ys)
  stored_on s t u xs ys first second = record {
    folds = λ whole.
        let was = was_whole t u t.is_broken refl second.drops whole in
        second.folds whole ∙ ap (λ v. folded m v ys) (first.folds was)
        ∙ sym (fold-append (taken m) s xs ys);
    drops = λ broken.
        let still = first.drops broken in
        second.drops (ap (λ (v : Stored C R). v.is_broken) still ∙ broken) ∙ still;
  }

  -- and a home that came back does so again
  pub returned_on : (h k l : Home C O R) → HasReturned m h k → HasReturned m k l →
      HasReturned m h l
  returned_on h k l first second = record {
    messages = first.messages ++ second.messages;
    took = record {
      receiver = same_receiver h.receiver k.receiver l.receiver first.took.receiver
          second.took.receiver;
      received = second.took.received
          ∙ ap (λ v. v ++ second.messages) first.took.received
          ∙ append_assoc _ first.messages second.messages;
      store = stored_on (stored h.store) (stored k.store) (stored l.store) first.messages
          second.messages first.took.store second.took.store;
    };
  }

  -- a delegate that worked brings its home back
  returned_worked : (h k : Home C O R) → HasWorked m h k → HasReturned m h k
  returned_worked h k worked =
      record { messages = worked.front ++ message.Stop ∷ []; took = worked.took }

  -- a job that came back, done or as it was, brings its home back
  pub returned_home : {G : Type 0} (job : DelegateJob C G O R)
      (returned : Returned (DelegateJob C G O R)) →
      ComesBack (λ (job done : DelegateJob C G O R). HasWorked m job.home done.home) job returned →
      HasReturned m job.home (home_in returned)
  returned_home job (Done done) back = returned_worked job.home done.home back
  returned_home job (CalledOff same) back = rw back (returned_as_it_was job.home)
