-- A lane whose store took some of its messages, and one to which an operation was sent.
use Rattle.std.proofs.Common.{◌≡◌, ℕ, ◌+◌, ◌-◌, ◌≤◌, true, false, Option, Some, None, List, [], ◌∷◌, ◌++◌, length, map, length-append, append_assoc, refl, sym, ap, ap₂, ◌∙◌, subst, arith}
use Rattle.std.specs.Prelude.{filter_map}
use Rattle.std.specs.Option.{option_or}
use Rattle.std.proofs.lemmas.List.{length-map}
use Rattle.ss_base.specs.declared.ids.Run.{Run}
use Rattle.execution_definitions.specs.Meanings.{Meaning}
use Rattle.interleavings.specs.Machines.{Entry}
use Rattle.set_queue.specs.declared.message.Message.{Message}
use Rattle.set_queue.specs.declared.message.Message.TheVariants as message
use Rattle.delegates.specs.Stores.{Stored, value_of, entry, folded}
use Rattle.lane_core.specs.Views.{LaneView, entry_in, entries_in, runs_known, runs_sent}
use Rattle.lane_core.specs.Cuts.{LaneAtCut, lane_after, lane_at}
use Rattle.lane_core.specs.Cores.{carried_in, carried, value_in}
use Rattle.lane_core.specs.Kept.{all_find, is_in_store}
use Rattle.lane_core.proofs.StepLemmas.{HasRun, has_run, AreAlike, goes_on_after}
use Rattle.lane_core.proofs.LanesLemmas.{IsWithin, IsServed, runs_sent-count}
use Rattle.lane_core.proofs.ComeLemmas.{TakesIn}

or_again : {A : Type 0} (a b c : Option A) →
    option_or (option_or a b) c ≡ option_or a (option_or b c)
or_again None b c = refl
or_again (Some value) b c = refl

or_none_first : {A : Type 0} (a b : Option A) → a ≡ None → option_or a b ≡ b
or_none_first None b none = refl
or_none_first (Some a) b none = absurd cc

module _ {C O R : Type 0} where
  pub entries-append : (xs ys : List (Message C O R)) →
      entries_in (xs ++ ys) ≡ entries_in xs ++ entries_in ys
  entries-append [] ys = refl
  entries-append (message.Stop ∷ xs) ys = entries-append xs ys
  entries-append (message.Carry call epoch set object value op reading ∷ xs) ys =
      ap (λ rest. entry call epoch set object op reading ∷ rest) (entries-append xs ys)
  entries-append (message.Run call epoch set object op reading ∷ xs) ys =
      ap (λ rest. entry call epoch set object op reading ∷ rest) (entries-append xs ys)

  -- the first value that messages carry
  carried-append : (n : ℕ) (xs ys : List (Message C O R)) →
      carried n (xs ++ ys) ≡ option_or (carried n xs) (carried n ys)
  carried-append n [] ys = refl
  carried-append n (x ∷ xs) ys =
      ap (option_or (carried_in n x)) (carried-append n xs ys)
      ∙ sym (or_again (carried_in n x) (carried n xs) (carried n ys))

or_first : {A : Type 0} (a b : Option A) (value : A) → a ≡ Some value → option_or a b ≡ Some value
or_first None b value is = absurd cc
or_first (Some first) b value is = is

module _ {C O R : Type 0} (m : Meaning C O R) where
  -- a lane's store took the first of the messages, and the others wait
  pub record HasComeOn (a b : LaneView C O R) (done left : List (Message C O R)) : Type 0 where
    pub log : b.log ≡ a.log
    pub split : a.since ≡ done ++ left
    pub store : b.base ≡ folded m a.base done

  module _ (a b : LaneView C O R) (done left : List (Message C O R)) (served : IsServed a)
      (on : HasComeOn a b done left)
    where
      ran : HasRun m a.base (folded m a.base done) done left
      ran = has_run m a.base done left served.whole
          (subst (λ messages. all_find (is_in_store a.base) messages ≡ true) on.split served.served)

      -- how many runs are known to be taken
      known-count : length (runs_known b) ≡ length (runs_known a) + length (entries_in done)
      known-count =
          let runs = map (λ (e : Entry C O). e.run) (entries_in done) in
          ap₂ (λ log (s : Stored C R). length (log ++ s.runs)) on.log on.store
          ∙ ap (λ log. length (a.log ++ log)) ran.runs
          ∙ ap length (sym (append_assoc a.log a.base.runs runs))
          ∙ length-append (runs_known a) runs
          ∙ ap (λ k. length (runs_known a) + k)
          (length-map (entries_in done) (λ (e : Entry C O). e.run))

      -- and how many were sent before
      sent-count : length (runs_sent a) ≡ length (runs_known b) + length (entries_in left)
      sent-count =
          let count = runs_sent-count a in
          let known = known-count in
          let split = ap (λ messages. length (entries_in messages)) on.split
          ∙ ap length (entries-append done left)
          ∙ length-append (entries_in done) (entries_in left) in
          omega (arith, count, known, split)

      -- so far it is alike
      alike : (runs : ℕ) → length (runs_known b) ≤ runs →
          AreAlike m (lane_at m a runs) (lane_after m (runs - length (runs_known b)) b.base left)
      alike runs least =
          let known = known-count in
          let is = goes_on_after m (runs - length (runs_known a)) (runs - length (runs_known b))
          a.base done left (omega (arith, known, least)) in
          subst (λ messages. AreAlike m (lane_after m (runs - length (runs_known a)) a.base messages)
          (lane_after m (runs - length (runs_known b)) b.base left)) (sym on.split)
          (subst (λ (s : Stored C R). AreAlike m
          (lane_after m (runs - length (runs_known a)) a.base (done ++ left))
          (lane_after m (runs - length (runs_known b)) s left)) (sym on.store) is)

      -- the runs that are known now are within those of before
      pub within : IsWithin a (length (runs_known b))
      within =
          let known = known-count in
          let sent = sent-count in
          record { least = omega (arith, known); most = omega (arith, sent) }

      module _ (x : Message C O R) (e : Entry C O) (last : b.since ≡ left ++ x ∷ [])
          (asks : entries_in (x ∷ []) ≡ e ∷ [])
        where
          abbrev pub before : LaneAtCut C O R
          before = lane_at m a (length (runs_known b))

          abbrev pub after : LaneAtCut C O R
          after = lane_at m b (length (runs_known b))

          no_more : length (runs_known b) - length (runs_known b) ≡ 0
          no_more = omega arith

          after_is : after ≡ record { store = b.base; waiting = left ++ x ∷ [] }
          after_is =
              ap (λ runs. lane_after m runs b.base b.since) no_more
              ∙ ap (λ messages. lane_after m 0 b.base messages) last

          is_alike : AreAlike m before (record { store = b.base; waiting = left })
          is_alike =
              subst (λ runs. AreAlike m (lane_at m a (length (runs_known b)))
              (lane_after m runs b.base left)) no_more
              (alike (length (runs_known b)) (omega arith))

          value_after : (n : ℕ) →
              value_in n after ≡ option_or (value_in n before) (carried n (x ∷ []))
          value_after n =
              ap (value_in n) after_is
              ∙ ap (option_or (value_of b.base n)) (carried-append n left (x ∷ []))
              ∙ sym (or_again (value_of b.base n) (carried n left) (carried n (x ∷ [])))
              ∙ ap₂ (λ (s : Stored C R) first. option_or (option_or (value_of s n) first)
              (carried n (x ∷ []))) is_alike.store (is_alike.carried n)

          pub enters : TakesIn m before after e
          enters = record {
            values = λ n value is.
                value_after n ∙ or_first (value_in n before) (carried n (x ∷ [])) value is;
            total = ap (λ (lane : LaneAtCut C O R). lane.store.total) after_is
                ∙ ap (λ (s : Stored C R). s.total) is_alike.store;
            waiting = ap (λ (lane : LaneAtCut C O R). entries_in lane.waiting) after_is
                ∙ entries-append left (x ∷ [])
                ∙ ap₂ (λ xs ys. xs ++ ys) is_alike.waiting asks;
          }

          pub enters_with : (object : ℕ) (value : C) → value_in object before ≡ None →
              carried object (x ∷ []) ≡ Some value → value_in object after ≡ Some value
          enters_with object value none has =
              value_after object
              ∙ or_none_first (value_in object before) (carried object (x ∷ [])) none ∙ has
