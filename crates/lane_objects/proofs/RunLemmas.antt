-- What do objects come to, once a lane takes one run more?
use Rattle.std.proofs.Common.{◌≡◌, ◌⊎◌, inl, inr, ⊎_elim, ℕ, Bool, true, false, Option, Some, None, List, [], ◌∷◌, ◌++◌, map, length, refl, sym, ap, ◌∙◌, subst, arith}
use Rattle.std.specs.Prelude.{is_some, slice_get, slice_set}
use Rattle.std.specs.Option.{unwrap_or}
use Rattle.std.specs.Arc.{arc_value}
use Rattle.std.specs.declared.sync.Arc.{Arc}
use Rattle.std.specs.declared.alloc.Global.{Global}
use Rattle.std.proofs.lemmas.Option.{none-some, same_Some, some_pair_parts}
use Rattle.std.proofs.lemmas.Bool.{cases_eq}
use Rattle.ss_base.specs.declared.ids.Run.{Run}
use Rattle.class_laws.specs.Laws.{ReducibleLaws}
use Rattle.execution_definitions.specs.Meanings.{Meaning}
use Rattle.execution_definitions.specs.Sequential.{operated, operated_on}
use Rattle.interleavings.specs.Machines.{Entry}
use Rattle.delegation.specs.PlainParts.{state_of}
use Rattle.set_queue.specs.declared.message.Message.{Message}
use Rattle.delegates.specs.Stores.{Stored, value_of, holding, stepped, ran, after_message, taken}
use Rattle.lane_core.proofs.StoreLemmas.{holding_here, holding_other, stepped_here, stepped_other, taken-whole, ran-found}
use Rattle.lane_objects.specs.declared.object.Object.{Object}
use Rattle.lane_objects.specs.declared.object.Object.TheVariants.{Here, Shared, Away}
use Rattle.lane_objects.specs.Objects.{lane_and_number, value_at_home, found_in, found_at}
use Rattle.lane_objects.specs.Outcomes.{value_in, value_after, AreApart, total_after, state_from}
use Rattle.lane_objects.proofs.ListLemmas.{get-set, get-set_other, map_one}
use Rattle.lane_objects.proofs.OutcomeLemmas.{is_there, value_home, value_away, value_here, values_set, in_here, in_now, in_other, total_more, total_put}

module _ {C O R : Type 0} (m : Meaning C O R) where
  -- a store with one run more: its object has this value, and this was contributed
  pub record HasRun (old new : Stored C R) (run : Run) (after : C × R) : Type 0 where
    pub has : value_of new run.object.0 ≡ Some after.0
    pub others : (n : ℕ) → (n ≡ run.object.0 → ⊥) → value_of new n ≡ value_of old n
    pub total : new.total ≡ m.join old.total after.1
    pub runs : new.runs ≡ old.runs ++ run ∷ []

  -- the object came with its message
  pub has_carried : (s : Stored C R) (x : Message C O R) (e : Entry C O) (value : C) →
      s.is_broken ≡ false →
      after_message m s x ≡ ran m (holding s e.run.object.0 value) e →
      HasRun s (taken m s x) e.run (m.step value e.op e.read)
  has_carried s x e value whole is =
      let held = holding s e.run.object.0 value in
      let after = m.step value e.op e.read in
      let takes : taken m s x ≡ stepped m held e.run after =
      taken-whole m s x whole ∙ is
      ∙ ran-found m held e value (holding_here s e.run.object.0 value) in
      subst (λ (t : Stored C R). HasRun s t e.run after) (sym takes) (record {
        has = stepped_here m held e value after (holding_here s e.run.object.0 value);
        others = λ n differs. stepped_other m held e after n differs
            ∙ holding_other s e.run.object.0 value n differs;
        total = refl;
        runs = refl;
      })

  -- or was there
  pub has_followed : (s : Stored C R) (x : Message C O R) (e : Entry C O) (value : C) →
      s.is_broken ≡ false → after_message m s x ≡ ran m s e →
      value_of s e.run.object.0 ≡ Some value →
      HasRun s (taken m s x) e.run (m.step value e.op e.read)
  has_followed s x e value whole is here =
      let after = m.step value e.op e.read in
      let takes : taken m s x ≡ stepped m s e.run after =
      taken-whole m s x whole ∙ is ∙ ran-found m s e value here in
      subst (λ (t : Stored C R). HasRun s t e.run after) (sym takes) (record {
        has = stepped_here m s e value after here;
        others = λ n differs. stepped_other m s e after n differs;
        total = refl;
        runs = refl;
      })

  module _ (objects : List (Object C)) (lanes : List (Stored C R)) (l : ℕ) (old new : Stored C R)
      (apart : AreApart objects lanes) (here : slice_get lanes l ≡ Some old) (run : Run)
      (object sent : Object C) (after : C × R)
      (at : slice_get objects run.object.0 ≡ Some object)
      (goes : lane_and_number sent ≡ Some (l, run.object.0))
      (from : (lane_and_number object ≡ None) ⊎ (lane_and_number object ≡ Some (l, run.object.0)))
      (has : HasRun old new run after) where
    abbrev o : ℕ
    o = run.object.0

    abbrev lanes_now : List (Stored C R)
    lanes_now = slice_set lanes l new

    abbrev objects_now : List (Object C)
    objects_now = slice_set objects o sent

    -- the values of all other objects stay
    other_in : (k n : ℕ) → (n ≡ o → ⊥) → value_in lanes_now k n ≡ value_in lanes k n
    other_in k n differs =
        ⊎_elim
        (λ e. ap (λ j. value_in lanes_now j n) e ∙ in_now lanes l old new here n
        ∙ has.others n differs ∙ sym (in_here lanes l old new here n)
        ∙ ap (λ j. value_in lanes j n) (sym e))
        (λ apart. in_other lanes l old new here k n apart)
        (cases_eq k l)

    other_value : (n : ℕ) (other : Object C) → slice_get objects n ≡ Some other →
        (n ≡ o → ⊥) → value_after lanes_now other ≡ value_after lanes other
    other_value n (Here value) there differs = refl
    other_value n (Shared shared) there differs = refl
    other_value n (Away lane number was) there differs =
        let same : number.0 ≡ n = apart.number n lane number.0 (ap found_in there) in
        ap (λ found. unwrap_or found was.value)
        (other_in lane number.0 (λ e. differs (sym same ∙ e)))

    pub values_put : map (value_after lanes_now) objects_now
        ≡ slice_set (map (value_after lanes) objects) o after.0
    values_put =
        map_one (value_after lanes) (value_after lanes_now) objects o sent other_value
        ∙ ap (λ v. slice_set (map (value_after lanes) objects) o v)
        (value_away lanes_now sent l o after.0 goes (in_now lanes l old new here o ∙ has.has))

    found_now : found_at objects_now o ≡ Some (l, o)
    found_now = ap found_in (get-set objects o object sent at) ∙ goes

    found_other : (n : ℕ) → (n ≡ o → ⊥) → found_at objects_now n ≡ found_at objects n
    found_other n differs = ap found_in (get-set_other objects o n sent differs)

    -- before, the object was at home or here
    was_here : (k : ℕ) → found_at objects o ≡ Some (k, o) → k ≡ l
    was_here k found =
        ⊎_elim
        (λ home. absurd (none-some _ (sym home ∙ (sym (ap found_in at) ∙ found))))
        (λ there. (some_pair_parts _ _ _ _ (sym found ∙ (ap found_in at ∙ there))).0)
        from

    number_now : (n k p : ℕ) → found_at objects_now n ≡ Some (k, p) → p ≡ n
    number_now n k p found =
        ⊎_elim
        (λ e. (some_pair_parts _ _ _ _
        (sym (ap (λ j. found_at objects_now j) (sym e) ∙ found) ∙ found_now)).1 ∙ sym e)
        (λ differs. apart.number n k p (sym (found_other n differs) ∙ found))
        (cases_eq n o)

    there_now : (n k p : ℕ) → found_at objects_now n ≡ Some (k, p) →
        is_some (value_in lanes_now k n) ≡ true
    there_now n k p found =
        ⊎_elim
        (λ e.
        let same = some_pair_parts _ _ _ _
        (sym (ap (λ j. found_at objects_now j) (sym e) ∙ found) ∙ found_now) in
        is_there (value_in lanes_now k n) after.0
        (ap (λ j. value_in lanes_now j n) same.0 ∙ ap (λ j. value_in lanes_now l j) e
        ∙ in_now lanes l old new here o ∙ has.has))
        (λ differs. ap (λ v. is_some v) (other_in k n differs)
        ∙ apart.there n k p (sym (found_other n differs) ∙ found))
        (cases_eq n o)

    only_now : (n k : ℕ) → is_some (value_in lanes_now k n) ≡ true →
        found_at objects_now n ≡ Some (k, n)
    only_now n k is =
        ⊎_elim
        (λ e.
        ⊎_elim
        (λ same. ap (λ j. found_at objects_now j) e ∙ found_now
        ∙ ap (λ j. Some (j, o)) (sym same) ∙ ap (λ j. Some (k, j)) (sym e))
        (λ differs.
        let was : found_at objects n ≡ Some (k, n) =
        apart.only n k (sym (ap (λ v. is_some v) (in_other lanes l old new here k n differs)) ∙ is) in
        absurd (differs (was_here k
        (ap (λ j. found_at objects j) (sym e) ∙ was ∙ ap (λ j. Some (k, j)) e))))
        (cases_eq k l))
        (λ differs. found_other n differs
        ∙ apart.only n k (sym (ap (λ v. is_some v) (other_in k n differs)) ∙ is))
        (cases_eq n o)

    pub apart_put : AreApart objects_now lanes_now
    apart_put = record { number = number_now; there = there_now; only = only_now }

    -- so the store comes to what the operation leaves
    pub state_put : (op : O) (read : Option C) (total : R) → ReducibleLaws m.unit m.join →
        after ≡ m.step (value_after lanes object) op read →
        state_from m objects_now total lanes_now
        ≡ operated m (state_from m objects total lanes) o op read
    state_put op read total laws is =
        ap (λ values. state_of values (total_after m total lanes_now)) values_put
        ∙ ap (λ sum. state_of (slice_set (map (value_after lanes) objects) o after.0) sum)
        (total_put m laws total after.1 lanes l old new here has.total)
        ∙ ap (λ (a : C × R). state_of (slice_set (map (value_after lanes) objects) o a.0)
        (m.join (total_after m total lanes) a.1)) is
        ∙ sym (ap (λ found. operated_on m (state_from m objects total lanes) o op read found)
        (value_here objects lanes o object at))

  -- an operation on an object at home
  pub state_operated : (objects : List (Object C)) (lanes : List (Stored C R)) (o : ℕ)
      (object : Object C) (op : O) (value after : C) (total sum : R) →
      ReducibleLaws m.unit m.join → slice_get objects o ≡ Some object →
      value_at_home object ≡ Some value → after ≡ (m.step value op None).0 →
      sum ≡ m.join total (m.step value op None).1 →
      state_from m (slice_set objects o (Here after)) sum lanes
      ≡ operated m (state_from m objects total lanes) o op None
  state_operated objects lanes o object op value after total sum laws at home after_is sum_is =
      ap (λ values. state_of values (total_after m sum lanes))
      (values_set objects lanes o (Here after) (m.step value op None).0 (ap Some after_is))
      ∙ ap (λ sum. state_of (slice_set (map (value_after lanes) objects) o (m.step value op None).0)
      (total_after m sum lanes)) sum_is
      ∙ ap (λ sum. state_of (slice_set (map (value_after lanes) objects) o (m.step value op None).0)
      sum) (total_more m laws total (m.step value op None).1 lanes)
      ∙ sym (ap (λ found. operated_on m (state_from m objects total lanes) o op None found)
      (value_here objects lanes o object at
      ∙ ap Some (value_home lanes object value home)))
