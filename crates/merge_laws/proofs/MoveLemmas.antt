-- A delegation moves before calls that it is apart from.
use Rattle.std.proofs.Common.{◌≡◌, ℕ, ◌<◌, ◌≤◌, ◌≢◌, Option, Some, None, List, [], ◌∷◌, ◌++◌, length, refl, sym, ap, ◌∙◌, arith}
use Rattle.std.specs.Prelude.{slice_get, fold, ⊤}
use Rattle.ss_base.specs.declared.ids.ObjectId.{ObjectId}
use Rattle.execution_definitions.specs.declared.call.Call.{Call}
use Rattle.execution_definitions.specs.declared.call.Call.TheVariants.{Make, MakeFixed, Begin, Delegate, Write, Get, End, Total}
use Rattle.execution_definitions.specs.Meanings.{Meaning}
use Rattle.execution_definitions.specs.Sequential.{State, value_read, with_object, operated, state_after}
use Rattle.interleavings.specs.Merges.{state_after_some, state_after_place}
use Rattle.execution_definitions.proofs.lists.ListLemmas.{slice_get-front}
use Rattle.interleavings.proofs.programs.ObjectsLemmas.{objects_grow}
use Rattle.interleavings.proofs.programs.OperatedLemmas.{IsOther, JoinsInAnyOrder, value_read-operated, operated-with_object, operations_commute}

module _ {C O : Type 0} where
  -- a call that can change places with a delegation to an object that reads another or none
  abbrev pub IsApart : ObjectId → Option ObjectId → Call C O → Type 0
  IsApart object reading (Delegate o op r) =
      (object.0 ≢ o.0) × IsOther object.0 r × IsOther o.0 reading
  IsApart object reading (Write o op) = (object.0 ≢ o.0) × IsOther o.0 reading
  IsApart object reading _ = ⊤

  abbrev pub IsApartSome : ObjectId → Option ObjectId → Option (Call C O) → Type 0
  IsApartSome object reading None = ⊤
  IsApartSome object reading (Some call) = IsApart object reading call

  -- the calls at all these places are such
  abbrev pub AreApart : List (Call C O) → ObjectId → Option ObjectId → List ℕ → Type 0
  AreApart calls object reading [] = ⊤
  AreApart calls object reading (place ∷ places) =
      IsApartSome object reading (slice_get calls place) × AreApart calls object reading places

-- what is read is one of so many objects, or nothing
abbrev pub ReadsWithin : ℕ → Option ObjectId → Type 0
ReadsWithin count None = ⊤
ReadsWithin count (Some read) = read.0 < count

reads_more : (few many : ℕ) (reading : Option ObjectId) → few ≤ many → ReadsWithin few reading →
    ReadsWithin many reading
reads_more few many None more within = tt
reads_more few many (Some read) more within = omega arith

module _ {C O R : Type 0} (m : Meaning C O R) where
  pub objects_grow_some : (state : State C R) (call : Option (Call C O)) →
      length state.values ≤ length (state_after_some m state call).values
  objects_grow_some state None = omega arith
  objects_grow_some state (Some call) = objects_grow m state call

  value_read-with_object : (values : List C) (new : C) (reading : Option ObjectId) →
      ReadsWithin (length values) reading →
      value_read (values ++ new ∷ []) reading ≡ value_read values reading
  value_read-with_object values new None within = refl
  value_read-with_object values new (Some read) within =
      slice_get-front values (new ∷ []) read.0 within

  make_commutes : (state : State C R) (object : ObjectId) (op : O) (reading : Option ObjectId)
      (new : C) → object.0 < length state.values → ReadsWithin (length state.values) reading →
      operated m (with_object state new) object.0 op
      (value_read (with_object state new).values reading)
      ≡ with_object (operated m state object.0 op (value_read state.values reading)) new
  make_commutes state object op reading new inside within =
      ap (operated m (with_object state new) object.0 op)
      (value_read-with_object state.values new reading within)
      ∙ operated-with_object m state object.0 op (value_read state.values reading) new inside

  -- two operations on different objects, neither of which reads the other's
  readers_commute : JoinsInAnyOrder m → (state : State C R) (a b : ℕ) (p q : O)
      (r s : Option ObjectId) → a ≢ b → IsOther a s → IsOther b r →
      (let first = operated m state a p (value_read state.values r) in
      operated m first b q (value_read first.values s))
      ≡ (let second = operated m state b q (value_read state.values s) in
      operated m second a p (value_read second.values r))
  readers_commute any_order state a b p q r s apart a_unread b_unread =
      let read_a = value_read state.values r in
      let read_b = value_read state.values s in
      ap (operated m (operated m state a p read_a) b q)
      (value_read-operated m state a p read_a s a_unread)
      ∙ operations_commute m any_order state a b p q read_a read_b apart
      ∙ sym (ap (operated m (operated m state b q read_b) a p)
      (value_read-operated m state b q read_b r b_unread))

  module _ (any_order : JoinsInAnyOrder m) (object : ObjectId) (op : O)
      (reading : Option ObjectId) where
    -- the delegation, and a call that it is apart from
    pub apart_commutes : (state : State C R) (call : Call C O) →
        object.0 < length state.values → ReadsWithin (length state.values) reading →
        IsApart object reading call →
        state_after m (state_after m state call) (Delegate object op reading)
        ≡ state_after m (state_after m state (Delegate object op reading)) call
    apart_commutes state (Make value by) inside within apart =
        make_commutes state object op reading value inside within
    apart_commutes state (MakeFixed value) inside within apart =
        make_commutes state object op reading value inside within
    apart_commutes state Begin inside within apart = refl
    apart_commutes state (Delegate o p r) inside within apart =
        readers_commute any_order state o.0 object.0 p op r reading
        (λ e. apart.0 (sym e)) apart.2 apart.1
    apart_commutes state (Write o p) inside within apart =
        readers_commute any_order state o.0 object.0 p op None reading
        (λ e. apart.0 (sym e)) apart.1 tt
    apart_commutes state (Get o) inside within apart = refl
    apart_commutes state End inside within apart = refl
    apart_commutes state Total inside within apart = refl

    apart_commutes_some : (state : State C R) (call : Option (Call C O)) →
        object.0 < length state.values → ReadsWithin (length state.values) reading →
        IsApartSome object reading call →
        state_after m (state_after_some m state call) (Delegate object op reading)
        ≡ state_after_some m (state_after m state (Delegate object op reading)) call
    apart_commutes_some state None inside within apart = refl
    apart_commutes_some state (Some call) inside within apart =
        apart_commutes state call inside within apart

    -- the delegation at a place moves before all places that it is apart from
    pub delegation_moves : (calls : List (Call C O)) (place : ℕ) (front rest : List ℕ)
        (state : State C R) → slice_get calls place ≡ Some (Delegate object op reading) →
        object.0 < length state.values → ReadsWithin (length state.values) reading →
        AreApart calls object reading front →
        fold (state_after_place m calls) state (front ++ place ∷ rest)
        ≡ fold (state_after_place m calls)
        (state_after m state (Delegate object op reading)) (front ++ rest)
    delegation_moves calls place [] rest state is inside within apart =
        ap (λ (call : Option (Call C O)). fold (state_after_place m calls)
        (state_after_some m state call) rest) is
    delegation_moves calls place (first ∷ front) rest state is inside within apart =
        let next = state_after_place m calls state first in
        let more = objects_grow_some state (slice_get calls first) in
        delegation_moves calls place front rest next is (omega arith)
        (reads_more (length state.values) (length next.values) reading more within) apart.1
        ∙ ap (λ s. fold (state_after_place m calls) s (front ++ rest))
        (apart_commutes_some state (slice_get calls first) inside within apart.0)
