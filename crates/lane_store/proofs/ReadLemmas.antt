-- What an operation reads is at home when it was sent.
use Rattle.std.proofs.Common.{◌≡◌, ℕ, zero, suc, ◌<◌, Option, Some, None, List, [], ◌∷◌, map, length, refl, sym, ap, ◌∙◌, arith}
use Rattle.std.specs.Prelude.{slice_get}
use Rattle.std.specs.Option.{option_map}
use Rattle.std.proofs.lemmas.Option.{none-some, slice_get-map}
use Rattle.ss_base.specs.declared.ids.ObjectId.{ObjectId}
use Rattle.ss_base.specs.declared.ids.Run.{Run}
use Rattle.execution_definitions.specs.Meanings.{Meaning}
use Rattle.execution_definitions.specs.Sequential.{State, value_read, operated, operated_on}
use Rattle.interleavings.proofs.programs.OperatedLemmas.{slice_get-set_other}
use Rattle.delegates.specs.declared.home.Home.{Home}
use Rattle.lane_objects.specs.declared.object.Object.{Object}
use Rattle.lane_objects.specs.declared.object.Object.TheVariants.{Here, Shared, Away}
use Rattle.lane_objects.specs.Objects.{value_at_home, lane_and_number, found_in, found_at}
use Rattle.lane_objects.specs.Outcomes.{value_after}
use Rattle.lane_store.specs.declared.store.LaneStore.{LaneStore}
use Rattle.lane_store.specs.LaneStores.{stores_of, store_state, Continues, Sends, HasAll}
use Rattle.lane_store.specs.Running.{IsReadAtHome, ReadsAtHome}
use Rattle.lane_store.proofs.ComeLemmas.{value_at}

within_some : {A : Type 0} (xs : List A) (i : ℕ) → i < length xs → (x : A) × (slice_get xs i ≡ Some x)
within_some [] i within = absurd (omega (arith, within))
within_some (x ∷ xs) zero within = (x, refl)
within_some (x ∷ xs) (suc i) within = within_some xs i (omega (arith, within))

module _ {C W O R : Type 0} (m : Meaning C O R) (home_of : W → Home C O R) where
  -- the value of an object at home
  record HasHome (store : LaneStore C W O R) (object : Object C) : Type 0 where
    value : C
    is : value_at_home object ≡ Some value
    after : value_after (stores_of m home_of store.ends.items) object ≡ value

  has_home : (store : LaneStore C W O R) (object : Object C) → lane_and_number object ≡ None →
      HasHome store object
  has_home store (Here value) home = record { value = value; is = refl; after = refl }
  has_home store (Shared shared) home = record { value = _; is = refl; after = refl }
  has_home store (Away lane number was) home = absurd cc

  -- an operation on another object leaves a value as it is
  other_stays : (state : State C R) (own n : ℕ) (op : O) (read : Option C) → (n ≡ own → ⊥) →
      slice_get (operated m state own op read).values n ≡ slice_get state.values n
  other_stays state own n op read differs = by (slice_get state.values own) where
    by : (found : Option C) →
        slice_get (operated_on m state own op read found).values n ≡ slice_get state.values n
    by None = refl
    by (Some value) = slice_get-set_other state.values own n (m.step value op read).0
        (λ same. differs (sym same))

  home_still : (store mid now : LaneStore C W O R) (l : ℕ) (run : Run) (op : O) (read : Option C) →
      Sends m home_of mid now l run op read → (n : ℕ) → (n ≡ run.object.0 → ⊥) →
      found_at mid.objects.items n ≡ None → found_at now.objects.items n ≡ None
  home_still store mid now l run op read sends n differs home =
      by (found_at now.objects.items n) refl
    where
      by : (found : Option (ℕ × ℕ)) → found_at now.objects.items n ≡ found →
          found_at now.objects.items n ≡ None
      by None is = is
      by (Some place) is = absurd (none-some place
          (sym home ∙ sends.others n place.0 place.1 differs is))

  pub reads_home : (store mid now : LaneStore C W O R) (l : ℕ) (run : Run) (op : O)
      (read : Option C) (reading : Option ObjectId) → Continues m home_of store mid →
      Sends m home_of mid now l run op read → HasAll (length store.objects.items) reading →
      ((object : ObjectId) → reading ≡ Some object → found_at mid.objects.items object.0 ≡ None) →
      ReadsAtHome now.objects.items run.object.0 reading
      (value_read (store_state m home_of store).values reading)
  reads_home store mid now l run op read None on sends known home = refl
  reads_home store mid now l run op read (Some object) on sends known home = λ differs.
      let objects = now.objects.items in
      let n = object.0 in
      let more = sends.objects ∙ on.objects in
      let there = within_some objects n (omega (arith, known, more)) in
      let at_home = sym (ap found_in there.1)
      ∙ home_still store mid now l run op read sends n differs (home object refl) in
      let has = has_home now there.0 at_home in
      record {
        value = has.value;
        home = value_at m home_of objects n there.0 there.1 ∙ ap Some has.is;
        is = sym (sym (ap Some has.after)
            ∙ sym (slice_get-map (value_after (stores_of m home_of now.ends.items)) objects n
            ∙ ap (option_map (value_after (stores_of m home_of now.ends.items))) there.1)
            ∙ ap (λ (s : State C R). slice_get s.values n) sends.state
            ∙ other_stays (store_state m home_of mid) run.object.0 n op read differs
            ∙ ap (λ (s : State C R). slice_get s.values n) on.state);
      }
