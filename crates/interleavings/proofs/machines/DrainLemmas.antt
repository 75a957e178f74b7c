-- What waits in lanes takes effect in whatever order the lanes are taken.
--
-- Where entries of different lanes have different objects, their effects can change places.
use Rattle.std.proofs.Common.{◌≡◌, ℕ, zero, suc, ◌+◌, ◌<◌, ◌≤◌, ◌≢◌, Option, Some, List, [], ◌∷◌, ◌++◌, length, refl, sym, ap, ◌∙◌, subst, arith}
use Rattle.std.specs.Prelude.{fold, slice_get, ⊤}
use Rattle.std.proofs.lemmas.List.Sums.{fold-append}
use Rattle.execution_definitions.specs.Meanings.{Meaning}
use Rattle.execution_definitions.specs.Sequential.{State, with_object, operated}
use Rattle.interleavings.specs.Machines.{Entry, front_at, behind_front, with_entry, without_front, entry_done, entries_done}
use Rattle.interleavings.proofs.programs.OperatedLemmas.{JoinsInAnyOrder, operated-length, slice_get-operated, operated-with_object, operations_commute}

-- ---- facts of each entry

module _ {A : Type 0} where
  -- each of a list has this
  abbrev pub EachEntry : (A → Type 0) → List A → Type 0
  EachEntry fact [] = ⊤
  EachEntry fact (entry ∷ rest) = fact entry × EachEntry fact rest

  -- each entry of each lane has this, where the first lane has this number
  abbrev pub EachLane : (ℕ → A → Type 0) → ℕ → List (List A) → Type 0
  EachLane fact first [] = ⊤
  EachLane fact first (entries ∷ lanes) =
      EachEntry (fact first) entries × EachLane fact (suc first) lanes

  pub each_entry-map : (P Q : A → Type 0) → ((a : A) → P a → Q a) → (entries : List A) →
      EachEntry P entries → EachEntry Q entries
  each_entry-map P Q step [] all = tt
  each_entry-map P Q step (entry ∷ rest) all =
      (step entry all.0, each_entry-map P Q step rest all.1)

  each_entry-push : (P : A → Type 0) (entries : List A) (entry : A) → EachEntry P entries →
      P entry → EachEntry P (entries ++ entry ∷ [])
  each_entry-push P [] entry all more = (more, tt)
  each_entry-push P (first ∷ rest) entry all more =
      (all.0, each_entry-push P rest entry all.1 more)

  -- what each entry of a lane has after the front is gone
  each_behind : (P : A → Type 0) (entries : List A) → EachEntry P entries →
      EachEntry P (behind_front entries)
  each_behind P [] all = tt
  each_behind P (entry ∷ rest) all = all.1

  pub each_lane-without_front : (P : ℕ → A → Type 0) (first lane : ℕ) (lanes : List (List A)) →
      EachLane P first lanes → EachLane P first (without_front lane lanes)
  each_lane-without_front P first zero [] all = tt
  each_lane-without_front P first (suc lane) [] all = tt
  each_lane-without_front P first zero (entries ∷ lanes) all =
      (each_behind (P first) entries all.0, all.1)
  each_lane-without_front P first (suc lane) (entries ∷ lanes) all =
      (all.0, each_lane-without_front P (suc first) lane lanes all.1)

  pub each_lane-with_entry : (P : ℕ → A → Type 0) (first lane : ℕ) (entry : A)
      (lanes : List (List A)) (number : ℕ) → number ≡ first + lane → EachLane P first lanes →
      P number entry → EachLane P first (with_entry lane entry lanes)
  each_lane-with_entry P first zero entry [] number is all more = tt
  each_lane-with_entry P first (suc lane) entry [] number is all more = tt
  each_lane-with_entry P first zero entry (entries ∷ lanes) number is all more =
      let here : number ≡ first = omega arith in
      (each_entry-push (P first) entries entry all.0 (subst (λ k. P k entry) here more), all.1)
  each_lane-with_entry P first (suc lane) entry (entries ∷ lanes) number is all more = (
    all.0,
    each_lane-with_entry P (suc first) lane entry lanes number (omega arith) all.1 more,
  )

  -- what each has is had by what is at a front
  pub each_lane-front : (P : ℕ → A → Type 0) (first lane : ℕ) (entry : A)
      (lanes : List (List A)) (number : ℕ) → number ≡ first + lane → EachLane P first lanes →
      front_at lanes lane ≡ Some entry → P number entry
  each_lane-front P first zero entry [] number at all is = absurd cc
  each_lane-front P first (suc lane) entry [] number at all is = absurd cc
  each_lane-front P first zero entry ([] ∷ lanes) number at all is = absurd cc
  each_lane-front P first zero entry ((front ∷ rest) ∷ lanes) number at all is =
      let same : front ≡ entry = cc in
      let here : first ≡ number = omega arith in
      subst (λ k. P k entry) here (subst (P first) same all.0.0)
  each_lane-front P first (suc lane) entry (entries ∷ lanes) number at all is =
      each_lane-front P (suc first) lane entry lanes number (omega arith) all.1 is

  pub length-with_entry : (lane : ℕ) (entry : A) (lanes : List (List A)) →
      length (with_entry lane entry lanes) ≡ length lanes
  length-with_entry zero entry [] = refl
  length-with_entry (suc lane) entry [] = refl
  length-with_entry zero entry (entries ∷ lanes) = refl
  length-with_entry (suc lane) entry (entries ∷ lanes) =
      ap suc (length-with_entry lane entry lanes)

  pub length-without_front : (lane : ℕ) (lanes : List (List A)) →
      length (without_front lane lanes) ≡ length lanes
  length-without_front zero [] = refl
  length-without_front (suc lane) [] = refl
  length-without_front zero (entries ∷ lanes) = refl
  length-without_front (suc lane) (entries ∷ lanes) =
      ap suc (length-without_front lane lanes)

-- without the lanes' numbers
pub each_lane-flat : {A : Type 0} (P : ℕ → A → Type 0) (Q : A → Type 0) →
    ((lane : ℕ) (a : A) → P lane a → Q a) → (first : ℕ) (lanes : List (List A)) →
    EachLane P first lanes → EachEntry (EachEntry Q) lanes
each_lane-flat P Q step first [] all = tt
each_lane-flat P Q step first (entries ∷ lanes) all = (
  each_entry-map (P first) Q (step first) entries all.0,
  each_lane-flat P Q step (suc first) lanes all.1,
)

-- ---- entries on other objects

module _ {C O : Type 0} where
  -- the entry's object is another than this
  abbrev pub IsElsewhere : ℕ → Entry C O → Type 0
  IsElsewhere object entry = object ≢ entry.run.object.0

  abbrev pub AreElsewhere : ℕ → List (List (Entry C O)) → Type 0
  AreElsewhere object lanes =
      EachEntry {A = List (Entry C O)} (EachEntry (IsElsewhere object)) lanes

  -- in the lanes before one
  abbrev pub ElsewhereBefore : ℕ → ℕ → List (List (Entry C O)) → Type 0
  ElsewhereBefore object zero lanes = ⊤
  ElsewhereBefore object (suc lane) [] = ⊤
  ElsewhereBefore object (suc lane) (entries ∷ lanes) =
      EachEntry (IsElsewhere object) entries × ElsewhereBefore object lane lanes

  -- in the lanes behind one
  abbrev pub ElsewhereBehind : ℕ → ℕ → List (List (Entry C O)) → Type 0
  ElsewhereBehind object zero [] = ⊤
  ElsewhereBehind object (suc lane) [] = ⊤
  ElsewhereBehind object zero (entries ∷ lanes) = AreElsewhere object lanes
  ElsewhereBehind object (suc lane) (entries ∷ lanes) = ElsewhereBehind object lane lanes

  -- the entry's object is one of so many
  abbrev pub IsWithinCount : ℕ → Entry C O → Type 0
  IsWithinCount count entry = entry.run.object.0 < count

module _ {C O R : Type 0} (m : Meaning C O R) where
  entries_done-length : (state : State C R) (entries : List (Entry C O)) →
      length (entries_done m state entries).values ≡ length state.values
  entries_done-length state [] = refl
  entries_done-length state (e ∷ rest) =
      entries_done-length (entry_done m state e) rest
      ∙ operated-length m state e.run.object.0 e.op e.read

  -- what waits makes no object
  pub lanes_done-length : (state : State C R) (lanes : List (List (Entry C O))) →
      length (fold (entries_done m) state lanes).values ≡ length state.values
  lanes_done-length state [] = refl
  lanes_done-length state (entries ∷ lanes) =
      lanes_done-length (entries_done m state entries) lanes ∙ entries_done-length state entries

  slice_get-entries_done : (state : State C R) (entries : List (Entry C O)) (object : ℕ) →
      EachEntry (IsElsewhere object) entries →
      slice_get (entries_done m state entries).values object ≡ slice_get state.values object
  slice_get-entries_done state [] object apart = refl
  slice_get-entries_done state (e ∷ rest) object apart =
      slice_get-entries_done (entry_done m state e) rest object apart.1
      ∙ slice_get-operated m state e.run.object.0 e.op e.read object (λ same. apart.0 (sym same))

  -- nor does it change an object for which nothing waits
  pub slice_get-lanes_done : (state : State C R) (lanes : List (List (Entry C O))) (object : ℕ) →
      AreElsewhere object lanes →
      slice_get (fold (entries_done m) state lanes).values object ≡ slice_get state.values object
  slice_get-lanes_done state [] object apart = refl
  slice_get-lanes_done state (entries ∷ lanes) object apart =
      slice_get-lanes_done (entries_done m state entries) lanes object apart.1
      ∙ slice_get-entries_done state entries object apart.0

  -- where nothing waits nothing changes
  pub nothing_done : (state : State C R) (lanes : List (List (Entry C O))) →
      EachEntry {A = List (Entry C O)} (EachEntry (λ entry. ⊥)) lanes →
      fold (entries_done m) state lanes ≡ state
  nothing_done state [] none = refl
  nothing_done state ([] ∷ lanes) none = nothing_done state lanes none.1
  nothing_done state ((e ∷ rest) ∷ lanes) none = absurd none.0.0

  entries_done-with_object : (state : State C R) (new : C) (count : ℕ)
      (entries : List (Entry C O)) → count ≤ length state.values →
      EachEntry (IsWithinCount count) entries →
      entries_done m (with_object state new) entries
      ≡ with_object (entries_done m state entries) new
  entries_done-with_object state new count [] most inside = refl
  entries_done-with_object state new count (e ∷ rest) most inside =
      let here : e.run.object.0 < count = inside.0 in
      let same = operated-length m state e.run.object.0 e.op e.read in
      ap (λ s. entries_done m s rest)
      (operated-with_object m state e.run.object.0 e.op e.read new (omega arith))
      ∙ entries_done-with_object (entry_done m state e) new count rest (omega arith) inside.1

  -- what waits, and an object that is made
  pub lanes_done-with_object : (state : State C R) (new : C) (count : ℕ)
      (lanes : List (List (Entry C O))) → count ≤ length state.values →
      EachEntry {A = List (Entry C O)} (EachEntry (IsWithinCount count)) lanes →
      fold (entries_done m) (with_object state new) lanes
      ≡ with_object (fold (entries_done m) state lanes) new
  lanes_done-with_object state new count [] most inside = refl
  lanes_done-with_object state new count (entries ∷ lanes) most inside =
      let same = entries_done-length state entries in
      ap (λ s. fold (entries_done m) s lanes)
      (entries_done-with_object state new count entries most inside.0)
      ∙ lanes_done-with_object (entries_done m state entries) new count lanes (omega arith)
      inside.1

  module _ (any_order : JoinsInAnyOrder m) where
    passes_entries : (state : State C R) (object : ℕ) (op : O) (read : Option C)
        (entries : List (Entry C O)) → EachEntry (IsElsewhere object) entries →
        entries_done m (operated m state object op read) entries
        ≡ operated m (entries_done m state entries) object op read
    passes_entries state object op read [] apart = refl
    passes_entries state object op read (e ∷ rest) apart =
        ap (λ s. entries_done m s rest)
        (operations_commute m any_order state object e.run.object.0 op e.op read e.read apart.0)
        ∙ passes_entries (entry_done m state e) object op read rest apart.1

    -- an operation passes what waits for other objects
    pub passes_lanes : (state : State C R) (object : ℕ) (op : O) (read : Option C)
        (lanes : List (List (Entry C O))) → AreElsewhere object lanes →
        fold (entries_done m) (operated m state object op read) lanes
        ≡ operated m (fold (entries_done m) state lanes) object op read
    passes_lanes state object op read [] apart = refl
    passes_lanes state object op read (entries ∷ lanes) apart =
        ap (λ s. fold (entries_done m) s lanes)
        (passes_entries state object op read entries apart.0)
        ∙ passes_lanes (entries_done m state entries) object op read lanes apart.1

    -- a lane's front may be taken first
    pub front_first : (state : State C R) (lanes : List (List (Entry C O))) (lane : ℕ)
        (entry : Entry C O) → front_at lanes lane ≡ Some entry →
        ElsewhereBefore entry.run.object.0 lane lanes →
        fold (entries_done m) (entry_done m state entry) (without_front lane lanes)
        ≡ fold (entries_done m) state lanes
    front_first state [] zero entry is apart = absurd cc
    front_first state [] (suc lane) entry is apart = absurd cc
    front_first state ([] ∷ lanes) zero entry is apart = absurd cc
    front_first state ((front ∷ rest) ∷ lanes) zero entry is apart =
        let same : entry ≡ front = cc in
        ap (λ (e : Entry C O). fold (entries_done m)
        (entries_done m (entry_done m state e) rest) lanes) same
    front_first state (entries ∷ lanes) (suc lane) entry is apart =
        ap (λ s. fold (entries_done m) s (without_front lane lanes))
        (passes_entries state entry.run.object.0 entry.op entry.read entries apart.0)
        ∙ front_first (entries_done m state entries) lanes lane entry is apart.1

    -- what comes to the end of a lane may be taken last
    pub entry_last : (state : State C R) (lanes : List (List (Entry C O))) (lane : ℕ)
        (entry : Entry C O) → lane < length lanes →
        ElsewhereBehind entry.run.object.0 lane lanes →
        fold (entries_done m) state (with_entry lane entry lanes)
        ≡ entry_done m (fold (entries_done m) state lanes) entry
    entry_last state [] lane entry inside apart = absurd (omega arith)
    entry_last state (entries ∷ lanes) zero entry inside apart =
        ap (λ s. fold (entries_done m) s lanes)
        (fold-append (entry_done m) state entries (entry ∷ []))
        ∙ passes_lanes (entries_done m state entries) entry.run.object.0 entry.op entry.read lanes
        apart
    entry_last state (entries ∷ lanes) (suc lane) entry inside apart =
        entry_last (entries_done m state entries) lanes lane entry (omega arith) apart
