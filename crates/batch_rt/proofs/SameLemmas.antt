-- Lanes that come to the same, one by one.
use Rattle.std.proofs.Common.{◌≡◌, ℕ, zero, suc, Some, Bool, true, false, ◌&&◌, List, [], ◌∷◌, map, length, refl, sym, ap, ◌∙◌, subst, get_or, arith}
use Rattle.std.specs.Prelude.{slice_get, slice_set, not}
use Rattle.std.specs.List.{list_all}
use Rattle.std.proofs.lemmas.Option.{none-some, same_Some}
use Rattle.ss_base.specs.declared.ids.Run.{Run}
use Rattle.execution_definitions.specs.Meanings.{Meaning}
use Rattle.jobs.specs.Jobs.{EachGives}
use Rattle.batch_rt.specs.declared.lane.Lane.{Lane}
use Rattle.batch_rt.specs.declared.object.Object.{Object}
use Rattle.batch_rt.specs.declared.object.Object.TheVariants.{Here, Shared, Sent}
use Rattle.batch_rt.specs.Lanes.{load_of, lane_runs, IsFit, HasWorked, Works}
use Rattle.batch_rt.specs.Stores.{sent_runs, value_in, value_after, state_from, with_part, with_lane, total_after, lane_numbers, Each, IsWhole}
use Rattle.batch_rt.proofs.ListLemmas.{map_same}
use Rattle.batch_rt.proofs.StoreLemmas.{whole_by_numbers}

not_broken : (broken rest : Bool) → (not broken && rest) ≡ true →
    (broken ≡ false) × (rest ≡ true)
not_broken true rest is = absurd cc
not_broken false rest is = (refl, is)

module _ {C O R : Type 0} (m : Meaning C O R) where
  -- a lane comes to the same, with the same objects
  pub record IsSame (old new : Lane C O R) : Type 0 where
    pub load : load_of m new ≡ load_of m old
    pub runs : lane_runs new ≡ lane_runs old
    pub numbers : new.numbers.items ≡ old.numbers.items
    pub fit : IsFit new

  -- lanes come to the same, one by one
  abbrev pub AreSame : List (Lane C O R) → List (Lane C O R) → Type 0
  AreSame [] [] = Unit {0}
  AreSame [] (new ∷ news) = ⊥
  AreSame (old ∷ olds) [] = ⊥
  AreSame (old ∷ olds) (new ∷ news) = IsSame old new × AreSame olds news

  same_self : (lane : Lane C O R) → IsFit lane → IsSame lane lane
  same_self lane fit = record { load = refl; runs = refl; numbers = refl; fit = fit }

  pub all_same_self : (lanes : List (Lane C O R)) → Each IsFit lanes → AreSame lanes lanes
  all_same_self [] fit = tt
  all_same_self (lane ∷ lanes) fit =
      (same_self lane (fit 0 lane refl), all_same_self lanes (λ n lane at. fit (suc n) lane at))

  -- a lane that ran
  pub same_run : (old new : Lane C O R) → IsFit old → HasWorked m old new → IsSame old new
  same_run old new fit run = record {
    load = run.load;
    runs = run.runs;
    numbers = run.numbers;
    fit = record {
      numbered = run.count ∙ fit.numbered ∙ sym (ap length run.numbers);
      placed = λ k entry at.
          absurd (none-some entry (subst (λ entries. slice_get entries k ≡ Some entry) run.done at));
    };
  }

  pub all_same_set : (lanes : List (Lane C O R)) (l : ℕ) (old new : Lane C O R) →
      Each IsFit lanes → slice_get lanes l ≡ Some old → IsSame old new →
      AreSame lanes (slice_set lanes l new)
  all_same_set [] l old new fit here same = tt
  all_same_set (lane ∷ lanes) zero old new fit here same = (
    subst (λ lane. IsSame lane new) (sym (same_Some _ _ here)) same,
    all_same_self lanes (λ n lane at. fit (suc n) lane at),
  )
  all_same_set (lane ∷ lanes) (suc l) old new fit here same = (
    same_self lane (fit 0 lane refl),
    all_same_set lanes l old new (λ n lane at. fit (suc n) lane at) here same,
  )

  done_cons : (new : Lane C O R) (news : List (Lane C O R)) → new.pending.items ≡ [] →
      Each (λ lane. lane.pending.items ≡ []) news →
      Each (λ lane. lane.pending.items ≡ []) (new ∷ news)
  done_cons new news done rest zero lane at =
      subst (λ lane. lane.pending.items ≡ []) (same_Some _ _ at) done
  done_cons new news done rest (suc n) lane at = rest n lane at

  -- lanes that ran, none of which broke
  pub all_same_run : (lanes news : List (Lane C O R)) → Each IsFit lanes →
      EachGives (Works m) lanes news → Each (λ lane. lane.is_broken ≡ false) news →
      AreSame lanes news × Each (λ lane. lane.pending.items ≡ []) news
  all_same_run [] [] fit gives whole = (tt, λ n lane at. absurd cc)
  all_same_run [] (new ∷ news) fit gives whole = absurd (omega (arith, gives.count))
  all_same_run (lane ∷ lanes) [] fit gives whole = absurd (omega (arith, gives.count))
  all_same_run (lane ∷ lanes) (new ∷ news) fit gives whole =
      let ran : HasWorked m lane new = gives.each 0 lane (omega arith) (whole 0 new refl) in
      let rest = all_same_run lanes news (λ n lane at. fit (suc n) lane at)
      (record {
        count = omega (arith, gives.count);
        each = λ i d below. gives.each (suc i) d (omega (arith, below));
      })
      (λ n lane at. whole (suc n) lane at) in (
        (same_run lane new (fit 0 lane refl) ran, rest.0),
        done_cons new news ran.done rest.1,
      )

  pub same_count : (lanes news : List (Lane C O R)) → AreSame lanes news →
      length news ≡ length lanes
  same_count [] [] same = refl
  same_count [] (new ∷ news) same = absurd same
  same_count (lane ∷ lanes) [] same = absurd same
  same_count (lane ∷ lanes) (new ∷ news) same =
      let rest = same_count lanes news same.1 in omega (arith, rest)

  pub same_total : (total : R) (lanes news : List (Lane C O R)) → AreSame lanes news →
      total_after m total news ≡ total_after m total lanes
  same_total total [] [] same = refl
  same_total total [] (new ∷ news) same = absurd same
  same_total total (lane ∷ lanes) [] same = absurd same
  same_total total (lane ∷ lanes) (new ∷ news) same =
      ap (λ load. total_after m (with_part m total load.part) news) same.0.load
      ∙ same_total (with_lane m total lane) lanes news same.1

  pub same_sent : (logs : List (List Run)) (lanes news : List (Lane C O R)) →
      AreSame lanes news → sent_runs logs news ≡ sent_runs logs lanes
  same_sent [] [] [] same = refl
  same_sent [] [] (new ∷ news) same = absurd same
  same_sent [] (lane ∷ lanes) [] same = absurd same
  same_sent [] (lane ∷ lanes) (new ∷ news) same = refl
  same_sent (log ∷ logs) [] [] same = refl
  same_sent (log ∷ logs) [] (new ∷ news) same = absurd same
  same_sent (log ∷ logs) (lane ∷ lanes) [] same = absurd same
  same_sent (log ∷ logs) (lane ∷ lanes) (new ∷ news) same =
      rw (same.0.runs, same_sent logs lanes news same.1) refl

  same_value : (lanes news : List (Lane C O R)) → AreSame lanes news →
      (n place : ℕ) (none : C) →
      value_in m (slice_get news n) place none ≡ value_in m (slice_get lanes n) place none
  same_value [] [] same n place none = refl
  same_value [] (new ∷ news) same n place none = absurd same
  same_value (lane ∷ lanes) [] same n place none = absurd same
  same_value (lane ∷ lanes) (new ∷ news) same zero place none =
      ap (λ load. get_or load.values place none) same.0.load
  same_value (lane ∷ lanes) (new ∷ news) same (suc n) place none =
      same_value lanes news same.1 n place none

  same_value_after : (lanes news : List (Lane C O R)) → AreSame lanes news →
      (object : Object C) → value_after m news object ≡ value_after m lanes object
  same_value_after lanes news same (Here value) = refl
  same_value_after lanes news same (Shared shared) = refl
  same_value_after lanes news same (Sent lane place was) =
      same_value lanes news same lane place was.value

  same_numbers : (lanes news : List (Lane C O R)) → AreSame lanes news → (n : ℕ) →
      lane_numbers news n ≡ lane_numbers lanes n
  same_numbers [] [] same n = refl
  same_numbers [] (new ∷ news) same n = absurd same
  same_numbers (lane ∷ lanes) [] same n = absurd same
  same_numbers (lane ∷ lanes) (new ∷ news) same zero =
      ap (λ numbers. map (λ number. number.0) numbers) same.0.numbers
  same_numbers (lane ∷ lanes) (new ∷ news) same (suc n) = same_numbers lanes news same.1 n

  same_fit : (lanes news : List (Lane C O R)) → AreSame lanes news → Each IsFit news
  same_fit lanes [] same n lane at = absurd cc
  same_fit [] (new ∷ news) same n lane at = absurd same
  same_fit (first ∷ lanes) (new ∷ news) same zero lane at =
      subst IsFit (same_Some _ _ at) same.0.fit
  same_fit (first ∷ lanes) (new ∷ news) same (suc n) lane at =
      same_fit lanes news same.1 n lane at

  pub same_whole : (objects : List (Object C)) (lanes news : List (Lane C O R)) →
      IsWhole objects lanes → AreSame lanes news → IsWhole objects news
  same_whole objects lanes news whole same =
      whole_by_numbers objects lanes news whole (same_numbers lanes news same)
      (same_fit lanes news same)

  -- so the store comes to the same
  pub same_state : (objects : List (Object C)) (total : R) (lanes news : List (Lane C O R)) →
      AreSame lanes news → state_from m objects total news ≡ state_from m objects total lanes
  same_state objects total lanes news same =
      rw (
        map_same (value_after m lanes) (value_after m news) objects
            (λ n object at. same_value_after lanes news same object),
        same_total total lanes news same,
      ) refl

  pub whole_each : (lanes : List (Lane C O R)) →
      list_all (λ lane. not lane.is_broken) lanes ≡ true →
      Each (λ lane. lane.is_broken ≡ false) lanes
  whole_each [] all n lane at = absurd cc
  whole_each (first ∷ lanes) all zero lane at =
      subst (λ lane. lane.is_broken ≡ false) (same_Some _ _ at)
      (not_broken first.is_broken (list_all (λ lane. not lane.is_broken) lanes) all).0
  whole_each (first ∷ lanes) all (suc n) lane at =
      whole_each lanes
      (not_broken first.is_broken (list_all (λ lane. not lane.is_broken) lanes) all).1 n lane at
