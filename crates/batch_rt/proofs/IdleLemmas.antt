-- Lanes with nothing in them.
use Rattle.std.proofs.Common.{◌≡◌, ℕ, zero, suc, ◌<◌, true, Option, Some, None, is_none, List, [], ◌∷◌, ◌++◌, map, length, refl, sym, ap, ◌∙◌, append-nil, arith}
use Rattle.std.specs.Prelude.{slice_get}
use Rattle.std.proofs.lemmas.List.{nil_from_length}
use Rattle.std.proofs.lemmas.Option.{none-some, some_pair_parts}
use Rattle.ss_base.specs.declared.ids.Run.{Run}
use Rattle.execution_definitions.specs.Meanings.{Meaning}
use Rattle.batch_rt.specs.declared.object.Object.{Object}
use Rattle.batch_rt.specs.declared.lane.Lane.{Lane}
use Rattle.batch_rt.specs.Lanes.{load_of, load_from, after_entries, lane_runs, IsFit, IsIdle}
use Rattle.batch_rt.specs.Stores.{sent_runs, with_part, total_after, numbers_in, lane_numbers, found_at, Each, IsWhole, IsIdleAt, NoneSent}

none_from : {A : Type 0} (part : Option A) → is_none part ≡ true → part ≡ None
none_from None is = refl
none_from (Some x) is = absurd cc

module _ {C O R : Type 0} where
  pub idle_runs : (lane : Lane C O R) → IsIdle lane → lane_runs lane ≡ []
  idle_runs lane idle =
      ap (λ runs. runs ++ map (λ entry. entry.run) lane.pending.items)
      (nil_from_length lane.ran.items idle.ran)
      ∙ ap (λ entries. map (λ entry. entry.run) entries)
      (nil_from_length lane.pending.items idle.pending)

  pub idle_fit : (lane : Lane C O R) → IsIdle lane → IsFit lane
  idle_fit lane idle = record {
    numbered = idle.values ∙ sym idle.numbers;
    placed = λ k entry at. absurd (none-some entry
        (ap (λ entries. slice_get entries k) (sym (nil_from_length lane.pending.items idle.pending))
        ∙ at));
  }

  -- all that was sent to idle lanes is in their logs
  pub idle_sent : (logs : List (List Run)) (lanes : List (Lane C O R)) → Each IsIdle lanes →
      length logs ≡ length lanes → sent_runs logs lanes ≡ logs
  idle_sent [] lanes idle count = refl
  idle_sent (log ∷ logs) [] idle count = absurd (omega (arith, count))
  idle_sent (log ∷ logs) (lane ∷ lanes) idle count =
      ap (λ runs. (log ++ runs) ∷ sent_runs logs lanes) (idle_runs lane (idle 0 lane refl))
      ∙ ap (λ first. first ∷ sent_runs logs lanes) (append-nil log)
      ∙ ap (λ rest. log ∷ rest)
      (idle_sent logs lanes (λ n lane at. idle (suc n) lane at) (omega (arith, count)))

  -- one lane that is idle has done all that was sent to it
  pub idle_caught_up : (logs : List (List Run)) (lanes : List (Lane C O R)) (l : ℕ) →
      length logs ≡ length lanes → IsIdleAt l lanes →
      slice_get logs l ≡ slice_get (sent_runs logs lanes) l
  idle_caught_up [] lanes l count idle = refl
  idle_caught_up (log ∷ logs) [] l count idle = absurd (omega (arith, count))
  idle_caught_up (log ∷ logs) (lane ∷ lanes) zero count idle =
      ap Some (sym (ap (λ runs. log ++ runs) (idle_runs lane (idle lane refl)) ∙ append-nil log))
  idle_caught_up (log ∷ logs) (lane ∷ lanes) (suc l) count idle =
      idle_caught_up logs lanes l (omega (arith, count)) idle

  no_numbers : (lane : Option (Lane C O R)) → ((found : Lane C O R) → lane ≡ Some found →
      IsIdle found) → numbers_in lane ≡ []
  no_numbers None idle = refl
  no_numbers (Some lane) idle =
      ap (λ numbers. map (λ number. number.0) numbers)
      (nil_from_length lane.numbers.items (idle lane refl).numbers)

  idle_numbers : (lanes : List (Lane C O R)) → Each IsIdle lanes → (n : ℕ) →
      lane_numbers lanes n ≡ []
  idle_numbers lanes idle n = no_numbers (slice_get lanes n) (idle n)

  not_found : (objects : List (Object C)) (lanes : List (Lane C O R)) (n : ℕ)
      (found : Option (ℕ × ℕ)) → IsWhole objects lanes → Each IsIdle lanes →
      found_at objects n ≡ found → found_at objects n ≡ None
  not_found objects lanes n None whole idle is = is
  not_found objects lanes n (Some (l, p)) whole idle is =
      absurd (none-some n (ap (λ numbers. slice_get numbers p)
      (sym (idle_numbers lanes idle l)) ∙ whole.there n l p is))

  -- all objects are at home
  pub idle_home : (objects : List (Object C)) (lanes : List (Lane C O R)) →
      IsWhole objects lanes → Each IsIdle lanes → (n : ℕ) → found_at objects n ≡ None
  idle_home objects lanes whole idle n =
      not_found objects lanes n (found_at objects n) whole idle refl

  pub idle_whole : (lanes : List (Lane C O R)) → Each IsIdle lanes → IsWhole {C = C} [] lanes
  idle_whole lanes idle = record {
    there = λ object lane place found. absurd cc;
    only = λ lane place object is. absurd (none-some object
        (ap (λ numbers. slice_get numbers place) (sym (idle_numbers lanes idle lane)) ∙ is));
    fit = λ n lane at. idle_fit lane (idle n lane at);
  }

module _ {C O R : Type 0} (m : Meaning C O R) where
  pub idle_part : (lane : Lane C O R) → IsIdle lane → (load_of m lane).part ≡ None
  idle_part lane idle =
      ap (λ entries. (after_entries m (load_from lane.values.items lane.part) entries).part)
      (nil_from_length lane.pending.items idle.pending)
      ∙ none_from lane.part idle.part

  pub idle_total : (total : R) (lanes : List (Lane C O R)) → Each IsIdle lanes →
      total_after m total lanes ≡ total
  idle_total total [] idle = refl
  idle_total total (lane ∷ lanes) idle =
      ap (λ part. total_after m (with_part m total part) lanes) (idle_part lane (idle 0 lane refl))
      ∙ idle_total total lanes (λ n lane at. idle (suc n) lane at)

-- a place in a lane is in one that there is
pub lane_below : {C O R : Type 0} (lanes : List (Lane C O R)) (l p n : ℕ) →
    slice_get (lane_numbers lanes l) p ≡ Some n → l < length lanes
lane_below [] l p n at = absurd (none-some n at)
lane_below (lane ∷ lanes) zero p n at = omega arith
lane_below (lane ∷ lanes) (suc l) p n at = let rest = lane_below lanes l p n at in omega (arith, rest)

-- an object that was in a lane which is idle now is at home, if none was sent
pub home_from : {C O R : Type 0} (old new : List (Object C)) (lanes : List (Lane C O R)) (l p n : ℕ)
    (found : Option (ℕ × ℕ)) → IsWhole new lanes → IsIdleAt l lanes → NoneSent old new →
    found_at old n ≡ Some (l, p) → found_at new n ≡ found → found_at new n ≡ None
home_from old new lanes l p n None whole idle none was is = is
home_from old new lanes l p n (Some (k, q)) whole idle none was is =
    let before = none n k q is in
    let same = (some_pair_parts _ _ _ _ (sym before ∙ was)).0 in
    absurd (none-some n (ap (λ numbers. slice_get numbers q)
    (sym (ap (λ n. lane_numbers lanes n) same ∙ no_numbers (slice_get lanes l) idle))
    ∙ whole.there n k q is))

-- and so is one that was at home
pub still_home : {C : Type 0} (old new : List (Object C)) (n : ℕ) (found : Option (ℕ × ℕ)) →
    NoneSent old new → found_at old n ≡ None → found_at new n ≡ found → found_at new n ≡ None
still_home old new n None none was is = is
still_home old new n (Some (l, p)) none was is = absurd (none-some _ (sym was ∙ none n l p is))
