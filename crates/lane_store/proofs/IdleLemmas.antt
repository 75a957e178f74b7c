-- Lanes in which nothing is.
use Rattle.std.proofs.Common.{◌≡◌, ℕ, zero, suc, ◌<◌, Bool, true, false, Option, Some, None, List, [], ◌∷◌, ◌++◌, map, length, refl, sym, ap, ◌∙◌, subst, append-nil, arith}
use Rattle.std.specs.Prelude.{is_some, slice_get}
use Rattle.std.specs.Map.{lookup}
use Rattle.std.specs.Ordering.{nat_cmp}
use Rattle.std.specs.BTreeMap.{is_at}
use Rattle.std.proofs.lemmas.List.{length-map}
use Rattle.std.proofs.lemmas.Option.{none-some, some_pair_parts}
use Rattle.ss_base.specs.declared.ids.Run.{Run}
use Rattle.execution_definitions.specs.Meanings.{Meaning}
use Rattle.delegates.specs.Stores.{Stored, value_of, empty_store}
use Rattle.delegates.specs.declared.home.Home.{Home}
use Rattle.lane_ends.specs.declared.lane_end.LaneEnd.{LaneEnd}
use Rattle.lane_ends.specs.LaneEnds.{comes_to, IsWhole, IsIdle}
use Rattle.lane_objects.specs.declared.object.Object.{Object}
use Rattle.lane_objects.specs.Objects.{found_at, NoneSent}
use Rattle.lane_objects.specs.Outcomes.{value_in, sent_runs, total_after, AreApart}
use Rattle.lane_store.specs.LaneStores.{Each, stores_of, IsIdleAt}
use Rattle.lane_objects.proofs.OutcomeLemmas.{not_none}
use Rattle.lane_store.proofs.StoreLemmas.{idle_comes}

-- an object in a lane is in one that there is
pub lane_below : {C R : Type 0} (lanes : List (Stored C R)) (l n : ℕ) →
    is_some (value_in lanes l n) ≡ true → l < length lanes
lane_below [] l n is = absurd cc
lane_below (s ∷ lanes) zero n is = omega arith
lane_below (s ∷ lanes) (suc l) n is = let rest = lane_below lanes l n is in omega (arith, rest)

module _ {C W O R : Type 0} (m : Meaning C O R) (home_of : W → Home C O R) where
  -- all that was sent to idle lanes is in their logs
  pub idle_sent : (logs : List (List Run)) (ends : List (LaneEnd C W O R)) →
      Each (IsIdle m home_of) ends → length logs ≡ length ends →
      sent_runs logs (stores_of m home_of ends) ≡ logs
  idle_sent [] ends idle count = refl
  idle_sent (log ∷ logs) [] idle count = absurd (omega (arith, count))
  idle_sent (log ∷ logs) (end ∷ ends) idle count =
      ap (λ (s : Stored C R). (log ++ s.runs) ∷ sent_runs logs (stores_of m home_of ends))
      (idle_comes m home_of end (idle 0 end refl))
      ∙ ap (λ first. first ∷ sent_runs logs (stores_of m home_of ends)) (append-nil log)
      ∙ ap (λ rest. log ∷ rest)
      (idle_sent logs ends (λ n end at. idle (suc n) end at) (omega (arith, count)))

  -- one lane that is idle has done all that was sent to it
  pub idle_caught_up : (logs : List (List Run)) (ends : List (LaneEnd C W O R)) (l : ℕ) →
      length logs ≡ length ends → IsIdleAt m home_of l ends →
      slice_get logs l ≡ slice_get (sent_runs logs (stores_of m home_of ends)) l
  idle_caught_up [] ends l count idle = refl
  idle_caught_up (log ∷ logs) [] l count idle = absurd (omega (arith, count))
  idle_caught_up (log ∷ logs) (end ∷ ends) zero count idle =
      ap Some (sym (ap (λ (s : Stored C R). log ++ s.runs)
      (idle_comes m home_of end (idle end refl)) ∙ append-nil log))
  idle_caught_up (log ∷ logs) (end ∷ ends) (suc l) count idle =
      idle_caught_up logs ends l (omega (arith, count)) idle

  -- nothing is in an idle lane
  pub nothing_in : (ends : List (LaneEnd C W O R)) (l n : ℕ) → IsIdleAt m home_of l ends →
      value_in (stores_of m home_of ends) l n ≡ None
  nothing_in [] l n idle = refl
  nothing_in (end ∷ ends) zero n idle =
      ap (λ (s : Stored C R). value_of s n) (idle_comes m home_of end (idle end refl))
  nothing_in (end ∷ ends) (suc l) n idle = nothing_in ends l n idle

  not_found : (objects : List (Object C)) (ends : List (LaneEnd C W O R)) (n : ℕ)
      (found : Option (ℕ × ℕ)) → AreApart objects (stores_of m home_of ends) →
      Each (IsIdle m home_of) ends → found_at objects n ≡ found → found_at objects n ≡ None
  not_found objects ends n None apart idle is = is
  not_found objects ends n (Some (l, p)) apart idle is =
      absurd (not_none (value_in (stores_of m home_of ends) l n)
      (nothing_in ends l n (idle l)) (apart.there n l p is))

  -- all objects are at home
  pub idle_home : (objects : List (Object C)) (ends : List (LaneEnd C W O R)) →
      AreApart objects (stores_of m home_of ends) → Each (IsIdle m home_of) ends → (n : ℕ) →
      found_at objects n ≡ None
  idle_home objects ends apart idle n =
      not_found objects ends n (found_at objects n) apart idle refl

  pub idle_apart : (ends : List (LaneEnd C W O R)) → Each (IsIdle m home_of) ends →
      AreApart {C = C} [] (stores_of m home_of ends)
  idle_apart ends idle = record {
    number = λ object lane number found. absurd cc;
    there = λ object lane number found. absurd cc;
    only = λ object lane is. absurd (not_none (value_in (stores_of m home_of ends) lane object)
        (nothing_in ends lane object (idle lane)) is);
  }

  -- idle lanes add nothing to a total that the unit or a join made
  pub idle_total : (total : R) (ends : List (LaneEnd C W O R)) → m.join total m.unit ≡ total →
      Each (IsIdle m home_of) ends → total_after m total (stores_of m home_of ends) ≡ total
  idle_total total [] made idle = refl
  idle_total total (end ∷ ends) made idle =
      ap (λ (s : Stored C R). total_after m (m.join total s.total) (stores_of m home_of ends))
      (idle_comes m home_of end (idle 0 end refl))
      ∙ ap (λ t. total_after m t (stores_of m home_of ends)) made
      ∙ idle_total total ends made (λ n end at. idle (suc n) end at)

  -- an object that was in a lane which is idle now is at home, if none was sent
  pub home_from : (old new : List (Object C)) (ends : List (LaneEnd C W O R)) (l p n : ℕ)
      (found : Option (ℕ × ℕ)) → AreApart new (stores_of m home_of ends) →
      IsIdleAt m home_of l ends → NoneSent old new → found_at old n ≡ Some (l, p) →
      found_at new n ≡ found → found_at new n ≡ None
  home_from old new ends l p n None apart idle none was is = is
  home_from old new ends l p n (Some (k, q)) apart idle none was is =
      let before = none n k q is in
      let same = (some_pair_parts _ _ _ _ (sym before ∙ was)).0 in
      absurd (not_none (value_in (stores_of m home_of ends) k n)
      (ap (λ j. value_in (stores_of m home_of ends) j n) same ∙ nothing_in ends l n idle)
      (apart.there n k q is))

-- and so is one that was at home
pub still_home : {C : Type 0} (old new : List (Object C)) (n : ℕ) (found : Option (ℕ × ℕ)) →
    NoneSent old new → found_at old n ≡ None → found_at new n ≡ found → found_at new n ≡ None
still_home old new n None none was is = is
still_home old new n (Some (l, p)) none was is = absurd (none-some _ (sym was ∙ none n l p is))
