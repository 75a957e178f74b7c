-- What may come next after places that begin a legal merge, and what is next after that.
use Rattle.std.proofs.Common.{◌≡◌, ℕ, zero, suc, ◌+◌, ◌<◌, ◌≤◌, ◌≢◌, Bool, true, false, ◌||◌, ◌&&◌, Option, Some, None, List, [], ◌∷◌, ◌++◌, length, take, refl, sym, ap, ◌∙◌, subst, arith, append-nil, ⊎_elim, set}
use Rattle.std.specs.Prelude.{◌==◌, nat_lt, slice_get, ◌⊎◌}
use Rattle.std.proofs.lemmas.Bool.{eqb-true}
use Rattle.std.proofs.lemmas.Bool.Decides.{nat_tests}
use Rattle.std.proofs.lemmas.List.{length-set}
use Rattle.std.proofs.lemmas.List.Folds.{list_any-append}
use Rattle.std.proofs.lemmas.Option.{slice_get_within}
use Rattle.execution_definitions.specs.Shapes.{Shape, make, make_fixed, begin, delegate, write, get, end, total}
use Rattle.execution_definitions.specs.Sets.{set_of, lane_of_set}
use Rattle.execution_definitions.specs.Epochs.{isolating}
use Rattle.interleavings.specs.Merges.{lane_of_call, lane_at, waits_for_lane, must_stand_before, is_among, times_among}
use Rattle.legal_merges.specs.declared.step.Step.{Step}
use Rattle.merge_laws.specs.Fronts.{IsBegun}
use Rattle.legal_merges.specs.kept.Turns.{turn_of, covers, IsStepAfter, IsTable, IsFirst, IsNext, MayCome, AreNexts}
use Rattle.legal_merges.specs.kept.Judging.{AreDone, HasAll, IsNextOf}
use Rattle.merge_laws.proofs.OrderLemmas.{times-here, times-other, part_among}
use Rattle.merge_laws.proofs.PlaceLemmas.{both}
use Rattle.merge_laws.proofs.BegunLemmas.{false_true, stands, absent_times, present_times, earlier_place}
use Rattle.legal_merges.proofs.EndLemmas.{end_between}

-- what stands at a place
pub found : {X : Type 0} (xs : List X) (i : ℕ) → i < length xs → (x : X) × (slice_get xs i ≡ Some x)
found [] i within = absurd (omega arith)
found (x ∷ xs) zero within = (x, refl)
found (x ∷ xs) (suc i) within = found xs i (omega arith)

pub get_set_same : {X : Type 0} (xs : List X) (i : ℕ) (x : X) → i < length xs →
    slice_get (set xs i x) i ≡ Some x
get_set_same [] i x within = absurd (omega arith)
get_set_same (y ∷ xs) zero x within = refl
get_set_same (y ∷ xs) (suc i) x within = get_set_same xs i x (omega arith)

pub get_set_other : {X : Type 0} (xs : List X) (i j : ℕ) (x : X) → j ≢ i →
    slice_get (set xs i x) j ≡ slice_get xs j
get_set_other [] i j x differ = refl
get_set_other (y ∷ xs) zero zero x differ = absurd (differ refl)
get_set_other (y ∷ xs) zero (suc j) x differ = refl
get_set_other (y ∷ xs) (suc i) zero x differ = refl
get_set_other (y ∷ xs) (suc i) (suc j) x differ =
    get_set_other xs i j x (λ same. differ (ap suc same))

pub some_same : (a b : ℕ) → Some a ≡ Some b → a ≡ b
some_same a b same = cc

not_itself : (place : ℕ) → nat_lt place place ≡ false
not_itself place = grind (arith, nat_tests)

same_number : (place : ℕ) → (place == place) ≡ true
same_number place = grind (arith, nat_tests)

later : (a b : ℕ) → a < b → nat_lt a b ≡ true
later a b below = grind (arith, nat_tests)

pub no_later : (a b : ℕ) → b ≤ a → nat_lt a b ≡ false
no_later a b above = grind (arith, nat_tests)

apart : (a b : ℕ) → a ≢ b → (a == b) ≡ false
apart a b differ = grind (arith, nat_tests)

pub below : (a b : ℕ) → nat_lt a b ≡ true → a < b
below a b is = grind (arith, nat_tests)

either_none : (a : Bool) → (a || false) ≡ a
either_none true = refl
either_none false = refl

either_true : (a b : Bool) → b ≡ true → (a || b) ≡ true
either_true true b is = refl
either_true false b is = is

left_true : (a b : Bool) → a ≡ true → (a || b) ≡ true
left_true true b is = refl
left_true false b is = absurd cc

-- a turn has one lane, or the program context
pub turn_of-injective : (a b : Option ℕ) → turn_of a ≡ turn_of b → a ≡ b
turn_of-injective None None same = refl
turn_of-injective None (Some b) same = absurd (omega arith)
turn_of-injective (Some a) None same = absurd (omega arith)
turn_of-injective (Some a) (Some b) same = let e : a ≡ b = omega arith in ap Some e

-- a delegation comes after the earlier ones of its lane
waits_for_own : (n : ℕ) (before : List Shape) (call : Option Shape) →
    waits_for_lane n (lane_of_call n before call) before call ≡ true
waits_for_own n before None = refl
waits_for_own n before (Some (make by)) = refl
waits_for_own n before (Some make_fixed) = refl
waits_for_own n before (Some begin) = refl
waits_for_own n before (Some (delegate o own r)) = same_number (lane_of_set (set_of before o own) n)
waits_for_own n before (Some (write o)) = refl
waits_for_own n before (Some (get o)) = refl
waits_for_own n before (Some end) = refl
waits_for_own n before (Some total) = refl

module _ (n : ℕ) (calls : List Shape) (steps : List Step) (table : IsTable n calls steps) where
  step_at : (place : ℕ) → place < length calls →
      (step : Step) × IsStepAfter n (take place calls) (slice_get calls place) step
  step_at place inside =
      let count = table.count in
      let f = found steps place (omega arith) in
      (f.0, table.each place f.0 f.1)

  -- each call has one of the turns
  pub turn_known : (place : ℕ) → place < length calls → turn_of (lane_at n calls place) < n + 1
  turn_known place inside =
      let s = step_at place inside in
      let e = s.1.turn in
      let k = s.1.known in
      omega arith

  module _ (done : List ℕ) where
    -- a place whose turn's next is before it can't stand next, where it waits for that
    blocked : (lane : Option ℕ) (next place : ℕ) → IsNext n calls done lane next →
        IsBegun n calls (done ++ place ∷ []) → place ≤ length calls →
        waits_for_lane n lane (take place calls) (slice_get calls place) ≡ true → next < place → ⊥
    blocked lane next place is begun within waits before =
        let own : lane_at n calls next ≡ lane = is.own (omega arith) in
        let must : must_stand_before n calls next place ≡ true =
        both _ _ (later next place before)
        (ap (λ l. waits_for_lane n l (take place calls) (slice_get calls place)) own ∙ waits) in
        let among : is_among done next ≡ true = begun.keeps done place [] refl next must in
        let absent : is_among done next ≡ nat_lt next next = is.done_before next (omega arith) own in
        false_true (nat_lt next next) (not_itself next) (sym absent ∙ among)

    -- what is done isn't done again
    done_once : (place : ℕ) → IsBegun n calls (done ++ place ∷ []) → is_among done place ≡ true → ⊥
    done_once place begun among =
        let a = times-here done place [] in
        let b = ap (λ (l : List ℕ). times_among l place) (append-nil done) in
        let c = present_times done place among in
        let d = begun.at_most_once place in
        absurd (omega arith)

    module _ (nexts : List ℕ) (are : AreNexts n calls done nexts) where
      -- what stands next in a legal merge may come
      pub begun_may_come : (place : ℕ) (step : Step) → place < length calls →
          slice_get steps place ≡ Some step → IsBegun n calls (done ++ place ∷ []) →
          MayCome nexts step place
      begun_may_come place step inside at begun =
          let s = table.each place step at in
          let count = are.count in
          let turn = s.turn in
          let known = s.known in
          let f = found nexts step.turn (omega arith) in
          let is : slice_get nexts (turn_of (lane_at n calls place)) ≡ Some f.0 =
          ap (slice_get nexts) (sym turn) ∙ f.1 in
          let next = are.each (lane_at n calls place) f.0 is in
          let high : f.0 ≤ place = not_before place f.0 next inside begun in
          let low : place ≤ f.0 =
          not_behind (lane_at n calls place) f.0 place next begun inside
          (waits_for_own n (take place calls) (slice_get calls place)) in
          let same : f.0 ≡ place = omega arith in
          let program : (other : ℕ) → slice_get nexts 0 ≡ Some other → place ≤ other =
          λ other has. not_behind None other place (are.each None other has) begun inside refl in
          record {
            next = f.1 ∙ ap Some same;
            program = program;
            waited = λ turn other cover has. by_turn turn other program
                (λ lane c h. not_behind (Some lane) other place (are.each (Some lane) other h) begun
                inside (s.needed lane c)) cover has;
          } where
            not_behind : (lane : Option ℕ) (next place : ℕ) → IsNext n calls done lane next →
                IsBegun n calls (done ++ place ∷ []) → place < length calls →
                waits_for_lane n lane (take place calls) (slice_get calls place) ≡ true →
                place ≤ next
            not_behind lane next place is begun inside waits = by (nat_lt next place) refl where
              by : (t : Bool) → nat_lt next place ≡ t → place ≤ next
              by true e =
                  absurd (blocked lane next place is begun (omega arith) waits (below next place e))
              by false e = grind (arith, nat_tests)

            not_before : (place next : ℕ) → IsNext n calls done (lane_at n calls place) next →
                place < length calls → IsBegun n calls (done ++ place ∷ []) → next ≤ place
            not_before place next is inside begun = by (nat_lt place next) refl where
              by : (t : Bool) → nat_lt place next ≡ t → next ≤ place
              by true e = absurd (done_once place begun (is.done_before place inside refl ∙ e))
              by false e = grind (arith, nat_tests)

            by_turn : (turn other : ℕ) →
                ((other : ℕ) → slice_get nexts 0 ≡ Some other → place ≤ other) →
                ((lane : ℕ) → covers step.waits (suc lane) ≡ true →
                slice_get nexts (suc lane) ≡ Some other → place ≤ other) →
                covers step.waits turn ≡ true → slice_get nexts turn ≡ Some other → place ≤ other
            by_turn zero other program of_lane cover has = program other has
            by_turn (suc lane) other program of_lane cover has = of_lane lane cover has

      module _ (begun : IsBegun n calls done) (place : ℕ) (step : Step)
          (inside : place < length calls) (at : slice_get steps place ≡ Some step)
          (may : MayCome nexts step place) where
        s : IsStepAfter n (take place calls) (slice_get calls place) step
        s = table.each place step at

        next_here : IsNext n calls done (lane_at n calls place) place
        next_here =
            are.each (lane_at n calls place) place (ap (slice_get nexts) (sym s.turn) ∙ may.next)

        not_done : is_among done place ≡ false
        not_done = next_here.done_before place inside refl ∙ not_itself place

        -- earlier places of the program context are done
        program_done : (first : ℕ) → first < place → lane_at n calls first ≡ None →
            is_among done first ≡ true
        program_done first before program =
            let count = are.count in
            let f = found nexts 0 (omega arith) in
            let low = may.program f.0 f.1 in
            (are.each None f.0 f.1).done_before first (omega arith) program
            ∙ later first f.0 (omega arith)

        -- and of a lane that is waited for
        lane_done : (lane first : ℕ) → first < place → lane_at n calls first ≡ Some lane →
            (covers step.waits (suc lane) ≡ true) ⊎ (isolating (take place calls) ≡ false) →
            is_among done first ≡ true
        lane_done lane first before has =
            ⊎_elim covered closed where
              covered : covers step.waits (suc lane) ≡ true → is_among done first ≡ true
              covered cover =
                  let count = are.count in
                  let known = turn_known first (omega arith) in
                  let turn = ap turn_of has in
                  let f = found nexts (suc lane) (omega arith) in
                  let low = may.waited (suc lane) f.0 cover f.1 in
                  (are.each (Some lane) f.0 f.1).done_before first (omega arith) has
                  ∙ later first f.0 (omega arith)

              closed : isolating (take place calls) ≡ false → is_among done first ≡ true
              closed shut =
                  let e = end_between n calls first place lane table.sound before inside has shut in
                  let among = program_done e.place e.before e.program in
                  let p = part_among done e.place among in
                  let before_it = begun.keeps p.front e.place p.rest p.is first e.must in
                  ap (λ (l : List ℕ). is_among l first) p.is
                  ∙ list_any-append (λ (q : ℕ). q == first) p.front (e.place ∷ p.rest)
                  ∙ left_true (is_among p.front first) (is_among (e.place ∷ p.rest) first) before_it

        second_of : (a b : Bool) → (a && b) ≡ true → b ≡ true
        second_of true b is = is
        second_of false b is = absurd cc

        waits_done : (first : ℕ) → must_stand_before n calls first place ≡ true →
            is_among done first ≡ true
        waits_done first must =
            by (lane_at n calls first) refl
            (second_of (nat_lt first place) _ must) where
              before : first < place
              before = earlier_place first place _ must

              by : (lane : Option ℕ) → lane_at n calls first ≡ lane →
                  waits_for_lane n (lane_at n calls first) (take place calls) (slice_get calls place)
                  ≡ true → is_among done first ≡ true
              by None is waits = program_done first before is
              by (Some lane) is waits =
                  lane_done lane first before is
                  (s.enough lane (ap (λ l. waits_for_lane n l (take place calls)
                  (slice_get calls place)) (sym is) ∙ waits))

        -- with a place that may come they begin a legal merge
        pub begun-push : IsBegun n calls (done ++ place ∷ [])
        begun-push = record {
          at_most_once = once;
          no_other = none;
          keeps = λ before other after is first must.
              ⊎_elim (λ e. begun.keeps before other e.more e.front_is first must)
              (λ l. last before other after l.more l.before_is l.rest_is first must)
              (stands done (place ∷ []) before other after is);
        } where
          times : (other : ℕ) → place ≢ other →
              times_among (done ++ place ∷ []) other ≡ times_among done other
          times other differ =
              times-other done place [] other differ
              ∙ ap (λ (l : List ℕ). times_among l other) (append-nil done)

          once : (other : ℕ) → times_among (done ++ place ∷ []) other ≤ 1
          once other = by (place == other) refl where
            by : (t : Bool) → (place == other) ≡ t → times_among (done ++ place ∷ []) other ≤ 1
            by true e =
                let same : place ≡ other = eqb-true place other e in
                subst (λ p. times_among (done ++ place ∷ []) p ≤ 1) same here where
                  here : times_among (done ++ place ∷ []) place ≤ 1
                  here =
                      let a = times-here done place [] in
                      let b = ap (λ (l : List ℕ). times_among l place) (append-nil done) in
                      let c = absent_times done place not_done in
                      omega arith
            by false e =
                let a = times other (grind (arith, nat_tests)) in
                let b = begun.at_most_once other in
                omega arith

          none : (other : ℕ) → length calls ≤ other → times_among (done ++ place ∷ []) other ≡ 0
          none other past =
              let differ : place ≢ other = λ same. let e : place ≡ other = same in omega arith in
              times other differ ∙ begun.no_other other past

          last : (before : List ℕ) (other : ℕ) (after more : List ℕ) → before ≡ done ++ more →
              place ∷ [] ≡ more ++ other ∷ after → (first : ℕ) →
              must_stand_before n calls first other ≡ true → is_among before first ≡ true
          last before other after [] front is first must =
              let same : place ≡ other = cc in
              ap (λ (l : List ℕ). is_among l first) (front ∙ append-nil done)
              ∙ waits_done first
              (ap (λ p. must_stand_before n calls first p) same ∙ must)
          last before other after (x ∷ []) front is first must = absurd cc
          last before other after (x ∷ y ∷ more) front is first must = absurd cc

        -- what is next then
        among-push : (other : ℕ) →
            is_among (done ++ place ∷ []) other ≡ (is_among done other || ((place == other) || false))
        among-push other = list_any-append (λ (p : ℕ). p == other) done (place ∷ [])

        next_of_turn : (after : ℕ) → IsFirst n calls (place + 1) (lane_at n calls place) after →
            IsNext n calls (done ++ place ∷ []) (lane_at n calls place) after
        next_of_turn after first = record {
          within = first.within;
          own = first.own;
          done_before = λ other known own.
              among-push other
              ∙ ap (λ b. b || ((place == other) || false)) (next_here.done_before other known own)
              ∙ at_other other own (nat_lt other place) refl (place == other) refl;
        } where
          at_other : (other : ℕ) → lane_at n calls other ≡ lane_at n calls place →
              (t : Bool) → nat_lt other place ≡ t → (u : Bool) → (place == other) ≡ u →
              (nat_lt other place || ((place == other) || false)) ≡ nat_lt other after
          at_other other own true e u f =
              let low = first.low in
              let b = below other place e in
              left_true (nat_lt other place) _ e ∙ sym (later other after (omega arith))
          at_other other own false e true f =
              let low = first.low in
              let same = eqb-true place other f in
              either_true (nat_lt other place) _ (either_none (place == other) ∙ f)
              ∙ sym (later other after (omega arith))
          at_other other own false e false f =
              let past : place + 1 ≤ other = grind (arith, nat_tests) in
              ap (λ b. b || ((place == other) || false)) e ∙ either_none (place == other) ∙ f
              ∙ sym (by (nat_lt other after) refl past) where
                by : (t : Bool) → nat_lt other after ≡ t → place + 1 ≤ other →
                    nat_lt other after ≡ false
                by true g past = absurd (first.none other past (below other after g) own)
                by false g past = g

        next_of_other : (lane : Option ℕ) (next : ℕ) → IsNext n calls done lane next →
            (lane_at n calls place ≡ lane → ⊥) → IsNext n calls (done ++ place ∷ []) lane next
        next_of_other lane next is differ = record {
          within = is.within;
          own = is.own;
          done_before = λ other known own.
              among-push other
              ∙ ap (λ b. is_among done other || (b || false))
              (apart place other (λ same. differ (ap (lane_at n calls) same ∙ own)))
              ∙ either_none (is_among done other) ∙ is.done_before other known own;
        }

        -- with the next place of its turn put in its place
        pub nexts-push : (after : ℕ) → IsFirst n calls (place + 1) (lane_at n calls place) after →
            AreNexts n calls (done ++ place ∷ []) (set nexts step.turn after)
        nexts-push after first = record {
          count = length-set nexts step.turn after ∙ are.count;
          each = λ lane next is. by lane next is (turn_of lane == step.turn) refl;
        } where
          by : (lane : Option ℕ) (next : ℕ) →
              slice_get (set nexts step.turn after) (turn_of lane) ≡ Some next → (t : Bool) →
              (turn_of lane == step.turn) ≡ t → IsNext n calls (done ++ place ∷ []) lane next
          by lane next is true e =
              let at_turn : turn_of lane ≡ step.turn = eqb-true (turn_of lane) step.turn e in
              let own : lane ≡ lane_at n calls place = turn_of-injective lane _ (at_turn ∙ s.turn) in
              let inside_turns : step.turn < length nexts =
              slice_get_within nexts step.turn place may.next in
              let value : next ≡ after =
              some_same next after (sym is ∙ ap (slice_get (set nexts step.turn after)) at_turn
              ∙ get_set_same nexts step.turn after inside_turns) in
              subst (λ l. IsNext n calls (done ++ place ∷ []) l next) (sym own)
              (subst (λ k. IsNext n calls (done ++ place ∷ []) (lane_at n calls place) k) (sym value)
              (next_of_turn after first))
          by lane next is false e =
              let differ : turn_of lane ≢ step.turn = grind (arith, nat_tests) in
              next_of_other lane next
              (are.each lane next (sym (get_set_other nexts step.turn (turn_of lane) after differ) ∙ is))
              (λ same. differ (ap turn_of (sym same) ∙ sym s.turn))

    -- the next place of any turn
    pub next_of : (nexts : List ℕ) (are : AreNexts n calls done nexts) (turn next : ℕ) →
        slice_get nexts turn ≡ Some next → IsNextOf n calls done turn next
    next_of nexts are turn next is lane at =
        are.each lane next (ap (slice_get nexts) at ∙ is)

    -- no call has a turn past the last
    pub next_past : (turn : ℕ) → n + 1 ≤ turn → IsNextOf n calls done turn (length calls)
    next_past turn past lane at = record {
      within = omega arith;
      own = λ below. absurd (omega arith);
      done_before = λ other known own.
          let has = turn_known other known in
          let same = ap turn_of own in
          absurd (omega arith);
    }

    -- where the next places are past the last call, all are done
    pub all_done : (nexts : List ℕ) → AreNexts n calls done nexts → AreDone nexts (length calls) →
        HasAll calls done
    all_done nexts are past place inside =
        let known = turn_known place inside in
        let count = are.count in
        let f = found nexts (turn_of (lane_at n calls place)) (omega arith) in
        let high = past _ f.0 f.1 in
        (are.each (lane_at n calls place) f.0 f.1).done_before place inside refl
        ∙ later place f.0 (omega arith)

    -- and else not all are
    pub not_all_done : (nexts : List ℕ) → AreNexts n calls done nexts →
        (AreDone nexts (length calls) → ⊥) → HasAll calls done → ⊥
    not_all_done nexts are left all = left (λ turn next has. past turn next has) where
      past_lane : (lane : Option ℕ) (next : ℕ) → slice_get nexts (turn_of lane) ≡ Some next →
          (t : Bool) → nat_lt next (length calls) ≡ t → length calls ≤ next
      past_lane lane next has true e =
          let is = are.each lane next has in
          let inside = below next (length calls) e in
          absurd (false_true (nat_lt next next) (not_itself next)
          (sym (is.done_before next inside (is.own inside)) ∙ all next inside))
      past_lane lane next has false e = grind (arith, nat_tests)

      past : (turn next : ℕ) → slice_get nexts turn ≡ Some next → length calls ≤ next
      past zero next has = past_lane None next has (nat_lt next (length calls)) refl
      past (suc lane) next has = past_lane (Some lane) next has (nat_lt next (length calls)) refl
