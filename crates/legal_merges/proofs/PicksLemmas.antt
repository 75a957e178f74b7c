-- The order that picks give, pick by pick.
use Rattle.std.proofs.Common.{◌≡◌, ℕ, zero, suc, ◌+◌, ◌<◌, ◌≤◌, Bool, true, false, ◌&&◌, not, cond, Option, Some, None, List, [], ◌∷◌, ◌++◌, length, take, fold, refl, sym, ap, ◌∙◌, subst, arith, append-nil, append_assoc}
use Rattle.std.specs.Prelude.{◌==◌, nat_lt}
use Rattle.std.proofs.lemmas.Bool.{eqb-true}
use Rattle.std.proofs.lemmas.Bool.Decides.{nat_tests}
use Rattle.std.proofs.lemmas.List.Sums.{fold-append}
use Rattle.std.proofs.Math.Seq.{take-append_seam}
use Rattle.ss_base.specs.declared.ids.Event.{Event}
use Rattle.execution_definitions.specs.Shapes.{Shape}
use Rattle.interleavings.specs.Merges.{lane_at, is_among}
use Rattle.legal_merges.specs.Picks.{lane_picked, same_lane, is_left, least_from, next_place, with_pick, picked}
use Rattle.legal_merges.specs.kept.Turns.{IsNext}
use Rattle.merge_laws.proofs.BegunLemmas.{false_true}
use Rattle.legal_merges.proofs.WayLemmas.{below}

-- ---- the least place that passes a test

module _ (test : ℕ → Bool) where
  -- where the first passes it is the least
  low_by : (b : Bool) (first : ℕ) (rest : ℕ) → first ≤ rest → first ≤ cond b first rest
  low_by true first rest low = omega arith
  low_by false first rest low = low

  least_low : (first count : ℕ) → first ≤ least_from test first count
  least_low first zero = omega arith
  least_low first (suc count) =
      let more = least_low (suc first) count in
      low_by (test first) first (least_from test (suc first) count) (omega arith)

  least_high : (first count : ℕ) → least_from test first count ≤ first + count
  least_high first zero = omega arith
  least_high first (suc count) = by (test first) (least_high (suc first) count) where
    by : (b : Bool) → least_from test (suc first) count ≤ suc first + count →
        cond b first (least_from test (suc first) count) ≤ first + suc count
    by true high = omega arith
    by false high = omega arith

  least_none : (first count other : ℕ) → first ≤ other → other < least_from test first count →
      test other ≡ false
  least_none first zero other low high = absurd (omega arith)
  least_none first (suc count) other low high =
      by (test first) refl high
      (λ more small. least_none (suc first) count other more small) where
        by : (b : Bool) → test first ≡ b →
            other < cond b first (least_from test (suc first) count) →
            (suc first ≤ other → other < least_from test (suc first) count → test other ≡ false) →
            test other ≡ false
        by true e high again = absurd (omega arith)
        by false e high again = at (first == other) refl where
          at : (t : Bool) → (first == other) ≡ t → test other ≡ false
          at true f = subst (λ k. test k ≡ false) (eqb-true first other f) e
          at false f =
              let more : suc first ≤ other = grind (arith, nat_tests) in
              again more high

  least_passes : (first count : ℕ) → least_from test first count < first + count →
      test (least_from test first count) ≡ true
  least_passes first zero high = absurd (omega arith)
  least_passes first (suc count) high =
      by (test first) refl high (λ small. least_passes (suc first) count small) where
        by : (b : Bool) → test first ≡ b →
            cond b first (least_from test (suc first) count) < first + suc count →
            (least_from test (suc first) count < suc first + count →
            test (least_from test (suc first) count) ≡ true) →
            test (cond b first (least_from test (suc first) count)) ≡ true
        by true e high again = e
        by false e high again = again (omega arith)

-- ---- the next place

same_lane-true : (a b : Option ℕ) → same_lane a b ≡ true → a ≡ b
same_lane-true None None is = refl
same_lane-true None (Some b) is = absurd cc
same_lane-true (Some a) None is = absurd cc
same_lane-true (Some a) (Some b) is = ap Some (eqb-true a b is)

same_lane-itself : (a : Option ℕ) → same_lane a a ≡ true
same_lane-itself None = refl
same_lane-itself (Some a) = grind (arith, nat_tests)

both_true : (a b : Bool) → a ≡ true → b ≡ false → (a && not b) ≡ true
both_true true false x y = refl
both_true true true x y = absurd cc
both_true false b x y = absurd cc

first_true : (a b : Bool) → (a && not b) ≡ true → a ≡ true
first_true true b is = refl
first_true false b is = absurd cc

second_false : (a b : Bool) → (a && not b) ≡ true → b ≡ false
second_false true true is = absurd cc
second_false true false is = refl
second_false false b is = absurd cc

-- there is one next place of a lane, or of the program context
pub next_is : (n : ℕ) (calls : List Shape) (done : List ℕ) (lane : Option ℕ) (place : ℕ) →
    IsNext n calls done lane place → place ≡ next_place n calls lane done
next_is n calls done lane place is =
    by (nat_lt place next) refl (nat_lt next place) refl where
      test : ℕ → Bool
      test = is_left n calls lane done

      next : ℕ
      next = next_place n calls lane done

      itself : (k : ℕ) → nat_lt k k ≡ false
      itself k = grind (arith, nat_tests)

      by : (t : Bool) → nat_lt place next ≡ t → (u : Bool) → nat_lt next place ≡ u → place ≡ next
      by true e u f =
          let before = below place next e in
          let high = least_high test 0 (length calls) in
          let inside : place < length calls = omega arith in
          let own = is.own inside in
          let absent : is_among done place ≡ false =
          is.done_before place inside own ∙ itself place in
          let left : test place ≡ true =
          both_true (same_lane (lane_at n calls place) lane) (is_among done place)
          (ap (λ l. same_lane l lane) own ∙ same_lane-itself lane) absent in
          absurd (false_true (test place)
          (least_none test 0 (length calls) place (omega arith) before) left)
      by false e true f =
          let after = below next place f in
          let high = is.within in
          let inside : next < length calls = omega arith in
          let room : next < 0 + length calls = omega arith in
          let left = least_passes test 0 (length calls) room in
          let own = same_lane-true (lane_at n calls next) lane (first_true _ _ left) in
          let absent = second_false (same_lane (lane_at n calls next) lane) (is_among done next) left in
          absurd (false_true (is_among done next) absent
          (is.done_before next inside own ∙ f))
      by false e false f = grind (arith, nat_tests)

-- ---- the picks one by one

module _ (n : ℕ) (calls : List Shape) where
  -- more picks only add places, one each
  pub record Adds (done : List ℕ) (picks : List Event) : Type 0 where
    pub more : List ℕ
    pub is : fold (with_pick n calls) done picks ≡ done ++ more
    pub count : length more ≡ length picks

  adds : (done : List ℕ) (picks : List Event) → Adds done picks
  adds done [] = record { more = []; is = sym (append-nil done); count = refl }
  adds done (pick ∷ picks) =
      let next = next_place n calls (lane_picked pick) done in
      let rest = adds (done ++ next ∷ []) picks in
      record {
        more = next ∷ rest.more;
        is = rest.is ∙ append_assoc done (next ∷ []) rest.more;
        count = ap suc rest.count;
      }

  pub picked-count : (picks : List Event) → length (picked n calls picks) ≡ length picks
  picked-count picks = let a = adds [] picks in ap length a.is ∙ a.count

  -- one pick more
  pub picked-push : (picks : List Event) (pick : Event) →
      picked n calls (picks ++ pick ∷ []) ≡ with_pick n calls (picked n calls picks) pick
  picked-push picks pick = fold-append (with_pick n calls) [] picks (pick ∷ [])

  -- the first of the places are those of the first picks
  pub picked-take : (front rest : List Event) →
      take (length front) (picked n calls (front ++ rest)) ≡ picked n calls front
  picked-take front rest =
      let a = adds (picked n calls front) rest in
      let counted = picked-count front in
      ap (take (length front)) (fold-append (with_pick n calls) [] front rest ∙ a.is)
      ∙ ap (λ k. take k (picked n calls front ++ a.more)) (sym counted)
      ∙ take-append_seam (picked n calls front) a.more
