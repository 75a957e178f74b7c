-- What is begun goes on: with the places that are left, in the order of the program.
use Rattle.std.proofs.Common.{append_assoc, ◌≡◌, ℕ, zero, suc, ◌+◌, ◌<◌, ◌≤◌, ◌≢◌, Bool, true, false, ◌||◌, ◌&&◌, cond, List, [], ◌∷◌, ◌++◌, length, refl, sym, ap, ◌∙◌, subst, arith, ⊎_elim, inl, inr}
use Rattle.std.specs.Prelude.{◌==◌, ◌⊎◌, nat_lt}
use Rattle.std.proofs.lemmas.Bool.{eqb-true}
use Rattle.std.proofs.lemmas.Bool.Decides.{nat_tests}
use Rattle.std.proofs.lemmas.List.Folds.{list_any-append}
use Rattle.std.proofs.lemmas.List.Sums.{sum_by-append}
use Rattle.execution_definitions.specs.Shapes.{Shape}
use Rattle.interleavings.specs.Merges.{must_stand_before, is_among, times_among, BeginsMerge}
use Rattle.merge_laws.specs.Fronts.{IsBegun, BeginsWhereItIsBegun}
use Rattle.merge_laws.proofs.OrderLemmas.{times-first, times-here, part_among}

-- a place, where it isn't done, and the places after it
abbrev one_left : Bool → ℕ → List ℕ → List ℕ
one_left true place rest = rest
one_left false place rest = place ∷ rest

-- so many places from the first on, without those that are done
abbrev left : List ℕ → ℕ → ℕ → List ℕ
left done first zero = []
left done first (suc count) =
    one_left (is_among done first) first (left done (suc first) count)

-- another place is counted as without the first
times-one_left : (b : Bool) (first : ℕ) (rest : List ℕ) (place : ℕ) → first ≢ place →
    times_among (one_left b first rest) place ≡ times_among rest place
times-one_left true first rest place differ = refl
times-one_left false first rest place differ =
    let e : (first == place) ≡ false = grind (arith, nat_tests) in
    times-first first rest place
    ∙ ap (λ (b : Bool). cond b 1 0 + times_among rest place) e
    ∙ zero_more (times_among rest place) where
      zero_more : (k : ℕ) → 0 + k ≡ k
      zero_more k = omega arith

-- no place stands there below the first, nor past the last
left_below : (done : List ℕ) (first count place : ℕ) → place < first →
    times_among (left done first count) place ≡ 0
left_below done first zero place below = refl
left_below done first (suc count) place below =
    times-one_left (is_among done first) first (left done (suc first) count) place (omega arith)
    ∙ left_below done (suc first) count place (omega arith)

left_past : (done : List ℕ) (first count place : ℕ) → first + count ≤ place →
    times_among (left done first count) place ≡ 0
left_past done first zero place past = refl
left_past done first (suc count) place past =
    times-one_left (is_among done first) first (left done (suc first) count) place (omega arith)
    ∙ left_past done (suc first) count place (omega arith)

pub false_true : (b : Bool) → b ≡ false → b ≡ true → ⊥
false_true b is_false is_true = cc

-- what is done is not left
left_done : (done : List ℕ) (first count place : ℕ) → is_among done place ≡ true →
    times_among (left done first count) place ≡ 0
left_done done first zero place among = refl
left_done done first (suc count) place among =
    by (is_among done first) refl (left_done done (suc first) count place among) where
      by : (b : Bool) → is_among done first ≡ b →
          times_among (left done (suc first) count) place ≡ 0 →
          times_among (one_left b first (left done (suc first) count)) place ≡ 0
      by true is again = again
      by false is again =
          times-one_left false first (left done (suc first) count) place
          (λ same. false_true (is_among done first) is
          (subst (λ p. is_among done p ≡ true) (sym same) among)) ∙ again

-- every other place stands there once
left_once : (done : List ℕ) (first count place : ℕ) → first ≤ place → place < first + count →
    is_among done place ≡ false → times_among (left done first count) place ≡ 1
left_once done first zero place low high absent = absurd (omega arith)
left_once done first (suc count) place low high absent =
    at (first == place) refl
    (λ differ. left_once done (suc first) count place (omega arith) (omega arith) absent) where
      here : first ≡ place →
          times_among (one_left (is_among done first) first (left done (suc first) count)) place
          ≡ 1
      here same =
          let e : is_among done first ≡ false =
          subst (λ p. is_among done p ≡ false) (sym same) absent in
          let f = times-here [] first (left done (suc first) count) in
          let g = left_below done (suc first) count first (omega arith) in
          let h : times_among (first ∷ left done (suc first) count) first ≡ 1 = omega arith in
          ap (λ (b : Bool). times_among (one_left b first (left done (suc first) count)) place) e
          ∙ ap (λ p. times_among (first ∷ left done (suc first) count) p) (sym same) ∙ h

      at : (t : Bool) → (first == place) ≡ t →
          (first ≢ place → times_among (left done (suc first) count) place ≡ 1) →
          times_among (one_left (is_among done first) first (left done (suc first) count)) place
          ≡ 1
      at true is again = here (eqb-true first place is)
      at false is again =
          let differ : first ≢ place = grind (arith, nat_tests) in
          times-one_left (is_among done first) first (left done (suc first) count) place differ
          ∙ again differ

or_true : (b : Bool) → (b || true) ≡ true
or_true true = refl
or_true false = refl

-- they stand in the order of the program
left_rises : (done : List ℕ) (first count : ℕ) (before : List ℕ) (place : ℕ) (after : List ℕ) →
    left done first count ≡ before ++ place ∷ after → (other : ℕ) → first ≤ other →
    other < place → is_among done other ≡ false → is_among before other ≡ true
left_rises done first zero [] place after is other low below absent = absurd cc
left_rises done first zero (x ∷ before) place after is other low below absent = absurd cc
left_rises done first (suc count) before place after is other low below absent =
    at (first == other) refl (is_among done first) refl is
    (λ differ l eq. left_rises done (suc first) count l place after eq other
    (omega arith) below absent) where
      standing : (l : List ℕ) → first ∷ left done (suc first) count ≡ l ++ place ∷ after →
          (t : Bool) → (first == other) ≡ t →
          ((first ≢ other) → (l : List ℕ) →
          left done (suc first) count ≡ l ++ place ∷ after → is_among l other ≡ true) →
          is_among l other ≡ true
      standing [] eq t e later =
          let same : first ≡ place = cc in absurd (omega arith)
      standing (x ∷ l) eq true e later =
          let same : first ≡ x = cc in
          subst (λ z. (z == other || is_among l other) ≡ true) same (rw e refl)
      standing (x ∷ l) eq false e later =
          let tails : left done (suc first) count ≡ l ++ place ∷ after = cc in
          rw (later (grind (arith, nat_tests)) l tails) (or_true (x == other))

      at : (t : Bool) → (first == other) ≡ t → (b : Bool) → is_among done first ≡ b →
          one_left b first (left done (suc first) count) ≡ before ++ place ∷ after →
          ((first ≢ other) → (l : List ℕ) →
          left done (suc first) count ≡ l ++ place ∷ after → is_among l other ≡ true) →
          is_among before other ≡ true
      at t e false d eq later = standing before eq t e later
      at false e true d eq later = later (grind (arith, nat_tests)) before eq
      at true e true d eq later =
          let clash : is_among done first ≡ false =
          subst (λ p. is_among done p ≡ false) (sym (eqb-true first other e)) absent in
          absurd cc

-- where a place of two joined lists stands
pub record StandsLater (front rest before : List ℕ) (place : ℕ) (after : List ℕ) : Type 0 where
  pub more : List ℕ
  pub before_is : before ≡ front ++ more
  pub rest_is : rest ≡ more ++ place ∷ after

pub record StandsEarlier (front before : List ℕ) (place : ℕ) : Type 0 where
  pub more : List ℕ
  pub front_is : front ≡ before ++ place ∷ more

pub stands : (front rest before : List ℕ) (place : ℕ) (after : List ℕ) →
    front ++ rest ≡ before ++ place ∷ after →
    StandsEarlier front before place ⊎ StandsLater front rest before place after
stands [] rest before place after is = inr (record { more = before; before_is = refl; rest_is = is })
stands (x ∷ front) rest [] place after is =
    let same : x ≡ place = cc in
    inl (record { more = front; front_is = ap (λ p. p ∷ front) same })
stands (x ∷ front) rest (y ∷ before) place after is =
    let same : x ≡ y = cc in
    let tails : front ++ rest ≡ before ++ place ∷ after = cc in
    ⊎_elim (λ e. inl (record {
      more = e.more;
      front_is = ap (λ p. p ∷ front) same ∙ ap (λ l. y ∷ l) e.front_is;
    }))
    (λ l. inr (record {
      more = l.more;
      before_is = ap (λ l. y ∷ l) l.before_is ∙ ap (λ p. p ∷ front ++ l.more) (sym same);
      rest_is = l.rest_is;
    }))
    (stands front rest before place after tails)

pub absent_times : (front : List ℕ) (place : ℕ) → is_among front place ≡ false →
    times_among front place ≡ 0
absent_times [] place absent = refl
absent_times (x ∷ front) place absent =
    by (x == place) refl absent (λ none. absent_times front place none) where
      by : (b : Bool) → (x == place) ≡ b → (b || is_among front place) ≡ false →
          (is_among front place ≡ false → times_among front place ≡ 0) →
          times_among (x ∷ front) place ≡ 0
      by true e none again = absurd cc
      by false e none again =
          let differ : x ≢ place = grind (arith, nat_tests) in
          times-one_left false x front place differ ∙ again none

pub present_times : (front : List ℕ) (place : ℕ) → is_among front place ≡ true →
    1 ≤ times_among front place
present_times front place among =
    let p = part_among front place among in
    let e = ap (λ (l : List ℕ). times_among l place) p.is in
    let f = times-here p.front place p.rest in
    omega arith

pub earlier_place : (a b : ℕ) (c : Bool) → (nat_lt a b && c) ≡ true → a < b
earlier_place a b c both = by (nat_lt a b) refl both where
  by : (t : Bool) → nat_lt a b ≡ t → (t && c) ≡ true → a < b
  by true is more = grind (arith, nat_tests)
  by false is more = absurd cc

module _ (n : ℕ) (calls : List Shape) (front : List ℕ) (begun : IsBegun n calls front) where
  abbrev rest : List ℕ
  rest = left front 0 (length calls)

  times_all : (place : ℕ) →
      times_among (front ++ rest) place ≡ times_among front place + times_among rest place
  times_all place = sum_by-append (λ (x : ℕ). cond (x == place) 1 0) front rest

  once : (place : ℕ) → place < length calls → (b : Bool) → is_among front place ≡ b →
      times_among (front ++ rest) place ≡ 1
  once place within true is =
      let a = times_all place in
      let b = present_times front place is in
      let c = begun.at_most_once place in
      let d = left_done front 0 (length calls) place is in
      omega arith
  once place within false is =
      let a = times_all place in
      let b = absent_times front place is in
      let d = left_once front 0 (length calls) place (omega arith) (omega arith) is in
      omega arith

  or_either : (a b : Bool) → (a ≡ false → b ≡ true) → (a || b) ≡ true
  or_either true b second = refl
  or_either false b second = second refl

  kept : (before : List ℕ) (place : ℕ) (after : List ℕ) →
      front ++ rest ≡ before ++ place ∷ after → (first : ℕ) →
      must_stand_before n calls first place ≡ true → is_among before first ≡ true
  kept before place after is first must =
      ⊎_elim (λ e. begun.keeps before place e.more e.front_is first must)
      (λ l. ap (λ (l : List ℕ). is_among l first) l.before_is
      ∙ list_any-append (λ (p : ℕ). p == first) front l.more
      ∙ or_either (is_among front first) (is_among l.more first) (λ absent.
      left_rises front 0 (length calls) l.more place after l.rest_is first (omega arith)
      (earlier_place first place _ must) absent))
      (stands front rest before place after is)

  -- what is begun goes on to a legal merge
  pub begun_goes_on : BeginsMerge n calls front
  begun_goes_on = record {
    rest = rest;
    legal = record {
      each_once = λ place within. once place within (is_among front place) refl;
      no_other = λ place past.
          let a = times_all place in
          let b = begun.no_other place past in
          let d = left_past front 0 (length calls) place (omega arith) in
          omega arith;
      keeps = kept;
    };
  }

-- a front of a legal merge is begun
pub front_begun : (n : ℕ) (calls : List Shape) (front : List ℕ) → BeginsMerge n calls front →
    IsBegun n calls front
front_begun n calls front goes = record {
  at_most_once = λ place. most place (nat_lt place (length calls)) refl;
  no_other = λ place past.
      let a = sum_by-append (λ (x : ℕ). cond (x == place) 1 0) front goes.rest in
      let b = goes.legal.no_other place past in
      omega arith;
  keeps = λ before place after is first must.
      goes.legal.keeps before place (after ++ goes.rest)
      (ap (λ l. l ++ goes.rest) is ∙ append_assoc before (place ∷ after) goes.rest) first must;
} where
  most : (place : ℕ) (t : Bool) → nat_lt place (length calls) ≡ t → times_among front place ≤ 1
  most place true is =
      let a = sum_by-append (λ (x : ℕ). cond (x == place) 1 0) front goes.rest in
      let low : place < length calls = grind (arith, nat_tests) in
      let b = goes.legal.each_once place low in
      omega arith
  most place false is =
      let a = sum_by-append (λ (x : ℕ). cond (x == place) 1 0) front goes.rest in
      let high : length calls ≤ place = grind (arith, nat_tests) in
      let b = goes.legal.no_other place high in
      omega arith

pub begins_where_it_is_begun : BeginsWhereItIsBegun
begins_where_it_is_begun n calls front = record {
  begins = λ begun. begun_goes_on n calls front begun;
  is_begun = λ goes. front_begun n calls front goes;
}
