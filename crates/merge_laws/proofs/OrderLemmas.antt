-- Orders of places: taking out the least place that is left.
use Rattle.std.proofs.Common.{◌≡◌, ℕ, ◌+◌, ◌<◌, ◌≤◌, ◌≢◌, Bool, true, false, ◌||◌, cond, List, [], ◌∷◌, ◌++◌, length, refl, sym, ap, ◌∙◌, subst, arith}
use Rattle.std.specs.Prelude.{◌==◌}
use Rattle.std.proofs.lemmas.Bool.{eqb-true}
use Rattle.std.proofs.lemmas.Bool.Decides.{nat_tests}
use Rattle.std.proofs.lemmas.List.Folds.{list_any-append}
use Rattle.std.proofs.lemmas.List.Sums.{sum_by-append}
use Rattle.execution_definitions.specs.Shapes.{Shape}
use Rattle.interleavings.specs.Merges.{must_stand_before, is_among, times_among}

pub times-first : (first : ℕ) (rest : List ℕ) (place : ℕ) →
    times_among (first ∷ rest) place ≡ cond (first == place) 1 0 + times_among rest place
times-first first rest place =
    let e = sum_by-append (λ (x : ℕ). cond (x == place) 1 0) (first ∷ []) rest in omega arith

-- one place more, wherever it stands
pub times-between : (front : List ℕ) (place : ℕ) (rest : List ℕ) (other : ℕ) →
    times_among (front ++ place ∷ rest) other
    ≡ cond (place == other) 1 0 + times_among (front ++ rest) other
times-between front place rest other =
    let a = sum_by-append (λ (x : ℕ). cond (x == other) 1 0) front (place ∷ rest) in
    let b = sum_by-append (λ (x : ℕ). cond (x == other) 1 0) front rest in
    let c = times-first place rest other in
    omega arith

itself : (place : ℕ) → (place == place) ≡ true
itself place = grind (arith, nat_tests)

-- a place that stands in an order stands there
pub times-here : (front : List ℕ) (place : ℕ) (rest : List ℕ) →
    times_among (front ++ place ∷ rest) place ≡ 1 + times_among (front ++ rest) place
times-here front place rest =
    times-between front place rest place
    ∙ ap (λ (b : Bool). cond b 1 0 + times_among (front ++ rest) place) (itself place)

pub times-other : (front : List ℕ) (place : ℕ) (rest : List ℕ) (other : ℕ) → place ≢ other →
    times_among (front ++ place ∷ rest) other ≡ times_among (front ++ rest) other
times-other front place rest other differ =
    let apart : (place == other) ≡ false = grind (arith, nat_tests) in
    times-between front place rest other
    ∙ ap (λ (b : Bool). cond b 1 0 + times_among (front ++ rest) other) apart
    ∙ zero_more (times_among (front ++ rest) other) where
      zero_more : (k : ℕ) → 0 + k ≡ k
      zero_more k = omega arith

-- an order, parted at the first time that a place stands there
pub record IsParted (order : List ℕ) (place : ℕ) : Type 0 where
  pub front : List ℕ
  pub rest : List ℕ
  pub is : order ≡ front ++ place ∷ rest
  pub absent : is_among front place ≡ false

part_on : (first : ℕ) (rest : List ℕ) (place : ℕ) (test : Bool) → (first == place) ≡ test →
    (test ≡ false → IsParted rest place) → IsParted (first ∷ rest) place
part_on first rest place true is later = record {
  front = [];
  rest = rest;
  is = ap (λ p. p ∷ rest) (eqb-true first place is);
  absent = refl;
}
part_on first rest place false is later =
    let parted = later refl in
    record {
      front = first ∷ parted.front;
      rest = parted.rest;
      is = ap (λ places. first ∷ places) parted.is;
      absent = rw is parted.absent;
    }

-- a place that is counted stands there
pub part_at : (order : List ℕ) (place : ℕ) → times_among order place ≡ 1 → IsParted order place
part_at [] place once = absurd (omega arith)
part_at (first ∷ rest) place once =
    part_on first rest place (first == place) refl (λ apart. part_at rest place
    (times_rest first rest place apart once)) where
      times_rest : (first : ℕ) (rest : List ℕ) (place : ℕ) → (first == place) ≡ false →
          times_among (first ∷ rest) place ≡ 1 → times_among rest place ≡ 1
      times_rest first rest place apart once =
          let f : times_among (first ∷ rest) place ≡ 0 + times_among rest place =
          times-first first rest place
          ∙ ap (λ (b : Bool). cond b 1 0 + times_among rest place) apart in
          omega arith

or_second : (a b : Bool) → a ≡ false → (a || b) ≡ true → b ≡ true
or_second true b apart either = absurd cc
or_second false b apart either = either

-- and one that is among them
pub part_among : (order : List ℕ) (place : ℕ) → is_among order place ≡ true → IsParted order place
part_among [] place among = absurd cc
part_among (first ∷ rest) place among =
    part_on first rest place (first == place) refl (λ apart. part_among rest place
    (or_second (first == place) (is_among rest place) apart among))

or_absent : (a b : Bool) → (a || b) ≡ false → a ≡ false
or_absent true b none = absurd cc
or_absent false b none = refl

-- what is absent is absent from the front
pub absent_before : (front rest : List ℕ) (place : ℕ) → is_among (front ++ rest) place ≡ false →
    is_among front place ≡ false
absent_before front rest place absent =
    or_absent (is_among front place) (is_among rest place)
    (sym (list_any-append (λ (p : ℕ). p == place) front rest) ∙ absent)

-- where a place stands it is among the places
pub present : (front : List ℕ) (place : ℕ) (rest : List ℕ) →
    is_among (front ++ place ∷ rest) place ≡ true
present [] place rest = rw (itself place) refl
present (first ∷ front) place rest =
    rw (present front place rest) (or_true (first == place)) where
      or_true : (b : Bool) → (b || true) ≡ true
      or_true true = refl
      or_true false = refl

-- an order parted elsewhere, with one place more
record IsWidened (front rest : List ℕ) (new : ℕ) (first : List ℕ) (place : ℕ) : Type 0 where
  pub before : List ℕ
  pub after : List ℕ
  pub is : front ++ new ∷ rest ≡ before ++ place ∷ after
  pub among :
      (other : ℕ) → new ≢ other → is_among before other ≡ true → is_among first other ≡ true

or_under : (a b c : Bool) → (b ≡ true → c ≡ true) → (a || b) ≡ true → (a || c) ≡ true
or_under true b c under either = refl
or_under false b c under either = under either

pub tail_of : List ℕ → List ℕ
tail_of [] = []
tail_of (first ∷ rest) = rest

widened : (front rest : List ℕ) (new : ℕ) (first : List ℕ) (place : ℕ) (last : List ℕ) →
    front ++ rest ≡ first ++ place ∷ last → IsWidened front rest new first place
widened [] rest new first place last is = record {
  before = new ∷ first;
  after = last;
  is = ap (λ places. new ∷ places) is;
  among = λ other differ among.
      or_second (new == other) (is_among first other) (grind (arith, nat_tests)) among;
}
widened (x ∷ front) rest new [] place last is = record {
  before = [];
  after = front ++ new ∷ rest;
  is = let same : x ≡ place = cc in ap (λ p. p ∷ front ++ new ∷ rest) same;
  among = λ other differ among. among;
}
widened (x ∷ front) rest new (y ∷ first) place last is =
    let same : x ≡ y = cc in
    let tails : front ++ rest ≡ first ++ place ∷ last = cc in
    let w = widened front rest new first place last tails in
    record {
      before = x ∷ w.before;
      after = w.after;
      is = ap (λ places. x ∷ places) w.is;
      among = λ other differ among.
          subst (λ z. (z == other || is_among first other) ≡ true) same
          (or_under (x == other) (is_among w.before other) (is_among first other)
          (w.among other differ) among);
    }

-- the places from here on, each once, none before whatever must stand before it
pub record IsRest (n : ℕ) (calls : List Shape) (done : ℕ) (order : List ℕ) : Type 0 where
  pub each_once :
      (place : ℕ) → done ≤ place → place < length calls → times_among order place ≡ 1
  pub none_done : (place : ℕ) → place < done → times_among order place ≡ 0
  pub none_past : (place : ℕ) → length calls ≤ place → times_among order place ≡ 0
  pub keeps :
      (front : List ℕ) (place : ℕ) (rest : List ℕ) → order ≡ front ++ place ∷ rest →
      (first : ℕ) → done ≤ first → must_stand_before n calls first place ≡ true →
      is_among front first ≡ true

-- a place of the order is not done, and is one of the calls
pub rest_within : (n : ℕ) (calls : List Shape) (done : ℕ) (order : List ℕ) →
    IsRest n calls done order →
    (front : List ℕ) (place : ℕ) (rest : List ℕ) → order ≡ front ++ place ∷ rest →
    (done ≤ place) × (place < length calls)
rest_within n calls done order legal front place rest is =
    let here = times-here front place rest in
    let same = ap (λ (places : List ℕ). times_among places place) is in
    let low : place < done → ⊥ = λ h. let z = legal.none_done place h in omega arith in
    let high : length calls ≤ place → ⊥ = λ h. let z = legal.none_past place h in omega arith in
    (omega arith, omega arith)

gone : (n : ℕ) (calls : List Shape) (done : ℕ) (front rest : List ℕ) →
    done < length calls → IsRest n calls done (front ++ done ∷ rest) →
    (place : ℕ) → place < done + 1 → (test : Bool) → (place == done) ≡ test →
    times_among (front ++ rest) place ≡ 0
gone n calls done front rest within legal place low true is =
    let here = times-here front done rest in
    let once = legal.each_once done (omega arith) within in
    let at_done : times_among (front ++ rest) done ≡ 0 = omega arith in
    ap (λ (p : ℕ). times_among (front ++ rest) p) (eqb-true place done is) ∙ at_done
gone n calls done front rest within legal place low false is =
    let below : place < done = grind (arith, nat_tests) in
    sym (times-other front done rest place (omega arith)) ∙ legal.none_done place below

-- without its least place an order is one of the others
pub rest_behind : (n : ℕ) (calls : List Shape) (done : ℕ) (front rest : List ℕ) →
    done < length calls → IsRest n calls done (front ++ done ∷ rest) →
    IsRest n calls (done + 1) (front ++ rest)
rest_behind n calls done front rest within legal = record {
  each_once = λ place low high.
      sym (times-other front done rest place (omega arith))
      ∙ legal.each_once place (omega arith) high;
  none_done = λ place low.
      gone n calls done front rest within legal place low (place == done) refl;
  none_past = λ place high.
      sym (times-other front done rest place (omega arith)) ∙ legal.none_past place high;
  keeps = λ first place last is other low must.
      let w = widened front rest done first place last is in
      w.among other (omega arith)
      (legal.keeps w.before place w.after w.is other (omega arith) must);
}
