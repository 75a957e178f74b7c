-- When do places begin a legal merge, without a look at those that are to come?
--
-- They do where each is a place of the calls, stands once, and has before it whatever must stand
-- before it.
use Rattle.std.specs.Prelude.{◌≡◌, ℕ, ◌≤◌, true, List, ◌∷◌, ◌++◌, length}
use Rattle.execution_definitions.specs.Shapes.{Shape}
use Rattle.interleavings.specs.Merges.{must_stand_before, is_among, times_among, BeginsMerge}

-- each is a place of the calls, stands once, and behind whatever must stand before it
pub record IsBegun (n : ℕ) (calls : List Shape) (front : List ℕ) : Type 0 where
  pub at_most_once : (place : ℕ) → times_among front place ≤ 1
  pub no_other : (place : ℕ) → length calls ≤ place → times_among front place ≡ 0
  pub keeps :
      (before : List ℕ) (place : ℕ) (after : List ℕ) → front ≡ before ++ place ∷ after →
      (first : ℕ) → must_stand_before n calls first place ≡ true → is_among before first ≡ true

-- the two are one
pub record IsBegunExactly (n : ℕ) (calls : List Shape) (front : List ℕ) : Type 0 where
  pub begins : IsBegun n calls front → BeginsMerge n calls front
  pub is_begun : BeginsMerge n calls front → IsBegun n calls front

-- places begin a legal merge exactly where they are begun
abbrev pub BeginsWhereItIsBegun : Type 0
BeginsWhereItIsBegun = (n : ℕ) (calls : List Shape) (front : List ℕ) → IsBegunExactly n calls front
