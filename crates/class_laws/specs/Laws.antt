-- When does the order of contributions not matter?
--
-- Joins may be ordered and grouped at will. The unit adds nothing to a value that the unit or a
-- join made: a law speaks of all whole numbers, and one that is past the type's end, which no call
-- makes, is brought below it by the first join.
use Rattle.std.specs.Prelude.{◌≡◌}
pub mod Counts
pub mod Numbers
pub mod Pairs

-- the laws of a reducible
pub record ReducibleLaws {M : Type 0} (unit : M) (join : M → M → M) : Type 0 where
  pub associative : (a b c : M) → join a (join b c) ≡ join (join a b) c
  pub commutative : (a b : M) → join a b ≡ join b a
  pub unit_of_unit : join unit unit ≡ unit
  pub unit_of_join : (a b : M) → join (join a b) unit ≡ join a b
