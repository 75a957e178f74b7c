-- What do the operations on a number come to?
use Rattle.std.specs.Prelude.{ℕ, ◌+◌, ◌*◌, ◌%◌, ◌^◌}
use Rattle.class_laws.specs.declared.numbers.WrapSum.{WrapSum}
use Rattle.class_laws.specs.Numbers.{wrap_sum_unit, wrap_sum_join}
use Rattle.execution_definitions.specs.Meanings.{Meaning}
use Rattle.lane_tests.specs.declared.number.Number.{Number}
use Rattle.lane_tests.specs.declared.number.Step.{Step}
use Rattle.lane_tests.specs.declared.number.Step.TheVariants.{Add, Mul, TooMuch}

abbrev pub value_after : Step → ℕ → ℕ
value_after (Add k) v = (v + k) % (2 ^ 32)
value_after (Mul k) v = (v * k) % (2 ^ 32)
value_after TooMuch v = v

-- each operation contributes 1
abbrev pub number_meaning : Meaning Number Step WrapSum
number_meaning = record {
  step = λ value step read. (record { 0 = value_after step value.0 }, record { 0 = 1 });
  own = λ step. 0;
  unit = wrap_sum_unit;
  join = wrap_sum_join;
}
