-- What do the operations come to that need memory and change nothing?
use Rattle.class_laws.specs.declared.numbers.WrapSum.{WrapSum}
use Rattle.class_laws.specs.Numbers.{wrap_sum_unit, wrap_sum_join}
use Rattle.execution_definitions.specs.Meanings.{Meaning}
use Rattle.runtime_tests.specs.declared.scarce.Scarce.{Scarce}
use Rattle.runtime_tests.specs.declared.scarce.Need.{Need}

-- a value stays, and nothing is contributed
abbrev pub scarce_meaning : Meaning Scarce Need WrapSum
scarce_meaning = record {
  step = λ value need read. (value, wrap_sum_unit);
  own = λ need. 0;
  unit = wrap_sum_unit;
  join = wrap_sum_join;
}
