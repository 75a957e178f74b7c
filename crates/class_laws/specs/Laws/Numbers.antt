-- Why do a sum modulo 2^64 and a maximum have the laws? By arithmetic.
use Rattle.std.proofs.Common.{ap, arith}
use Rattle.class_laws.specs.Laws.{ReducibleLaws}
use Rattle.class_laws.specs.Numbers.{wrap_sum, wrap_sum_unit, wrap_sum_join}
use Rattle.class_laws.specs.Numbers.{maximum, max_unit, max_join}

pub wrap_sum_laws : ReducibleLaws wrap_sum_unit wrap_sum_join
wrap_sum_laws = record {
  associative = λ a b c. ap wrap_sum (omega arith);
  commutative = λ a b. ap wrap_sum (omega arith);
  unit_of_unit = ap wrap_sum (omega arith);
  unit_of_join = λ a b. ap wrap_sum (omega arith);
}

pub max_laws : ReducibleLaws max_unit max_join
max_laws = record {
  associative = λ a b c. ap maximum (omega arith);
  commutative = λ a b. ap maximum (omega arith);
  unit_of_unit = ap maximum (omega arith);
  unit_of_join = λ a b. ap maximum (omega arith);
}
