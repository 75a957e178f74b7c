-- What do two numbers come to when they are joined?
use Rattle.std.specs.Prelude.{ℕ, ◌+◌, ◌%◌, ◌^◌, max}
use Rattle.class_laws.specs.declared.numbers.WrapSum.{WrapSum}
use Rattle.class_laws.specs.declared.numbers.Max.{Max}

-- a number, as a sum
abbrev pub wrap_sum : ℕ → WrapSum
wrap_sum n = record { 0 = n }

-- a number, as a maximum
abbrev pub maximum : ℕ → Max
maximum n = record { 0 = n }

-- the empty sum
abbrev pub wrap_sum_unit : WrapSum
wrap_sum_unit = wrap_sum 0

-- the sum of both, modulo 2^64
abbrev pub wrap_sum_join : WrapSum → WrapSum → WrapSum
wrap_sum_join a b = wrap_sum ((a.0 + b.0) % (2 ^ 64))

-- no number is below it
abbrev pub max_unit : Max
max_unit = maximum 0

-- the greater of both
abbrev pub max_join : Max → Max → Max
max_join a b = maximum (max a.0 b.0)
