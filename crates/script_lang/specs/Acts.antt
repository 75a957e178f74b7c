-- What does an act do to a value, and what does it contribute?
use Rattle.std.specs.Prelude.{ℕ, ◌+◌, ◌*◌, ◌%◌, ◌^◌, Some, None}
use Rattle.std.specs.declared.option.Option.{Option}
use Rattle.class_laws.specs.declared.numbers.WrapSum.{WrapSum}
use Rattle.class_laws.specs.Numbers.{wrap_sum_unit, wrap_sum_join}
use Rattle.execution_definitions.specs.Meanings.{Meaning}
use Rattle.script_lang.specs.declared.word32.Act.{Act}
use Rattle.script_lang.specs.declared.word32.Act.TheVariants.{Add, Mul, Set, Give, Mix}
use Rattle.script_lang.specs.declared.word32.Deed.{Deed}
use Rattle.script_lang.specs.declared.word32.Word32.{Word32}

-- the value after an act on v, where w was read
abbrev pub value_after : Act → ℕ → ℕ → ℕ
value_after (Add k) v w = (v + k) % (2 ^ 32)
value_after (Mul k) v w = (v * k) % (2 ^ 32)
value_after (Set k) v w = k
value_after Give v w = v
value_after Mix v w = (31 * v + w) % (2 ^ 32)

-- what an act on v contributes
abbrev pub contribution_of : Act → ℕ → ℕ
contribution_of (Add k) v = 0
contribution_of (Mul k) v = 0
contribution_of (Set k) v = 0
contribution_of Give v = v
contribution_of Mix v = 0

-- the value read, or 0 where none is
abbrev pub read_value : Option Word32 → ℕ
read_value None = 0
read_value (Some w) = w.0

-- the meaning of a deed: the value after it, and its contribution
abbrev pub step : Word32 → Deed → Option Word32 → Word32 × WrapSum
step v deed read = (
  record { 0 = value_after deed.act v.0 (read_value read) },
  record { 0 = contribution_of deed.act v.0 },
)

-- the set that a deed names for itself
abbrev pub own_set : Deed → ℕ
own_set deed = deed.set

-- the meaning of the values of scripts
abbrev pub script_meaning : Meaning Word32 Deed WrapSum
script_meaning = record {
  step = step;
  own = own_set;
  unit = wrap_sum_unit;
  join = wrap_sum_join;
}
