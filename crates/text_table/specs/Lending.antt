-- What does a map end as, where a `&mut` to one of its values is returned?
use Rattle.std.specs.Prelude.{ℕ, List}
use Rattle.std.specs.Borrow.{Lends, Fml, RattleType, MutBor}
use Rattle.text_table.specs.TextMaps.{with_value}
use Rattle.text_table.specs.contracts.map.TextMap.{the_row}

-- once the borrow ends, the last value that it shows stands at the number
abbrev pub LendsValue : (V : RattleType) → MutBor (List (List ℕ × V.Denot)) → ℕ → MutBor V.Denot → Fml
LendsValue V map number value = Lends (the_row V) V map value (with_value map.now number)
