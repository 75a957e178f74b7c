-- Which number does a word say?
use Rattle.std.specs.Prelude.{ℕ, Bool, ◌&&◌, nat_le, if◌then◌else◌, List, length, Some, None}
use Rattle.std.specs.declared.option.Option.{Option}
use Rattle.std.specs.Str.{all_ascii_digits}
use Rattle.std.specs.Str.Parse.{digits_value}

-- 1 to `most` decimal digits
abbrev pub is_numeral : ℕ → List ℕ → Bool
is_numeral most word =
    (nat_le 1 (length word) && nat_le (length word) most) && all_ascii_digits word

-- a number of 1 to 10 decimal digits within these bounds; it may begin with zeros
unfoldable pub number_in : ℕ → ℕ → List ℕ → Option ℕ
number_in least most word =
    let n = digits_value 10 word in
    if is_numeral 10 word && (nat_le least n && nat_le n most) then Some n else None
