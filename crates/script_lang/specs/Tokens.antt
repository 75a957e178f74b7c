-- What is a NAME, a NUMBER, and a SET?
use Rattle.std.specs.Prelude.{ℕ, ◌-◌, ◌^◌, Bool, false, ◌&&◌, ◌||◌, ◌==◌, nat_le, if◌then◌else◌}
use Rattle.std.specs.Prelude.{List, [], ◌∷◌, length, Some, None}
use Rattle.std.specs.declared.option.Option.{Option}
use Rattle.std.specs.Char.{is_ascii_alphabetic, is_ascii_alphanumeric}
use Rattle.std.specs.List.{list_all}
use Rattle.std.specs.Str.{all_ascii_digits}
use Rattle.std.specs.Str.Parse.{digits_value}

-- an ASCII letter or digit, or `_`
abbrev pub is_name_byte : ℕ → Bool
is_name_byte byte = is_ascii_alphanumeric byte || (byte == 95)

-- a NAME: 1 to 32 bytes, an ASCII letter and then ASCII letters, digits and `_`
abbrev pub is_name : List ℕ → Bool
is_name [] = false
is_name (first ∷ rest) =
    (is_ascii_alphabetic first && nat_le (length rest) 31) && list_all is_name_byte rest

-- 1 to `most` decimal digits
abbrev pub is_numeral : ℕ → List ℕ → Bool
is_numeral most word =
    (nat_le 1 (length word) && nat_le (length word) most) && all_ascii_digits word

-- the value of 1 to `most` decimal digits, where it is at most `limit`
abbrev pub value_within : ℕ → ℕ → List ℕ → Option ℕ
value_within most limit word =
    if is_numeral most word && nat_le (digits_value 10 word) limit
    then Some (digits_value 10 word) else None

-- the value of a NUMBER
unfoldable pub number_value : List ℕ → Option ℕ
number_value word = value_within 10 (2 ^ 32 - 1) word

-- the value of a SET
unfoldable pub set_value : List ℕ → Option ℕ
set_value word = value_within 20 (2 ^ 64 - 1) word
