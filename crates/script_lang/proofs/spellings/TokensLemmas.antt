-- What a front part of a word's digits says of the word's value.
use Rattle.std.proofs.Common.{◌≡◌, ℕ, zero, suc, ◌+◌, ◌-◌, ◌*◌, ◌<◌, ◌≤◌}
use Rattle.std.proofs.Common.{Bool, true, false, ◌&&◌, cond}
use Rattle.std.proofs.Common.{List, [], ◌∷◌, length, take, get_or, Some, None}
use Rattle.std.proofs.Common.{nat_le, lit≤, add-one}
use Rattle.std.proofs.Common.{refl, ◌∙◌, ap, arith}
use Rattle.std.specs.Char.{digit_value, is_ascii_digit}
use Rattle.std.specs.Str.{all_ascii_digits}
use Rattle.std.specs.Str.Parse.{digits_value}
use Rattle.std.proofs.Math.Bool.{and-false}
use Rattle.std.proofs.lemmas.Bool.{and_parts}
use Rattle.std.proofs.lemmas.Bool.Decides.{nat_tests}
use Rattle.std.proofs.lemmas.Int.Digits.{digits_value_more}
use Rattle.std.proofs.lemmas.Str.Parse.{digits_value-take-le}
use Rattle.script_lang.specs.Tokens.{is_numeral, value_within}

-- one byte that is no digit
pub no_digits_at : (bs : List ℕ) (i : ℕ) → i < length bs → is_ascii_digit (get_or bs i 0) ≡ false
    → all_ascii_digits bs ≡ false
no_digits_at [] i h other = absurd (omega arith)
no_digits_at (b ∷ bs) zero h other = ap (λ t. t && all_ascii_digits bs) other
no_digits_at (b ∷ bs) (suc i) h other =
    ap (λ t. is_ascii_digit b && t) (no_digits_at bs i (omega arith) other)
    ∙ and-false (is_ascii_digit b)

both : (b d : Bool) → b ≡ true → d ≡ true → (b && d) ≡ true
both b d p q = cc

digits_suc : (bs : List ℕ) (i : ℕ) → i < length bs → all_ascii_digits (take i bs) ≡ true
    → is_ascii_digit (get_or bs i 0) ≡ true → all_ascii_digits (take (suc i) bs) ≡ true
digits_suc [] i h front is_digit = absurd (omega arith)
digits_suc (b ∷ bs) zero h front is_digit = both _ true is_digit refl
digits_suc (b ∷ bs) (suc i) h front is_digit =
    both (is_ascii_digit b) _ (and_parts _ (all_ascii_digits (take i bs)) front).0
    (digits_suc bs i (omega arith) (and_parts (is_ascii_digit b) _ front).1 is_digit)

-- one digit more
pub digits_at : (bs : List ℕ) (i : ℕ) → i < length bs → all_ascii_digits (take i bs) ≡ true
    → is_ascii_digit (get_or bs i 0) ≡ true → all_ascii_digits (take (i + 1) bs) ≡ true
digits_at bs i h front is_digit = rw add-one (digits_suc bs i h front is_digit)

-- the number of a digit
pub digit_value_is : (c : ℕ) → is_ascii_digit c ≡ true → digit_value c ≡ c - 48
digit_value_is c is_digit = grind (arith, nat_tests)

-- a word's value is no less than that of its front part
pub grown : (bs : List ℕ) (i v : ℕ) → i < length bs → v ≡ digits_value 10 (take i bs)
    → is_ascii_digit (get_or bs i 0) ≡ true
    → v * 10 + (get_or bs i 0 - 48) ≤ digits_value 10 bs
grown bs i v h is is_digit =
    omega (
      arith,
      digits_value-take-le 10 bs (i + 1) (lit≤ tt),
      digits_value_more 10 bs i h,
      digit_value_is (get_or bs i 0) is_digit,
    )

-- a word with a byte that is no digit has no value
pub no_value : (most limit : ℕ) (word : List ℕ) → all_ascii_digits word ≡ false
    → value_within most limit word ≡ None
no_value most limit word other =
    let digits = nat_le 1 (length word) && nat_le (length word) most in
    let fits = nat_le (digits_value 10 word) limit in
    ap (λ t. cond ((digits && t) && fits) (Some (digits_value 10 word)) None) other
    ∙ ap (λ t. cond (t && fits) (Some (digits_value 10 word)) None) (and-false digits)

-- a value over the limit is none
pub over_limit : (most limit : ℕ) (word : List ℕ) → limit < digits_value 10 word
    → value_within most limit word ≡ None
over_limit most limit word over =
    let beyond : nat_le (digits_value 10 word) limit ≡ false = grind (arith, nat_tests) in
    ap (λ t. cond (is_numeral most word && t) (Some (digits_value 10 word)) None) beyond
    ∙ ap (λ t. cond t (Some (digits_value 10 word)) None) (and-false (is_numeral most word))
