-- Numbers on the command line.
use Rattle.std.proofs.Common.{◌≡◌, ℕ, ◌^◌, ◌<◌, ◌≤◌, Bool, true, false, cond, nat_le}
use Rattle.std.proofs.Common.{List, [], ◌∷◌, length, Some, None, refl, sym, ap, ap₂, ◌∙◌, arith}
use Rattle.std.proofs.Common.{nat_lt, Result, Ok, Err, is_ok, OkIff, ⊎_elim}
use Rattle.std.specs.Prelude.{◌&&◌, IfSome}
use Rattle.std.specs.declared.option.Option.{Option}
use Rattle.std.specs.Result.{result_ok}
use Rattle.std.proofs.lemmas.Bool.{cases_Bool}
use Rattle.std.specs.Bool.{then_some}
use Rattle.std.specs.Char.{is_ascii_digit}
use Rattle.std.specs.List.{list_all}
use Rattle.std.specs.Str.{all_ascii_digits}
use Rattle.std.specs.Str.Parse.{digits_value}
use Rattle.std.proofs.lemmas.Bool.Decides.{nat_tests}
use Rattle.command_line.specs.Numbers.{is_numeral, number_in}

pub list_all-digits : (bytes : List ℕ) → list_all is_ascii_digit bytes ≡ all_ascii_digits bytes
list_all-digits [] = refl
list_all-digits (b ∷ bs) = ap (λ t. is_ascii_digit b && t) (list_all-digits bs)

and-false : (a : Bool) → (a && false) ≡ false
and-false true = refl
and-false false = refl

-- digits that are few enough are a numeral
pub numeral-short :
    (word : List ℕ) → 0 < length word → length word ≤ 10
    → list_all is_ascii_digit word ≡ is_numeral 10 word
numeral-short word some few =
    let least : nat_le 1 (length word) ≡ true = grind (arith, nat_tests) in
    let most : nat_le (length word) 10 ≡ true = grind (arith, nat_tests) in
    list_all-digits word
    ∙ sym (ap₂ (λ a b. (a && b) && all_ascii_digits word) least most)

-- a word with no numeral has no number
pub number_in-none :
    (least most : ℕ) (word : List ℕ)
    → is_numeral 10 word ≡ false → number_in least most word ≡ None
unfolding number_in
number_in-none least most word other =
    let n = digits_value 10 word in
    ap (λ b. cond (b && (nat_le least n && nat_le n most)) (Some n) None) other

-- a numeral's number is its value, within the bounds
pub number_in-value :
    (least most : ℕ) (word : List ℕ)
    → is_numeral 10 word ≡ true
    → number_in least most word
    ≡ cond (nat_le least (digits_value 10 word) && nat_le (digits_value 10 word) most)
    (Some (digits_value 10 word)) None
unfolding number_in
number_in-value least most word digits =
    let n = digits_value 10 word in
    ap (λ b. cond (b && (nat_le least n && nat_le n most)) (Some n) None) digits

-- a numeral is digits, of which there are some
digits_in : (a b d : Bool) → ((a && b) && d) ≡ true → (a ≡ true) × (d ≡ true)
digits_in true true true digits = (refl, refl)
digits_in true true false digits = cc
digits_in true false d digits = cc
digits_in false b d digits = cc

pub numeral-digits :
    (word : List ℕ) → is_numeral 10 word ≡ true → (0 < length word) × (all_ascii_digits word ≡ true)
numeral-digits word digits =
    let parts = digits_in (nat_le 1 (length word)) (nat_le (length word) 10) (all_ascii_digits word)
    digits in
    (grind (arith, nat_tests, parts.0), parts.1)

-- what isn't parsed is over each bound of 32 bits
pub over_bits :
    {E : Type 0} (r : Result ℕ E) (n v most : ℕ)
    → is_ok r ≡ false → OkIff r ((0 < n) × (v < 2 ^ 32)) v → 0 < n → most < 2 ^ 32 → most < v
over_bits (Ok x) n v most other parsed some fits = cc
over_bits (Err e) n v most other parsed some fits =
    ⊎_elim
    (λ small. absurd (parsed (some, grind (arith, nat_tests))))
    (λ large. grind (arith, nat_tests))
    (cases_Bool (nat_lt v (2 ^ 32)))

-- what is parsed is the value
pub parsed_value :
    {E : Type 0} (r : Result ℕ E) (P : Type 0) (v n : ℕ)
    → result_ok r ≡ Some n → OkIff r P v → n ≡ v
parsed_value (Ok x) P v n is parsed = let same : x ≡ n = cc in sym same ∙ parsed.1
parsed_value (Err e) P v n is parsed = cc

-- a value over the bound is none
pub number_in-over :
    (least most : ℕ) (word : List ℕ)
    → is_numeral 10 word ≡ true → most < digits_value 10 word → number_in least most word ≡ None
number_in-over least most word digits over =
    let n = digits_value 10 word in
    let beyond : nat_le n most ≡ false = grind (arith, nat_tests) in
    number_in-value least most word digits
    ∙ ap (λ b. cond (nat_le least n && b) (Some n) None) beyond
    ∙ ap (λ b. cond b (Some n) None) (and-false (nat_le least n))

within : (a b d : Bool) (least most n m : ℕ)
    → a ≡ nat_le least n → b ≡ nat_le n most
    → cond (d && (a && b)) (Some n) None ≡ Some m → (least ≤ m) × (m ≤ most)
within a b false least most n m low high e = cc
within a false true least most n m low high e =
    let none : (a && false) ≡ false = and-false a in cc
within false true true least most n m low high e = cc
within true true true least most n m low high e =
    let same : n ≡ m = cc in
    (grind (arith, nat_tests), grind (arith, nat_tests))

-- a number stands within its bounds
pub number_in-within :
    (least most n : ℕ) (word : List ℕ)
    → number_in least most word ≡ Some n → (least ≤ n) × (n ≤ most)
unfolding number_in
number_in-within least most n word e =
    let value = digits_value 10 word in
    within (nat_le least value) (nat_le value most) (is_numeral 10 word) least most value n refl
    refl e

pub then_some_is : (b : Bool) (n : ℕ) → then_some b n ≡ cond b (Some n) None
then_some_is true n = refl
then_some_is false n = refl

-- of what is a number
pub number_in-bounds :
    (least most : ℕ) (word : List ℕ) (found : Option ℕ) → found ≡ number_in least most word
    → IfSome found (λ n. (least ≤ n) × (n ≤ most))
number_in-bounds least most word None is = tt
number_in-bounds least most word (Some n) is = number_in-within least most n word (sym is)
