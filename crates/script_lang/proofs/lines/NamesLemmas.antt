-- A name is a text, and only names have numbers.
use Rattle.std.proofs.Common.{◌≡◌, ℕ, zero, suc, ◌<◌, Bool, true, false, ◌&&◌}
use Rattle.std.proofs.Common.{List, [], ◌∷◌, ◌++◌, length, None, Result, Ok, Err, MatchResult, IsOk}
use Rattle.std.proofs.Common.{refl, sym, ◌∙◌, ap, ap₂, subst, arith, lit<, nat_le}
use Rattle.std.specs.Char.{is_ascii_alphabetic}
use Rattle.std.specs.List.{All, list_all}
use Rattle.std.specs.Str.{IsAscii, IsUtf8}
use Rattle.std.proofs.lemmas.Bool.{false≢true}
use Rattle.std.proofs.lemmas.Bool.Decides.{nat_tests}
use Rattle.std.proofs.lemmas.Option.{slice_get_within, get_or_from_slice_get}
use Rattle.std.proofs.lemmas.Str.{IsUtf8-from_ascii}
use Rattle.text_table.specs.TextTables.{number_of, with_text}
use Rattle.text_table.proofs.TextTablesLemmas.{number_of-none, with_text-new}
use Rattle.script_lang.specs.Tokens.{is_name_byte, is_name}

-- ---- a name is ASCII, so it is a text

and_left : (b d : Bool) → (b && d) ≡ true → b ≡ true
and_left true d h = refl
and_left false d h = h

and_right : (b d : Bool) → (b && d) ≡ true → d ≡ true
and_right true d h = h
and_right false d h = cc

name_byte_ascii : (b : ℕ) → is_name_byte b ≡ true → b < 128
name_byte_ascii b h = grind (arith, nat_tests)

letter_ascii : (b : ℕ) → is_ascii_alphabetic b ≡ true → b < 128
letter_ascii b h = grind (arith, nat_tests)

name_bytes_ascii : (bs : List ℕ) → list_all is_name_byte bs ≡ true → IsAscii bs
name_bytes_ascii [] h i = lit< tt
name_bytes_ascii (b ∷ bs) h zero = name_byte_ascii b (and_left _ (list_all is_name_byte bs) h)
name_bytes_ascii (b ∷ bs) h (suc i) = name_bytes_ascii bs (and_right (is_name_byte b) _ h) i

ascii-cons : (b : ℕ) (bs : List ℕ) → b < 128 → IsAscii bs → IsAscii (b ∷ bs)
ascii-cons b bs h rest zero = h
ascii-cons b bs h rest (suc i) = rest i

name_ascii : (bs : List ℕ) → is_name bs ≡ true → IsAscii bs
name_ascii [] h = absurd (false≢true h)
name_ascii (b ∷ bs) h =
    let front = is_ascii_alphabetic b && nat_le (length bs) 31 in
    let rest : list_all is_name_byte bs ≡ true = and_right front _ h in
    let first : is_ascii_alphabetic b ≡ true =
    and_left _ (nat_le (length bs) 31) (and_left front (list_all is_name_byte bs) h) in
    λ i. ascii-cons b bs (letter_ascii b first) (name_bytes_ascii bs rest) i

pub name_is_text : (bs : List ℕ) → is_name bs ≡ true → IsUtf8 bs
name_is_text bs h = IsUtf8-from_ascii bs (name_ascii bs h)

-- a result that is an error only where the bytes are no text
pub ok_of_text : {T E : Type 0} (P : T → Type 0) (Q : Type 0) (R : E → Type 0) (r : Result T E)
    → MatchResult r P (λ e. ¬ Q × R e) → Q → IsOk r
ok_of_text P Q R (Ok x) h q = refl
ok_of_text P Q R (Err e) h q = absurd (h.0 q)

-- ---- what is no name has no number among names

pub no_number : (names : List (List ℕ)) (word : List ℕ) → All (λ name. is_name name ≡ true) names
    → is_name word ≡ false → number_of names word ≡ None
no_number names word are_names other =
    number_of-none names word (λ n at.
    let within = slice_get_within names n word at in
    let is = get_or_from_slice_get names n word word at in
    false≢true (sym other ∙ subst (λ name. is_name name ≡ true) is (are_names n word within)))

-- ---- a name that wasn't made is added

pub with_name : (names texts : List (List ℕ)) (word name : List ℕ) → texts ≡ names → name ≡ word
    → number_of names word ≡ None → with_text texts name ≡ texts ++ word ∷ []
with_name names texts word name kept is new =
    with_text-new texts name (ap₂ number_of kept is ∙ new) ∙ ap (λ n. texts ++ n ∷ []) is
