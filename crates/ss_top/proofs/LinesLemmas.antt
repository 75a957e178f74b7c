-- The lines of a script, counted byte by byte.
use Rattle.std.proofs.Common.{◌≡◌, ℕ, ◌+◌, ◌<◌, Bool, true, false}
use Rattle.std.proofs.Common.{List, [], ◌∷◌, length, drop, get_or, refl, sym, ap, ◌∙◌, arith, inl, inr}
use Rattle.std.specs.Int.{from_bool}
use Rattle.std.specs.List.{slice_split, onto_first}
use Rattle.std.proofs.lemmas.List.{drop_more}
use Rattle.std.proofs.lemmas.List.Splits.{length-slice_split, slice_split-cons_yes}
use Rattle.std.proofs.lemmas.List.Splits.{slice_split-cons_no}
use Rattle.std.proofs.lemmas.Bool.{cases_Bool}
use Rattle.script_lang.specs.Lines.{is_line_end, without_empty_end, lines}

-- the lines that begin from here on, where a line ended just before or didn't
abbrev pub lines_from : Bool → List ℕ → ℕ
lines_from is_between [] = 0
lines_from is_between (byte ∷ bytes) =
    from_bool is_between + lines_from (is_line_end byte) bytes

-- parts that begin behind the first
abbrev behind_first : List (List ℕ) → List (List ℕ)
behind_first [] = []
behind_first (part ∷ parts) = parts

-- an empty line before some part
empty_line : (parts : List (List ℕ)) → 0 < length parts
    → length (without_empty_end ([] ∷ parts)) ≡ 1 + length (without_empty_end parts)
empty_line [] some = absurd (omega arith)
empty_line (part ∷ parts) some = omega arith

-- a byte more in the first line
longer_line : (byte : ℕ) (parts : List (List ℕ))
    → length (without_empty_end (onto_first byte parts))
    ≡ 1 + length (without_empty_end (behind_first parts))
longer_line byte [] = omega arith
longer_line byte (part ∷ parts) = omega arith

behind_longer : (byte : ℕ) (parts : List (List ℕ))
    → behind_first (onto_first byte parts) ≡ behind_first parts
behind_longer byte [] = refl
behind_longer byte (part ∷ parts) = refl

abbrev parts_of : List ℕ → List (List ℕ)
parts_of bytes = slice_split is_line_end bytes

-- between lines every line is still to come, and within a line those behind it
counted : (bytes : List ℕ)
    → (lines_from true bytes ≡ length (without_empty_end (parts_of bytes)))
    × (lines_from false bytes ≡ length (without_empty_end (behind_first (parts_of bytes))))
counted [] = (refl, refl)
counted (byte ∷ bytes) =
    let rest = counted bytes in
    elim (cases_Bool (is_line_end byte)) [
      | inl ends ↦
          let split = slice_split-cons_yes is_line_end byte bytes ends in
          let some : 0 < length (parts_of bytes) =
          omega (arith, length-slice_split is_line_end bytes) in
          let within : lines_from false (byte ∷ bytes) ≡ length (without_empty_end (parts_of bytes)) =
          omega (arith, ap (λ b. lines_from b bytes) ends, rest.0) in (
            ap (λ b. 1 + lines_from b bytes) ends ∙ ap (λ n. 1 + n) rest.0
                ∙ sym (empty_line (parts_of bytes) some)
                ∙ ap (λ parts. length (without_empty_end parts)) (sym split),
            within ∙ ap (λ parts. length (without_empty_end (behind_first parts))) (sym split),
          )
      | inr goes ↦
          let split = slice_split-cons_no is_line_end byte bytes goes in
          let within :
          lines_from false (byte ∷ bytes)
          ≡ length (without_empty_end (behind_first (parts_of bytes))) =
          omega (arith, ap (λ b. lines_from b bytes) goes, rest.1) in (
            ap (λ b. 1 + lines_from b bytes) goes ∙ ap (λ n. 1 + n) rest.1
                ∙ sym (longer_line byte (parts_of bytes))
                ∙ ap (λ parts. length (without_empty_end parts)) (sym split),
            within ∙ ap (λ parts. length (without_empty_end parts))
                (sym (behind_longer byte (parts_of bytes)))
                ∙ ap (λ parts. length (without_empty_end (behind_first parts))) (sym split),
          )
    ]

pub lines_from-lines : (bytes : List ℕ) → lines_from true bytes ≡ length (lines bytes)
lines_from-lines bytes = (counted bytes).0

-- one byte more
pub lines_from-more : (is_between : Bool) (bytes : List ℕ) (i d : ℕ) → i < length bytes
    → lines_from is_between (drop i bytes)
    ≡ from_bool is_between + lines_from (is_line_end (get_or bytes i d)) (drop (i + 1) bytes)
lines_from-more is_between bytes i d within =
    ap (lines_from is_between) (drop_more bytes i d within)
