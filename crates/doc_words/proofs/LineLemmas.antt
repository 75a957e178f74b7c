-- The words of a text are those of its first line and those of the rest.
use Rattle.std.proofs.Common.{◌≡◌, ℕ, ◌+◌, ◌<◌, List, [], ◌∷◌, ◌++◌, length, take, slice_index, IsUtf8}
use Rattle.std.proofs.Common.{refl, sym, ap, ap₂, subst, ◌∙◌, arith, append-nil, take_at}
use Rattle.std.proofs.Common.{length-append, get_or-append-add, Bor, Option, Some, None}
use Rattle.std.specs.Prelude.{MatchOption}
use Rattle.std.specs.Iterator.{YieldsFirstRef}
use Rattle.std.proofs.lemmas.Str.{IsUtf8-take, IsCharBoundary-before_ascii}
use Rattle.std.proofs.lemmas.Str.Ascii.{IsAscii-nil}
use Rattle.unicode_segmentation.specs.Segments.{cut}
use Rattle.unicode_segmentation.specs.Word.{words}
use Rattle.ascii_words.proofs.ascii.WordsLemmas.{words-ascii}
use Rattle.ascii_words.proofs.lines.RestartLemmas.{words-restart}

pub words-nil : words [] ≡ []
unfolding cut
words-nil = words-ascii [] IsAscii-nil

-- a line, a line feed and a rest
pub words-first_line :
    (text line rest : List ℕ) → IsUtf8 text → text ≡ line ++ 0xA ∷ rest
    → words text ≡ words line ++ words rest
words-first_line text line rest u e =
    let i = length line in
    let here : i + 0 ≡ i = omega arith in
    let at : slice_index text i ≡ 0xA =
    ap (λ t. slice_index t i) e
    ∙ ap (slice_index (line ++ 0xA ∷ rest)) (sym here) ∙ get_or-append-add line (0xA ∷ rest) 0 0 in
    let inside : i < length text =
    omega (arith, ap length e, length-append line (0xA ∷ rest)) in
    let front : IsUtf8 (take i text) =
    IsUtf8-take text i u (IsCharBoundary-before_ascii text i inside (omega arith)) in
    let first : IsUtf8 line = subst IsUtf8 (ap (take i) e ∙ take_at line (0xA ∷ rest) i refl) front in
    ap words e ∙ words-restart line rest first

-- a line alone
pub words-last_line : (text : List ℕ) → words text ≡ words text ++ words []
words-last_line text =
    sym (ap (λ ws. words text ++ ws) words-nil ∙ append-nil (words text))

-- what the last line gives is what the text gives
pub YieldsFirstRef-last_line :
    (old : List (List ℕ)) (word : Option (Bor (List ℕ))) (line : List (List ℕ)) (rest : List ℕ)
    → rest ≡ []
    → MatchOption word ((line ≡ []) × (old ≡ words rest))
    (λ w. old ≡ w.now ∷ (line ++ words rest))
    → YieldsFirstRef (λ left. left) old word (line ++ words rest)
YieldsFirstRef-last_line old None line rest empty given =
    let none = ap words empty ∙ words-nil in
    (given.1 ∙ none, ap₂ (λ xs ys. xs ++ ys) given.0 none)
YieldsFirstRef-last_line old (Some w) line rest empty given = given
