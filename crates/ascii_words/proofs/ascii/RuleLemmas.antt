-- The rule on words, where the characters beside a place are ASCII.
use Rattle.std.proofs.Common.{◌≡◌, ℕ, ◌<◌, Bool, cond, not, ◌&&◌, ◌||◌, ◌==◌, List, [], ◌∷◌}
use Rattle.std.proofs.Common.{slice_index, false, unwrap_or, sym, ap, ap₂, ◌∙◌}
use Rattle.ucd_breaks.specs.WordBreak.{word_break}
use Rattle.ucd_emoji.specs.Binary.{is_extended_pictographic}
use Rattle.unicode_segmentation.specs.Segments.{Rule}
use Rattle.unicode_segmentation.specs.Word.{break_by_pair, is_regional, significant, joins, value_at}
use Rattle.unicode_segmentation.specs.Word.{starts_with_half_flag, is_word_break}
use Rattle.unicode_segmentation.proofs.BoolLemmas.{or-false}
use Rattle.unicode_segmentation.proofs.WordLemmas.{significant-kept, starts_with_half_flag-cons}
use Rattle.ascii_words.specs.AsciiWords.{is_joined}
use Rattle.ascii_words.proofs.ascii.ClassLemmas.{is_cr-ascii, is_lf-ascii, is_space-ascii}
use Rattle.ascii_words.proofs.ascii.ClassLemmas.{is_ignored-ascii, is_regional-ascii, word_break-nul}
use Rattle.ascii_words.proofs.ascii.PairLemmas.{glues, unwrap_or-break_by_pair}
use Rattle.ascii_words.proofs.ascii.JoinLemmas.{joins-ascii}

-- two bytes that are in no word, and that are kept together all the same: CR LF, and blanks
abbrev pub is_glued : ℕ → ℕ → Bool
is_glued left right = ((left == 0xD) && (right == 0xA)) || ((left == 0x20) && (right == 0x20))

-- the small rule with what is glued, which the words don't ask for
abbrev pub is_ascii_bound : Rule
is_ascii_bound before after =
    not (is_glued (slice_index before 0) (slice_index after 0)
    || is_joined (slice_index before 1) (slice_index before 0)
    (slice_index after 0) (slice_index after 1))

glues-ascii :
    (b c : ℕ) → b < 128 → c < 128 → glues (word_break b) (word_break c) ≡ is_glued b c
glues-ascii b c lb lc =
    rw (is_cr-ascii b lb, is_lf-ascii c lc, is_space-ascii b lb, is_space-ascii c lc)

value_at-first :
    (cs : List ℕ) → slice_index cs 0 < 128
    → value_at (significant cs) 0 ≡ word_break (slice_index cs 0)
unfolding significant
value_at-first [] low = sym word_break-nul
value_at-first (c ∷ cs) low =
    ap (λ vs. value_at vs 0) (significant-kept c cs (is_ignored-ascii c low))

value_at-second :
    (c : ℕ) (cs : List ℕ) → c < 128 → slice_index cs 0 < 128
    → value_at (significant (c ∷ cs)) 1 ≡ word_break (slice_index cs 0)
value_at-second c cs low next =
    ap (λ vs. value_at vs 1) (significant-kept c cs (is_ignored-ascii c low)) ∙ value_at-first cs next

starts_with_half_flag-ascii :
    (c : ℕ) (cs : List ℕ) → c < 128 → starts_with_half_flag (significant (c ∷ cs)) ≡ false
starts_with_half_flag-ascii c cs low =
    let more = starts_with_half_flag (significant cs) in
    starts_with_half_flag-cons c cs
    ∙ ap₂ (λ i r. cond i more (r && not more)) (is_ignored-ascii c low) (is_regional-ascii c low)

-- in any text: only the two characters on either side have to be ASCII, or the text's end
pub is_word_break-ascii :
    (c : ℕ) (before : List ℕ) (n : ℕ) (after : List ℕ)
    → c < 128 → slice_index before 0 < 128 → n < 128 → slice_index after 0 < 128
    → is_word_break (c ∷ before) (n ∷ after) ≡ is_ascii_bound (c ∷ before) (n ∷ after)
unfolding is_word_break
is_word_break-ascii c before n after lc la ln ld =
    let left = word_break c in
    let right = word_break n in
    let e = is_extended_pictographic n in
    let a = slice_index before 0 in
    let d = slice_index after 0 in
    let values :
    joins (value_at (significant (c ∷ before)) 1) (value_at (significant (c ∷ before)) 0)
    right (value_at (significant after) 0)
    ≡ joins (word_break a) left right (word_break d) =
    ap₂ (λ x y. joins x y right (value_at (significant after) 0))
    (value_at-second c before lc la) (value_at-first (c ∷ before) lc)
    ∙ ap (joins (word_break a) left right) (value_at-first after ld) in
    ap₂ (λ j f. unwrap_or (break_by_pair left right e) (not (j || (f && is_regional right))))
    values (starts_with_half_flag-ascii c before lc)
    ∙ ap (λ j. unwrap_or (break_by_pair left right e) (not j))
    (or-false (joins (word_break a) left right (word_break d)))
    ∙ unwrap_or-break_by_pair (word_break a) left right (word_break d) e
    (is_ignored-ascii c lc) (is_ignored-ascii n ln)
    ∙ ap₂ (λ g j. not (g || j)) (glues-ascii c n lc ln) (joins-ascii a c n d la lc ln ld)
