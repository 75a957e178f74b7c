-- What the table of Word_Break says of ASCII characters.
use Rattle.std.proofs.Common.{◌≡◌, ℕ, ◌<◌, Bool, true, false, ◌==◌, refl}
use Rattle.std.specs.Char.{is_ascii_alphabetic, is_ascii_digit}
use Rattle.ucd_table.proofs.Facts.{Stepped-below, passes_below}
use Rattle.ucd_breaks.specs.WordBreak.{word_break}
use Rattle.ucd_breaks.specs.declared.WordBreak.{WordBreak}
use Rattle.ucd_breaks.specs.declared.WordBreak.TheVariants.{Cr, Lf, WSegSpace, Other}
use Rattle.ucd_breaks.proofs.Computing.{ucd_breaks}
use Rattle.ucd_breaks.proofs.WordBreakLemmas.{word_break_stepped}
use Rattle.unicode_segmentation.specs.Word.{is_ignored, is_ah_letter, is_hebrew_letter}
use Rattle.unicode_segmentation.specs.Word.{is_mid_letter, is_mid_num, is_numeric, is_katakana}
use Rattle.unicode_segmentation.specs.Word.{is_extend_num_let, is_regional}
use Rattle.unicode_segmentation.proofs.BoolLemmas.{same, same-true}
use Rattle.ascii_words.specs.AsciiWords.{bridges_letters, bridges_digits}

abbrev pub is_cr : WordBreak → Bool
is_cr Cr = true
is_cr _ = false

abbrev pub is_lf : WordBreak → Bool
is_lf Lf = true
is_lf _ = false

abbrev pub is_space : WordBreak → Bool
is_space WSegSpace = true
is_space _ = false

-- the test of each ASCII character is that of its value
abbrev agree : (WordBreak → Bool) → (ℕ → Bool) → Bool
agree of_value of_char =
    passes_below word_break word_break_stepped (λ c v. same (of_value v) (of_char c)) 128

on_ascii :
    (of_value : WordBreak → Bool) (of_char : ℕ → Bool) → agree of_value of_char ≡ true
    → (c : ℕ) → c < 128 → of_value (word_break c) ≡ of_char c
on_ascii of_value of_char ok c below =
    same-true _ _
    (Stepped-below word_break word_break_stepped (λ c v. same (of_value v) (of_char c)) 128 ok c below)

pub is_ah_letter-ascii :
    (c : ℕ) → c < 128 → is_ah_letter (word_break c) ≡ is_ascii_alphabetic c
unfolding ucd_breaks
is_ah_letter-ascii = on_ascii is_ah_letter is_ascii_alphabetic refl

pub is_numeric-ascii : (c : ℕ) → c < 128 → is_numeric (word_break c) ≡ is_ascii_digit c
unfolding ucd_breaks
is_numeric-ascii = on_ascii is_numeric is_ascii_digit refl

pub is_extend_num_let-ascii :
    (c : ℕ) → c < 128 → is_extend_num_let (word_break c) ≡ (c == 0x5F)
unfolding ucd_breaks
is_extend_num_let-ascii = on_ascii is_extend_num_let (λ c. c == 0x5F) refl

pub is_mid_letter-ascii : (c : ℕ) → c < 128 → is_mid_letter (word_break c) ≡ bridges_letters c
unfolding ucd_breaks
is_mid_letter-ascii = on_ascii is_mid_letter bridges_letters refl

pub is_mid_num-ascii : (c : ℕ) → c < 128 → is_mid_num (word_break c) ≡ bridges_digits c
unfolding ucd_breaks
is_mid_num-ascii = on_ascii is_mid_num bridges_digits refl

pub is_cr-ascii : (c : ℕ) → c < 128 → is_cr (word_break c) ≡ (c == 0xD)
unfolding ucd_breaks
is_cr-ascii = on_ascii is_cr (λ c. c == 0xD) refl

pub is_lf-ascii : (c : ℕ) → c < 128 → is_lf (word_break c) ≡ (c == 0xA)
unfolding ucd_breaks
is_lf-ascii = on_ascii is_lf (λ c. c == 0xA) refl

pub is_space-ascii : (c : ℕ) → c < 128 → is_space (word_break c) ≡ (c == 0x20)
unfolding ucd_breaks
is_space-ascii = on_ascii is_space (λ c. c == 0x20) refl

-- ---- what no ASCII character is

pub is_hebrew_letter-ascii : (c : ℕ) → c < 128 → is_hebrew_letter (word_break c) ≡ false
unfolding ucd_breaks
is_hebrew_letter-ascii = on_ascii is_hebrew_letter (λ c. false) refl

pub is_katakana-ascii : (c : ℕ) → c < 128 → is_katakana (word_break c) ≡ false
unfolding ucd_breaks
is_katakana-ascii = on_ascii is_katakana (λ c. false) refl

pub is_ignored-ascii : (c : ℕ) → c < 128 → is_ignored (word_break c) ≡ false
unfolding ucd_breaks
is_ignored-ascii = on_ascii is_ignored (λ c. false) refl

pub is_regional-ascii : (c : ℕ) → c < 128 → is_regional (word_break c) ≡ false
unfolding ucd_breaks
is_regional-ascii = on_ascii is_regional (λ c. false) refl

-- ---- single characters

pub word_break-nul : word_break 0 ≡ Other
unfolding ucd_breaks
word_break-nul = refl

pub word_break-lf : word_break 0xA ≡ Lf
unfolding ucd_breaks
word_break-lf = refl
