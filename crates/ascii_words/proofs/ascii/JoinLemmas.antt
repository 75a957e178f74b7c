-- The rules that join, at four ASCII characters.
use Rattle.std.proofs.Common.{◌≡◌, ℕ, ◌<◌, Bool, false, ◌&&◌, ◌||◌, ◌==◌, refl, sym, ap, ap₂}
use Rattle.std.proofs.Common.{◌∙◌}
use Rattle.std.proofs.Math.Bool.{or_assoc}
use Rattle.std.specs.Char.{is_ascii_alphabetic, is_ascii_digit}
use Rattle.std.specs.Int.{is_in_range}
use Rattle.ucd_breaks.specs.WordBreak.{word_break}
use Rattle.unicode_segmentation.specs.Word.{joins}
use Rattle.unicode_segmentation.proofs.BoolLemmas.{both, both-at, same, same-true}
use Rattle.ascii_words.specs.AsciiWords.{is_run, bridges_letters, bridges_digits, is_bridge, is_joined}
use Rattle.ascii_words.proofs.ascii.ClassLemmas.{is_ah_letter-ascii, is_numeric-ascii}
use Rattle.ascii_words.proofs.ascii.ClassLemmas.{is_extend_num_let-ascii, is_mid_letter-ascii}
use Rattle.ascii_words.proofs.ascii.ClassLemmas.{is_mid_num-ascii, is_hebrew_letter-ascii}
use Rattle.ascii_words.proofs.ascii.ClassLemmas.{is_katakana-ascii}

-- a test of ten values
abbrev Test : Type 0
Test = Bool → Bool → Bool → Bool → Bool → Bool → Bool → Bool → Bool → Bool → Bool

-- Those rules, where no letter is Hebrew and none is Katakana: of the left character whether it is a
-- letter, a digit or '_', the same of the right one, and what four bridges say: right of the left
-- letter, right of the far left letter, right of the far left digit, right of the left digit.
abbrev joins_by : Test
joins_by l d u m e v near far far_digit near_digit =
    (l && m) || near || far || false || false || false || (d && e) || (l && e) || (d && m)
    || far_digit || near_digit || false || ((l || d || false || u) && v)
    || (u && (m || e || false))

-- the small rule
abbrev joined_by : Test
joined_by l d u m e v near far far_digit near_digit =
    (((d || l) || u) && ((e || m) || v)) || ((near || near_digit) || (far || far_digit))

-- they agree at all values: a table of 1,024 rows, which is computed
joins_by-joined_by :
    (l d u m e v w x y z : Bool) → joins_by l d u m e v w x y z ≡ joined_by l d u m e v w x y z
joins_by-joined_by l d u m e v w x y z =
    same-true _ _
    (both-at (λ z. test l d u m e v w x y z)
    (both-at (λ y. at_z l d u m e v w x y)
    (both-at (λ x. at_y l d u m e v w x)
    (both-at (λ w. at_x l d u m e v w)
    (both-at (λ v. at_w l d u m e v)
    (both-at (λ e. at_v l d u m e)
    (both-at (λ m. at_e l d u m)
    (both-at (λ u. at_m l d u)
    (both-at (λ d. at_u l d)
    (both-at at_d refl l) d) u) m) e) v) w) x) y) z)
  where
    test : Test
    test l d u m e v w x y z = same (joins_by l d u m e v w x y z) (joined_by l d u m e v w x y z)

    at_z : Bool → Bool → Bool → Bool → Bool → Bool → Bool → Bool → Bool → Bool
    at_z l d u m e v w x y = both (λ z. test l d u m e v w x y z)

    at_y : Bool → Bool → Bool → Bool → Bool → Bool → Bool → Bool → Bool
    at_y l d u m e v w x = both (λ y. at_z l d u m e v w x y)

    at_x : Bool → Bool → Bool → Bool → Bool → Bool → Bool → Bool
    at_x l d u m e v w = both (λ x. at_y l d u m e v w x)

    at_w : Bool → Bool → Bool → Bool → Bool → Bool → Bool
    at_w l d u m e v = both (λ w. at_x l d u m e v w)

    at_v : Bool → Bool → Bool → Bool → Bool → Bool
    at_v l d u m e = both (λ v. at_w l d u m e v)

    at_e : Bool → Bool → Bool → Bool → Bool
    at_e l d u m = both (λ e. at_v l d u m e)

    at_m : Bool → Bool → Bool → Bool
    at_m l d u = both (λ m. at_e l d u m)

    at_u : Bool → Bool → Bool
    at_u l d = both (λ u. at_m l d u)

    at_d : Bool → Bool
    at_d l = both (λ d. at_u l d)

pub is_run-parts :
    (c : ℕ) → is_run c ≡ ((is_ascii_digit c || is_ascii_alphabetic c) || (c == 0x5F))
is_run-parts c =
    ap (λ b. b || (c == 0x5F))
    (or_assoc (is_in_range 48 57 c) (is_in_range 65 90 c) (is_in_range 97 122 c))

module _ (a b c d : ℕ) (la : a < 128) (lb : b < 128) (lc : c < 128) (ld : d < 128) where
  -- the test of four characters in a row
  abbrev at_four : Test → Bool
  at_four test =
      test (is_ascii_alphabetic b) (is_ascii_digit b) (b == 0x5F)
      (is_ascii_alphabetic c) (is_ascii_digit c) (c == 0x5F)
      (is_ascii_alphabetic b && bridges_letters c && is_ascii_alphabetic d)
      (is_ascii_alphabetic a && bridges_letters b && is_ascii_alphabetic c)
      (is_ascii_digit a && bridges_digits b && is_ascii_digit c)
      (is_ascii_digit b && bridges_digits c && is_ascii_digit d)

  joins-at_four :
      joins (word_break a) (word_break b) (word_break c) (word_break d) ≡ at_four joins_by
  joins-at_four =
      rw (
        is_hebrew_letter-ascii a la,
        is_hebrew_letter-ascii b lb,
        is_katakana-ascii b lb,
        is_katakana-ascii c lc,
        is_ah_letter-ascii a la,
        is_ah_letter-ascii b lb,
        is_ah_letter-ascii c lc,
        is_ah_letter-ascii d ld,
        is_numeric-ascii a la,
        is_numeric-ascii b lb,
        is_numeric-ascii c lc,
        is_numeric-ascii d ld,
        is_extend_num_let-ascii b lb,
        is_extend_num_let-ascii c lc,
        is_mid_letter-ascii b lb,
        is_mid_letter-ascii c lc,
        is_mid_num-ascii b lb,
        is_mid_num-ascii c lc,
      )

  is_joined-at_four : is_joined a b c d ≡ at_four joined_by
  is_joined-at_four =
      ap₂ (λ x y. (x && y) || (is_bridge b c d || is_bridge a b c)) (is_run-parts b) (is_run-parts c)

  pub joins-ascii :
      joins (word_break a) (word_break b) (word_break c) (word_break d) ≡ is_joined a b c d
  joins-ascii =
      joins-at_four
      ∙ joins_by-joined_by (is_ascii_alphabetic b) (is_ascii_digit b) (b == 0x5F)
      (is_ascii_alphabetic c) (is_ascii_digit c) (c == 0x5F)
      (is_ascii_alphabetic b && bridges_letters c && is_ascii_alphabetic d)
      (is_ascii_alphabetic a && bridges_letters b && is_ascii_alphabetic c)
      (is_ascii_digit a && bridges_digits b && is_ascii_digit c)
      (is_ascii_digit b && bridges_digits c && is_ascii_digit d)
      ∙ sym is_joined-at_four
