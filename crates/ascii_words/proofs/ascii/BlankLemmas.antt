-- Line ends and blanks are in no word.
use Rattle.std.proofs.Common.{◌≡◌, ℕ, Bool, true, false, ◌&&◌, ◌||◌, ◌==◌, eqb-true, refl, sym, subst}
use Rattle.std.specs.Char.{is_ascii_alphanumeric}
use Rattle.unicode_segmentation.proofs.BoolLemmas.{and-false, or-false}
use Rattle.ascii_words.specs.AsciiWords.{is_joined}
use Rattle.ascii_words.proofs.ascii.RuleLemmas.{is_glued}

-- a carriage return, a line feed or a blank
abbrev pub is_blank : ℕ → Bool
is_blank c = (c == 0xD) || ((c == 0xA) || (c == 0x20))

at_blank : (P : ℕ → Type 0) (c : ℕ) → is_blank c ≡ true → P 0xD → P 0xA → P 0x20 → P c
at_blank P c h x y z = by (c == 0xD) (c == 0xA) (c == 0x20) refl refl refl h
  where
    by :
        (i j k : Bool) → (c == 0xD) ≡ i → (c == 0xA) ≡ j → (c == 0x20) ≡ k
        → (i || (j || k)) ≡ true → P c
    by true j k p q r t = subst P (sym (eqb-true c 0xD p)) x
    by false true k p q r t = subst P (sym (eqb-true c 0xA q)) y
    by false false true p q r t = subst P (sym (eqb-true c 0x20 r)) z
    by false false false p q r t = cc

pub is_joined-after_blank :
    (a b c d : ℕ) → is_blank b ≡ true → is_joined a b c d ≡ false
is_joined-after_blank a b c d h =
    at_blank (λ x. is_joined a x c d ≡ false) b h
    (simp (and-false, or-false)) (simp (and-false, or-false)) (simp (and-false, or-false))

pub is_joined-before_blank :
    (a b c d : ℕ) → is_blank c ≡ true → is_joined a b c d ≡ false
is_joined-before_blank a b c d h =
    at_blank (λ x. is_joined a b x d ≡ false) c h
    (simp (and-false, or-false)) (simp (and-false, or-false)) (simp (and-false, or-false))

pub is_ascii_alphanumeric-blank :
    (c : ℕ) → is_blank c ≡ true → is_ascii_alphanumeric c ≡ false
is_ascii_alphanumeric-blank c h = at_blank (λ x. is_ascii_alphanumeric x ≡ false) c h refl refl refl

-- only these are glued
pub is_glued-blanks :
    (b c : ℕ) → is_glued b c ≡ true → (is_blank b ≡ true) × (is_blank c ≡ true)
is_glued-blanks b c = by (b == 0xD) (b == 0xA) (b == 0x20) (c == 0xD) (c == 0xA) (c == 0x20)
  where
    by :
        (i j k l m n : Bool) → ((i && m) || (k && n)) ≡ true
        → ((i || (j || k)) ≡ true) × ((l || (m || n)) ≡ true)
    by true j k true m n h = (refl, refl)
    by true j k false true n h = (refl, refl)
    by true j true false false true h = (refl, refl)
    by true j true false false false h = cc
    by true j false false false n h = cc
    by false true true true m n h = (refl, refl)
    by false true true false true n h = (refl, refl)
    by false true true false false true h = (refl, refl)
    by false true true false false false h = cc
    by false false true true m n h = (refl, refl)
    by false false true false true n h = (refl, refl)
    by false false true false false true h = (refl, refl)
    by false false true false false false h = cc
    by false j false l m n h = cc
