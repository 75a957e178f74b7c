-- The rules that read a pair of values, where neither is passed over.
use Rattle.std.proofs.Common.{◌≡◌, Bool, true, false, cond, not, ◌&&◌, ◌||◌, Some, None, unwrap_or}
use Rattle.std.proofs.Common.{refl, sym, ap, ◌∙◌}
use Rattle.ucd_breaks.specs.declared.WordBreak.{WordBreak}
use Rattle.ucd_breaks.specs.declared.WordBreak.TheVariants.{Cr, Lf, Newline, WSegSpace}
use Rattle.ucd_breaks.specs.declared.WordBreak.TheVariants.{Extend, Format, Zwj}
use Rattle.unicode_segmentation.specs.Word.{break_by_pair, is_ignored, joins}
use Rattle.unicode_segmentation.proofs.BoolLemmas.{and-false, or-false}
use Rattle.ascii_words.proofs.ascii.ClassLemmas.{is_cr, is_lf, is_space}

-- a line's end in two characters, or two blanks
abbrev pub glues : WordBreak → WordBreak → Bool
glues left right = (is_cr left && is_lf right) || (is_space left && is_space right)

-- it ends a line or a paragraph
abbrev ends : WordBreak → Bool
ends Cr = true
ends Lf = true
ends Newline = true
ends _ = false

break_by_pair-kept :
    (left right : WordBreak) (e : Bool) → is_ignored left ≡ false → is_ignored right ≡ false
    → break_by_pair left right e
    ≡ cond (glues left right) (Some false) (cond (ends left || ends right) (Some true) None)
break_by_pair-kept Cr Lf e l r = refl
break_by_pair-kept WSegSpace WSegSpace e l r = refl
break_by_pair-kept Zwj right e l r = cc
break_by_pair-kept left Extend e l r = cc
break_by_pair-kept left Format e l r = cc
break_by_pair-kept left Zwj e l r = cc
break_by_pair-kept _ _ e l r = refl

joins-after_end :
    (far_left left right far_right : WordBreak) → ends left ≡ true
    → joins far_left left right far_right ≡ false
joins-after_end far_left Cr right far_right h = simp (and-false, or-false)
joins-after_end far_left Lf right far_right h = simp (and-false, or-false)
joins-after_end far_left Newline right far_right h = simp (and-false, or-false)
joins-after_end far_left _ right far_right h = cc

joins-before_end :
    (far_left left right far_right : WordBreak) → ends right ≡ true
    → joins far_left left right far_right ≡ false
joins-before_end far_left left Cr far_right h = simp (and-false, or-false)
joins-before_end far_left left Lf far_right h = simp (and-false, or-false)
joins-before_end far_left left Newline far_right h = simp (and-false, or-false)
joins-before_end far_left left _ far_right h = cc

by_ends :
    (glued x y joined : Bool) → (x ≡ true → joined ≡ false) → (y ≡ true → joined ≡ false)
    → unwrap_or (cond glued (Some false) (cond (x || y) (Some true) None)) (not joined)
    ≡ not (glued || joined)
by_ends true x y joined p q = refl
by_ends false true y joined p q = ap not (sym (p refl))
by_ends false false true joined p q = ap not (sym (q refl))
by_ends false false false joined p q = refl

-- a pair is kept together where it is glued, or where a later rule joins it
pub unwrap_or-break_by_pair :
    (far_left left right far_right : WordBreak) (e : Bool)
    → is_ignored left ≡ false → is_ignored right ≡ false
    → unwrap_or (break_by_pair left right e) (not (joins far_left left right far_right))
    ≡ not (glues left right || joins far_left left right far_right)
unwrap_or-break_by_pair far_left left right far_right e l r =
    ap (λ o. unwrap_or o (not (joins far_left left right far_right)))
    (break_by_pair-kept left right e l r)
    ∙ by_ends (glues left right) (ends left) (ends right) (joins far_left left right far_right)
    (joins-after_end far_left left right far_right) (joins-before_end far_left left right far_right)
