-- What the rule on words reads beside a line feed.
use Rattle.std.proofs.Common.{◌≡◌, ℕ, Bool, true, false, cond, not, ◌&&◌, ◌||◌, List, [], ◌∷◌, ◌++◌}
use Rattle.std.proofs.Common.{Some, Option, unwrap_or, refl, ap, ap₂, ◌∙◌}
use Rattle.ucd_breaks.specs.WordBreak.{word_break}
use Rattle.ucd_breaks.specs.declared.WordBreak.{WordBreak}
use Rattle.ucd_breaks.specs.declared.WordBreak.TheVariants.{Cr, Lf}
use Rattle.ucd_emoji.specs.Binary.{is_extended_pictographic}
use Rattle.unicode_segmentation.specs.Word.{break_by_pair, is_ignored, is_regional, significant}
use Rattle.unicode_segmentation.specs.Word.{starts_with_half_flag, joins, value_at, joins_flag}
use Rattle.unicode_segmentation.specs.Word.{is_word_break}
use Rattle.unicode_segmentation.proofs.BoolLemmas.{and-false, or-false}
use Rattle.ascii_words.proofs.ascii.ClassLemmas.{is_cr, word_break-lf}

-- ---- a line feed among values

significant-lf : (cs : List ℕ) → significant (0xA ∷ cs) ≡ Lf ∷ significant cs
unfolding significant
significant-lf cs =
    ap (λ v. cond (is_ignored v) (significant cs) (v ∷ significant cs)) word_break-lf

significant-past_lf :
    (bs cs : List ℕ) → significant (bs ++ 0xA ∷ cs) ≡ significant bs ++ Lf ∷ significant cs
unfolding significant
significant-past_lf [] cs = significant-lf cs
significant-past_lf (b ∷ bs) cs =
    ap (λ vs. cond (is_ignored (word_break b)) vs (word_break b ∷ vs)) (significant-past_lf bs cs)
    ∙ by (is_ignored (word_break b))
  where
    by :
        (ignored : Bool)
        → cond ignored (significant bs ++ Lf ∷ significant cs)
        (word_break b ∷ (significant bs ++ Lf ∷ significant cs))
        ≡ cond ignored (significant bs) (word_break b ∷ significant bs) ++ Lf ∷ significant cs
    by true = refl
    by false = refl

starts_with_half_flag-lf :
    (vs ws : List WordBreak)
    → starts_with_half_flag (vs ++ Lf ∷ ws) ≡ starts_with_half_flag vs
unfolding starts_with_half_flag
starts_with_half_flag-lf [] ws = refl
starts_with_half_flag-lf (v ∷ vs) ws =
    ap (λ b. is_regional v && not b) (starts_with_half_flag-lf vs ws)

-- what stands before a line feed joins nothing after it
joins-past_lf :
    (vs ws : List WordBreak) (right far_right : WordBreak)
    → joins (value_at (vs ++ Lf ∷ ws) 1) (value_at (vs ++ Lf ∷ ws) 0) right far_right
    ≡ joins (value_at vs 1) (value_at vs 0) right far_right
joins-past_lf [] ws right far_right = simp (and-false, or-false)
joins-past_lf (v ∷ []) ws right far_right = refl
joins-past_lf (v ∷ (w ∷ vs)) ws right far_right = refl

-- what follows a line feed isn't asked for
joins-to_lf :
    (far_left left right : WordBreak) (vs ws : List WordBreak)
    → joins far_left left right (value_at (vs ++ Lf ∷ ws) 0)
    ≡ joins far_left left right (value_at vs 0)
joins-to_lf far_left left right [] ws = refl
joins-to_lf far_left left right (v ∷ vs) ws = refl

-- ---- the rule

-- what the rules behind those on pairs say
abbrev breaks_unpaired : List ℕ → ℕ → List ℕ → Bool
breaks_unpaired before n after =
    let left = significant before in
    not (joins (value_at left 1) (value_at left 0) (word_break n) (value_at (significant after) 0)
    || joins_flag before n)

-- the rule, from what the rules on pairs say
abbrev breaks_by : Option Bool → List ℕ → ℕ → List ℕ → Bool
breaks_by pair before n after = unwrap_or pair (breaks_unpaired before n after)

pub is_word_break-past_lf :
    (c : ℕ) (bs before after : List ℕ)
    → is_word_break (c ∷ (bs ++ 0xA ∷ before)) after ≡ is_word_break (c ∷ bs) after
unfolding is_word_break
is_word_break-past_lf c bs before [] = refl
is_word_break-past_lf c bs before (n ∷ after) =
    let right = word_break n in
    let far_right = value_at (significant after) 0 in
    let pair = break_by_pair (word_break c) right (is_extended_pictographic n) in
    let values = significant-past_lf (c ∷ bs) before in
    ap₂ (λ j f. unwrap_or pair (not (j || (f && is_regional right))))
    (ap (λ vs. joins (value_at vs 1) (value_at vs 0) right far_right) values
    ∙ joins-past_lf (significant (c ∷ bs)) (significant before) right far_right)
    (ap starts_with_half_flag values
    ∙ starts_with_half_flag-lf (significant (c ∷ bs)) (significant before))

pub is_word_break-to_lf :
    (c : ℕ) (before : List ℕ) (n : ℕ) (after rest : List ℕ)
    → is_word_break (c ∷ before) (n ∷ (after ++ 0xA ∷ rest))
    ≡ is_word_break (c ∷ before) (n ∷ after)
unfolding is_word_break
is_word_break-to_lf c before n after rest =
    let left = significant (c ∷ before) in
    let right = word_break n in
    let pair = break_by_pair (word_break c) right (is_extended_pictographic n) in
    ap (λ j. unwrap_or pair (not (j || joins_flag (c ∷ before) n)))
    (ap (λ vs. joins (value_at left 1) (value_at left 0) right (value_at vs 0))
    (significant-past_lf after rest)
    ∙ joins-to_lf (value_at left 1) (value_at left 0) right (significant after) (significant rest))

-- ---- beside a line's end

break_by_pair-after_lf : (v : WordBreak) (e : Bool) → break_by_pair Lf v e ≡ Some true
break_by_pair-after_lf _ e = refl

pub is_word_break-after_lf : (before after : List ℕ) → is_word_break (0xA ∷ before) after ≡ true
unfolding is_word_break
is_word_break-after_lf before [] = refl
is_word_break-after_lf before (n ∷ after) =
    let e = is_extended_pictographic n in
    ap (λ o. breaks_by o (0xA ∷ before) n after)
    (ap (λ v. break_by_pair v (word_break n) e) word_break-lf
    ∙ break_by_pair-after_lf (word_break n) e)

break_by_pair-before_lf :
    (v : WordBreak) (e : Bool) → break_by_pair v Lf e ≡ Some (not (is_cr v))
break_by_pair-before_lf Cr e = refl
break_by_pair-before_lf _ e = refl

pub is_word_break-before_lf :
    (c : ℕ) (before after : List ℕ)
    → is_word_break (c ∷ before) (0xA ∷ after) ≡ not (is_cr (word_break c))
unfolding is_word_break
is_word_break-before_lf c before after =
    let e = is_extended_pictographic 0xA in
    ap (λ o. breaks_by o (c ∷ before) 0xA after)
    (ap (λ v. break_by_pair (word_break c) v e) word_break-lf
    ∙ break_by_pair-before_lf (word_break c) e)

break_by_pair-before_cr :
    (v w : WordBreak) (e : Bool) → is_cr w ≡ true → break_by_pair v w e ≡ Some true
break_by_pair-before_cr v Cr e h = by v
  where
    by : (u : WordBreak) → break_by_pair u Cr e ≡ Some true
    by Cr = refl
    by _ = refl
break_by_pair-before_cr v _ e h = cc

pub is_word_break-before_cr :
    (before : List ℕ) (c : ℕ) (after : List ℕ) → is_cr (word_break c) ≡ true
    → is_word_break before (c ∷ after) ≡ true
unfolding is_word_break
is_word_break-before_cr [] c after h = refl
is_word_break-before_cr (b ∷ before) c after h =
    ap (λ o. breaks_by o (b ∷ before) c after)
    (break_by_pair-before_cr (word_break b) (word_break c) (is_extended_pictographic c) h)
