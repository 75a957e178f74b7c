-- A line's end is in no word: a line feed behind a text adds none to those of the text.
use Rattle.std.proofs.Common.{◌≡◌, ◌⊎◌, inl, inr, ℕ, Bool, true, false, cond, not, List, [], ◌∷◌}
use Rattle.std.proofs.Common.{◌++◌, refl, sym, ap, ap₂, ◌∙◌, append-nil}
use Rattle.std.proofs.lemmas.Bool.{and_parts}
use Rattle.std.proofs.lemmas.Str.{chars-encodes}
use Rattle.std.specs.Prelude.{◌&&◌, ◌||◌, encode_utf8_all}
use Rattle.std.specs.Str.{all_scalars}
use Rattle.std.specs.List.{list_any}
use Rattle.ucd_table.proofs.Facts.{Stepped-everywhere}
use Rattle.ucd_table.proofs.Stepped.{zip_stepped}
use Rattle.ucd_breaks.specs.WordBreak.{word_break}
use Rattle.ucd_breaks.proofs.Computing.{ucd_breaks}
use Rattle.ucd_breaks.proofs.WordBreakLemmas.{word_break_stepped}
use Rattle.ucd_category.specs.GeneralCategory.{general_category}
use Rattle.ucd_category.proofs.Computing.{ucd_category}
use Rattle.ucd_category.proofs.GeneralCategoryLemmas.{general_category_stepped}
use Rattle.ucd_derived.specs.Binary.{is_alphabetic}
use Rattle.ucd_derived.proofs.BinaryLemmas.{is_alphabetic_stepped}
use Rattle.ucd_derived.proofs.Computing.{ucd_derived}
use Rattle.unicode_segmentation.specs.Segments.{is_number, is_alphanumeric, cut, has_alphanumeric}
use Rattle.unicode_segmentation.specs.Word.{is_word_break}
use Rattle.unicode_segmentation.proofs.Computing.{unicode_segmentation}
use Rattle.unicode_segmentation.proofs.SegmentsLemmas.{attach, attach_last, postpend}
use Rattle.ascii_words.proofs.pieces.CutLemmas.{onto, onto-push, attach-nil, postpend-append}
use Rattle.ascii_words.proofs.pieces.CutLemmas.{cut-push}
use Rattle.ascii_words.proofs.pieces.WordsLemmas.{words_among, words_among-push}
use Rattle.ascii_words.proofs.ascii.ClassLemmas.{is_cr}
use Rattle.ascii_words.proofs.lines.LineFeedLemmas.{is_word_break-to_lf, is_word_break-before_lf}
use Rattle.ascii_words.proofs.lines.LineFeedLemmas.{is_word_break-before_cr}

-- ---- the characters of a line's end

is_alphanumeric-cr : (c : ℕ) → is_cr (word_break c) ≡ true → is_alphanumeric c ≡ false
unfolding ucd_breaks ucd_category ucd_derived
is_alphanumeric-cr c h =
    let either =
    zip_stepped (λ a g. a || is_number g) is_alphabetic general_category
    is_alphabetic_stepped general_category_stepped in
    let both =
    zip_stepped (λ v a. not (is_cr v) || not a) word_break is_alphanumeric
    word_break_stepped either in
    by _ _ h
    (Stepped-everywhere (λ x. not (is_cr (word_break x)) || not (is_alphanumeric x)) both refl c)
  where
    by : (x y : Bool) → x ≡ true → (not x || not y) ≡ true → y ≡ false
    by true true p q = sym q
    by true false p q = refl
    by false y p q = cc

has_alphanumeric-lf : has_alphanumeric (encode_utf8_all (0xA ∷ [])) ≡ false
unfolding unicode_segmentation
has_alphanumeric-lf = refl

has_alphanumeric-encodes :
    (cs : List ℕ) → all_scalars cs ≡ true
    → has_alphanumeric (encode_utf8_all cs) ≡ list_any is_alphanumeric cs
unfolding has_alphanumeric
has_alphanumeric-encodes cs s = ap (list_any is_alphanumeric) (chars-encodes cs s)

has_alphanumeric-cr :
    (c : ℕ) → all_scalars (c ∷ []) ≡ true → is_cr (word_break c) ≡ true
    → has_alphanumeric (encode_utf8_all (c ∷ [])) ≡ false
has_alphanumeric-cr c s h =
    has_alphanumeric-encodes (c ∷ []) s ∙ ap (λ b. b || false) (is_alphanumeric-cr c h)

has_alphanumeric-cr_lf :
    (c : ℕ) → all_scalars (c ∷ []) ≡ true → is_cr (word_break c) ≡ true
    → has_alphanumeric (encode_utf8_all (c ∷ (0xA ∷ []))) ≡ false
unfolding ucd_category ucd_derived
has_alphanumeric-cr_lf c s h =
    has_alphanumeric-encodes (c ∷ (0xA ∷ [])) (ap (λ b. b && true) (and_parts _ _ s).0)
    ∙ ap (λ b. b || (is_alphanumeric 0xA || false)) (is_alphanumeric-cr c h)

-- ---- the last character

-- a list is empty or has a last element
abbrev IsEnded : List ℕ → Type 0
IsEnded cs = (cs ≡ []) ⊎ ((ds : List ℕ) × (c : ℕ) × (cs ≡ ds ++ c ∷ []))

ended : (cs : List ℕ) → IsEnded cs
ended [] = inl refl
ended (c ∷ cs) =
    elim (ended cs) [
      | inl e ↦ inr ([], c, ap (λ t. c ∷ t) e)
      | inr h ↦ inr (c ∷ h.0, h.1, ap (λ t. c ∷ t) h.2)
    ]

all_scalars-last :
    (ds : List ℕ) (c : ℕ) → all_scalars (ds ++ c ∷ []) ≡ true → all_scalars (c ∷ []) ≡ true
all_scalars-last [] c s = s
all_scalars-last (d ∷ ds) c s = all_scalars-last ds c (and_parts _ _ s).1

-- ---- the cut before a line feed

cut-to_lf :
    (cs before rest : List ℕ)
    → cut is_word_break before cs (0xA ∷ rest) ≡ cut is_word_break before cs []
unfolding cut
cut-to_lf [] before rest = refl
cut-to_lf (c ∷ []) before rest = attach-nil _ (c ∷ []) ∙ sym (attach-nil _ (c ∷ []))
cut-to_lf (c ∷ (d ∷ cs)) before rest =
    ap₂ (λ b ps. attach b (c ∷ []) ps)
    (is_word_break-to_lf c before d cs rest
    ∙ ap (λ t. is_word_break (c ∷ before) (d ∷ t)) (sym (append-nil cs)))
    (cut-to_lf (d ∷ cs) (c ∷ before) rest)

module _ (after : List ℕ) where
  abbrev pieces : List ℕ → List (List ℕ)
  pieces cs = cut is_word_break [] cs (0xA ∷ after)

  -- the line feed is a piece of its own, or one with a carriage return
  behind_last :
      (ds : List ℕ) (c : ℕ) → all_scalars (c ∷ []) ≡ true → (b : Bool) → is_cr (word_break c) ≡ b
      → words_among (attach_last (not b) (pieces (ds ++ c ∷ [])) (0xA ∷ []))
      ≡ words_among (pieces (ds ++ c ∷ []))
  behind_last ds c s false h =
      words_among-push (pieces (ds ++ c ∷ [])) (0xA ∷ []) has_alphanumeric-lf
  behind_last ds c s true h =
      let front = cut is_word_break [] ds (c ∷ (0xA ∷ after)) in
      let last : pieces (ds ++ c ∷ []) ≡ front ++ (c ∷ []) ∷ [] =
      cut-push is_word_break [] ds c (0xA ∷ after)
      ∙ ap (λ b. attach_last b front (c ∷ []))
      (is_word_break-before_cr (onto ds []) c (0xA ∷ after) h) in
      ap (λ ps. words_among (postpend ps (0xA ∷ []))) last
      ∙ ap words_among (postpend-append front (c ∷ []) (0xA ∷ []))
      ∙ words_among-push front (c ∷ (0xA ∷ [])) (has_alphanumeric-cr_lf c s h)
      ∙ sym (words_among-push front (c ∷ []) (has_alphanumeric-cr c s h))
      ∙ ap words_among (sym last)

  behind_none :
      (cs : List ℕ) → cs ≡ []
      → words_among (cut is_word_break [] (cs ++ 0xA ∷ []) after) ≡ words_among (pieces cs)
  unfolding cut
  behind_none [] e =
      ap words_among (attach-nil (is_word_break (0xA ∷ []) after) (0xA ∷ []))
      ∙ ap (λ b. cond b (encode_utf8_all (0xA ∷ []) ∷ []) []) has_alphanumeric-lf
  behind_none (c ∷ cs) e = cc

  behind :
      (cs : List ℕ) → all_scalars cs ≡ true → IsEnded cs
      → words_among
      (attach_last (is_word_break (onto cs []) (0xA ∷ after)) (pieces cs) (0xA ∷ []))
      ≡ words_among (pieces cs)
  behind cs s (inl e) =
      ap words_among (sym (cut-push is_word_break [] cs 0xA after)) ∙ behind_none cs e
  behind cs s (inr (ds, c, e)) =
      let one : all_scalars (c ∷ []) ≡ true =
      all_scalars-last ds c (ap all_scalars (sym e) ∙ s) in
      let breaks : is_word_break (onto cs []) (0xA ∷ after) ≡ not (is_cr (word_break c)) =
      ap (λ b. is_word_break b (0xA ∷ after)) (ap (λ t. onto t []) e ∙ onto-push ds [] c)
      ∙ is_word_break-before_lf c (onto ds []) after in
      ap₂ (λ b t. words_among (attach_last b (pieces t) (0xA ∷ []))) breaks e
      ∙ behind_last ds c one (is_cr (word_break c)) refl
      ∙ ap (λ t. words_among (pieces t)) (sym e)

  -- whatever comes after the line feed
  pub words_among-lf :
      (cs : List ℕ) → all_scalars cs ≡ true
      → words_among (cut is_word_break [] (cs ++ 0xA ∷ []) after)
      ≡ words_among (cut is_word_break [] cs [])
  words_among-lf cs s =
      ap words_among (cut-push is_word_break [] cs 0xA after)
      ∙ behind cs s (ended cs) ∙ ap words_among (cut-to_lf cs [] after)
