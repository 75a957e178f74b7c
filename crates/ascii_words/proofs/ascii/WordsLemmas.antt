-- The words of an ASCII text: those of its pieces are those that the small rule cuts.
use Rattle.std.proofs.Common.{◌≡◌, ◌⊎◌, inl, inr, ℕ, Bool, true, false, cond, not, ◌||◌, List, [], ◌∷◌}
use Rattle.std.proofs.Common.{◌++◌, filter, slice_index, true≢false, refl, sym, ap, ap₂}
use Rattle.std.proofs.Common.{subst, ◌∙◌}
use Rattle.std.specs.Char.{is_ascii_alphanumeric}
use Rattle.unicode_segmentation.specs.Segments.{cut, has_alphanumeric}
use Rattle.unicode_segmentation.proofs.BoolLemmas.{or-false}
use Rattle.unicode_segmentation.proofs.SegmentsLemmas.{attach}
use Rattle.ascii_words.specs.AsciiWords.{is_joined, is_ascii_break, ascii_words}
use Rattle.ascii_words.specs.Laws.{WordsOfAscii}
use Rattle.ascii_words.proofs.pieces.CutLemmas.{attach-nil}
use Rattle.ascii_words.proofs.ascii.RuleLemmas.{is_glued, is_ascii_bound}
use Rattle.ascii_words.proofs.ascii.BoundLemmas.{AllPieces-cut, word_bounds-ascii, is_word}
use Rattle.ascii_words.proofs.ascii.BoundLemmas.{filter-ascii}
use Rattle.ascii_words.proofs.ascii.BlankLemmas.{is_blank, is_joined-after_blank, is_glued-blanks}
use Rattle.ascii_words.proofs.ascii.BlankLemmas.{is_joined-before_blank, is_ascii_alphanumeric-blank}

abbrev words_of : List (List ℕ) → List (List ℕ)
words_of = filter is_word

-- the pieces begin with one that is no word, and all the words of the others come after it
abbrev Dull : List (List ℕ) → List (List ℕ) → Type 0
Dull xs ys =
    (p : List ℕ) × (ps : List (List ℕ))
    × (xs ≡ p ∷ ps) × (is_word p ≡ false) × (words_of ps ≡ words_of ys)

-- both begin with the same piece
abbrev Alike : List (List ℕ) → List (List ℕ) → Type 0
Alike xs ys =
    (p : List ℕ) × (ps : List (List ℕ)) × (qs : List (List ℕ))
    × (xs ≡ p ∷ ps) × (ys ≡ p ∷ qs) × (words_of ps ≡ words_of qs)

words_of-dull : (xs ys : List (List ℕ)) → Dull xs ys → words_of xs ≡ words_of ys
words_of-dull xs ys h =
    ap words_of h.2 ∙ ap (λ b. cond b (h.0 ∷ words_of h.1) (words_of h.1)) h.3 ∙ h.4

words_of-alike : (xs ys : List (List ℕ)) → Alike xs ys → words_of xs ≡ words_of ys
words_of-alike xs ys h =
    ap words_of h.3 ∙ ap (λ l. cond (is_word h.0) (h.0 ∷ l) l) h.5 ∙ sym (ap words_of h.4)

-- a character that is in no word, glued to the next piece or not
dull_step :
    (d : ℕ) (glued : Bool) (xs ys : List (List ℕ)) → is_ascii_alphanumeric d ≡ false
    → words_of xs ≡ words_of ys → (glued ≡ true → Dull xs ys)
    → Dull (attach (not glued) (d ∷ []) xs) ((d ∷ []) ∷ ys)
dull_step d true xs ys none same next =
    let rest = next refl in
    let alone : words_of ((d ∷ []) ∷ ys) ≡ words_of ys =
    ap (λ b. cond (b || false) ((d ∷ []) ∷ words_of ys) (words_of ys)) none in (
      d ∷ rest.0,
      rest.1,
      ap (attach false (d ∷ [])) rest.2,
      ap₂ ◌||◌ none rest.3,
      rest.4 ∙ sym alone,
    )
dull_step d false xs ys none same next =
    let alone : words_of ((d ∷ []) ∷ ys) ≡ words_of ys =
    ap (λ b. cond (b || false) ((d ∷ []) ∷ words_of ys) (words_of ys)) none in
    (d ∷ [], xs, refl, ap (λ b. b || false) none, same ∙ sym alone)

-- any other character, joined to the next piece or not
alike_step :
    (d : ℕ) (joined : Bool) (xs ys : List (List ℕ))
    → words_of xs ≡ words_of ys → (joined ≡ true → Alike xs ys)
    → Alike (attach (not joined) (d ∷ []) xs) (attach (not joined) (d ∷ []) ys)
alike_step d true xs ys same next =
    let rest = next refl in (
      d ∷ rest.0,
      rest.1,
      rest.2,
      ap (attach false (d ∷ [])) rest.3,
      ap (attach false (d ∷ [])) rest.4,
      rest.5,
    )
alike_step d false xs ys same next = (d ∷ [], xs, ys, refl, refl, same)

-- the two ways to cut what begins with d
abbrev Similar : ℕ → List (List ℕ) → List (List ℕ) → Type 0
Similar d xs ys =
    ((is_blank d ≡ true) × Dull xs ys) ⊎ ((is_blank d ≡ false) × Alike xs ys)

words_of-similar :
    (d : ℕ) (xs ys : List (List ℕ)) → Similar d xs ys → words_of xs ≡ words_of ys
words_of-similar d xs ys (inl h) = words_of-dull xs ys h.1
words_of-similar d xs ys (inr h) = words_of-alike xs ys h.1

similar_last : (d : ℕ) (b : Bool) → is_blank d ≡ b → Similar d ((d ∷ []) ∷ []) ((d ∷ []) ∷ [])
similar_last d true e =
    let none = is_ascii_alphanumeric-blank d e in
    inl (
      e,
      (
        d ∷ [],
        [],
        refl,
        ap (λ b. b || false) none,
        sym (ap (λ b. cond (b || false) ((d ∷ []) ∷ []) []) none),
      ),
    )
similar_last d false e = inr (e, (d ∷ [], [], [], refl, refl, refl))

similar_step :
    (a d n z : ℕ) (xs ys : List (List ℕ)) (b : Bool) → is_blank d ≡ b → Similar n xs ys
    → Similar d (attach (not (is_glued d n || is_joined a d n z)) (d ∷ []) xs)
    (attach (not (is_joined a d n z)) (d ∷ []) ys)
similar_step a d n z xs ys true e s =
    let apart : is_joined a d n z ≡ false = is_joined-after_blank a d n z e in
    let same = words_of-similar n xs ys s in
    let next : is_glued d n ≡ true → Dull xs ys = λ g. dull n xs ys (is_glued-blanks d n g).1 s in
    let step = dull_step d (is_glued d n) xs ys (is_ascii_alphanumeric-blank d e) same next in
    inl (
      e,
      subst
          (λ j. Dull (attach (not (is_glued d n || j)) (d ∷ []) xs) (attach (not j) (d ∷ []) ys))
          (sym apart)
          (subst (λ g. Dull (attach (not g) (d ∷ []) xs) ((d ∷ []) ∷ ys))
          (sym (or-false (is_glued d n))) step),
    )
  where
    dull : (n : ℕ) (xs ys : List (List ℕ)) → is_blank n ≡ true → Similar n xs ys → Dull xs ys
    dull n xs ys h (inl k) = k.1
    dull n xs ys h (inr k) = absurd (true≢false (sym h ∙ k.0))
similar_step a d n z xs ys false e s =
    let same = words_of-similar n xs ys s in
    let unglued : is_glued d n ≡ false = no_glue (is_glued d n) refl in
    let step = alike_step d (is_joined a d n z) xs ys same (next s) in
    inr (
      e,
      subst
          (λ g. Alike (attach (not (g || is_joined a d n z)) (d ∷ []) xs)
          (attach (not (is_joined a d n z)) (d ∷ []) ys))
          (sym unglued) step,
    )
  where
    no_glue : (g : Bool) → is_glued d n ≡ g → g ≡ false
    no_glue true g = absurd (true≢false (sym (is_glued-blanks d n g).0 ∙ e))
    no_glue false g = refl

    next : Similar n xs ys → is_joined a d n z ≡ true → Alike xs ys
    next (inl k) j = absurd (true≢false (sym j ∙ is_joined-before_blank a d n z k.0))
    next (inr k) j = k.1

similar :
    (d : ℕ) (cs before : List ℕ)
    → Similar d (cut is_ascii_bound before (d ∷ cs) []) (cut is_ascii_break before (d ∷ cs) [])
unfolding cut
similar d [] before =
    let bound = attach-nil (is_ascii_bound (d ∷ before) []) (d ∷ []) in
    let break = attach-nil (is_ascii_break (d ∷ before) []) (d ∷ []) in
    subst (λ xs. Similar d xs (attach (is_ascii_break (d ∷ before) []) (d ∷ []) [])) (sym bound)
    (subst (λ ys. Similar d ((d ∷ []) ∷ []) ys) (sym break) (similar_last d (is_blank d) refl))
similar d (n ∷ cs) before =
    similar_step (slice_index before 0) d n (slice_index (cs ++ []) 0)
    (cut is_ascii_bound (d ∷ before) (n ∷ cs) []) (cut is_ascii_break (d ∷ before) (n ∷ cs) [])
    (is_blank d) refl (similar n cs (d ∷ before))

words_of-bounds : (text : List ℕ) → words_of (cut is_ascii_bound [] text []) ≡ ascii_words text
unfolding cut
words_of-bounds [] = refl
words_of-bounds (d ∷ cs) = words_of-similar d _ _ (similar d cs [])

pub words-ascii : WordsOfAscii
words-ascii text h =
    ap (filter has_alphanumeric) (word_bounds-ascii text h)
    ∙ filter-ascii (cut is_ascii_bound [] text []) (AllPieces-cut is_ascii_bound [] text [] h)
    ∙ words_of-bounds text
