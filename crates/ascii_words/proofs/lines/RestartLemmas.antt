-- The words after a line feed are those of a text of their own.
use Rattle.std.proofs.Common.{◌≡◌, ℕ, true, List, [], ◌∷◌, ◌++◌, refl, sym, ap, ap₂, ◌∙◌}
use Rattle.std.proofs.Common.{append_assoc, IsAscii, IsUtf8, arith}
use Rattle.std.proofs.lemmas.Str.{chars-append, scalars-chars, IsUtf8-from_ascii, chars-IsAscii}
use Rattle.std.proofs.lemmas.Str.Ascii.{IsAscii-nil, IsAscii-cons}
use Rattle.std.specs.Str.{chars, all_scalars}
use Rattle.unicode_segmentation.specs.Segments.{cut, segments}
use Rattle.unicode_segmentation.specs.Word.{is_word_break}
use Rattle.unicode_segmentation.proofs.SegmentsLemmas.{attach}
use Rattle.ascii_words.specs.Laws.{RestartAtLineEnd}
use Rattle.ascii_words.proofs.pieces.CutLemmas.{onto, onto-push, cut-append}
use Rattle.ascii_words.proofs.pieces.WordsLemmas.{words_among, words_among-append}
use Rattle.ascii_words.proofs.lines.LineFeedLemmas.{is_word_break-past_lf, is_word_break-after_lf}
use Rattle.ascii_words.proofs.lines.LineEndLemmas.{words_among-lf}

cut-past_lf :
    (ys bs before : List ℕ)
    → cut is_word_break (bs ++ 0xA ∷ before) ys [] ≡ cut is_word_break bs ys []
unfolding cut
cut-past_lf [] bs before = refl
cut-past_lf (y ∷ ys) bs before =
    ap₂ (λ b ps. attach b (y ∷ []) ps)
    (is_word_break-past_lf y bs before (ys ++ [])) (cut-past_lf ys (y ∷ bs) before)

-- of characters
words_among-restart :
    (cs ds : List ℕ) → all_scalars cs ≡ true
    → words_among (cut is_word_break [] (cs ++ 0xA ∷ ds) [])
    ≡ words_among (cut is_word_break [] cs []) ++ words_among (cut is_word_break [] ds [])
words_among-restart cs ds s =
    let line = cs ++ 0xA ∷ [] in
    let place : onto line [] ≡ 0xA ∷ onto cs [] = onto-push cs [] 0xA in
    let breaks : is_word_break (onto line []) (ds ++ []) ≡ true =
    ap (λ b. is_word_break b (ds ++ [])) place ∙ is_word_break-after_lf (onto cs []) (ds ++ []) in
    ap (λ t. words_among (cut is_word_break [] t [])) (sym (append_assoc cs (0xA ∷ []) ds))
    ∙ ap words_among (cut-append is_word_break [] line ds [] breaks)
    ∙ words_among-append (cut is_word_break [] line (ds ++ [])) (cut is_word_break (onto line []) ds [])
    ∙ ap₂ ◌++◌ (words_among-lf (ds ++ []) cs s)
    (ap (λ b. words_among (cut is_word_break b ds [])) place
    ∙ ap words_among (cut-past_lf ds [] (onto cs [])))

IsAscii-lf : IsAscii (0xA ∷ [])
IsAscii-lf = IsAscii-cons 0xA [] (omega arith) IsAscii-nil

pub IsUtf8-lf : IsUtf8 (0xA ∷ [])
IsUtf8-lf = IsUtf8-from_ascii (0xA ∷ []) IsAscii-lf

-- of texts
pub words-restart : RestartAtLineEnd
unfolding segments
words-restart line rest u =
    let one : chars (0xA ∷ rest) ≡ 0xA ∷ chars rest =
    chars-append (0xA ∷ []) rest IsUtf8-lf
    ∙ ap (λ t. t ++ chars rest) (chars-IsAscii (0xA ∷ []) IsAscii-lf) in
    ap (λ t. words_among (cut is_word_break [] t []))
    (chars-append line (0xA ∷ rest) u ∙ ap (λ t. chars line ++ t) one)
    ∙ words_among-restart (chars line) (chars rest) (scalars-chars line u)
