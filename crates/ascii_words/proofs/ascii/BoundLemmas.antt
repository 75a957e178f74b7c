-- The pieces of an ASCII text, and which of them are words.
use Rattle.std.proofs.Common.{◌≡◌, ℕ, suc, ◌<◌, Bool, true, false, cond, List, [], ◌∷◌, ◌++◌, map}
use Rattle.std.proofs.Common.{filter, IsAscii, refl, sym, ap, ap₂, subst, ◌∙◌, append-nil}
use Rattle.std.proofs.lemmas.Str.{encodes-IsAscii, chars-IsAscii}
use Rattle.std.proofs.lemmas.Str.Ascii.{IsAscii-nil, IsAscii-cons}
use Rattle.std.specs.Char.{is_ascii_alphanumeric}
use Rattle.std.specs.List.{list_any}
use Rattle.std.specs.Prelude.{◌||◌, encode_utf8_all}
use Rattle.unicode_segmentation.specs.Segments.{Rule, is_alphanumeric, has_alphanumeric, cut, segments}
use Rattle.unicode_segmentation.specs.Word.{is_word_break, word_bounds}
use Rattle.unicode_segmentation.proofs.AsciiLemmas.{is_alphanumeric_ascii}
use Rattle.unicode_segmentation.proofs.SegmentsLemmas.{attach, AllPieces}
use Rattle.ascii_words.proofs.pieces.CutLemmas.{attach-nil}
use Rattle.ascii_words.proofs.ascii.RuleLemmas.{is_ascii_bound, is_word_break-ascii}

-- ---- the pieces

cut-ascii :
    (before cs : List ℕ) → IsAscii before → IsAscii cs
    → cut is_word_break before cs [] ≡ cut is_ascii_bound before cs []
unfolding cut
cut-ascii before [] h k = refl
cut-ascii before (c ∷ []) h k = attach-nil _ (c ∷ []) ∙ sym (attach-nil _ (c ∷ []))
cut-ascii before (c ∷ (d ∷ cs)) h k =
    let past : IsAscii (c ∷ before) = IsAscii-cons c before (k 0) h in
    let rest : IsAscii (d ∷ cs) = λ i. k (suc i) in
    let later : IsAscii (cs ++ []) = subst IsAscii (sym (append-nil cs)) (λ i. rest (suc i)) in
    ap₂ (λ b ps. attach b (c ∷ []) ps)
    (is_word_break-ascii c before d (cs ++ []) (k 0) (h 0) (rest 0) (later 0))
    (cut-ascii (c ∷ before) (d ∷ cs) past rest)

AllPieces-attach :
    (b : Bool) (c : ℕ) (ps : List (List ℕ)) → c < 128 → AllPieces IsAscii ps
    → AllPieces IsAscii (attach b (c ∷ []) ps)
AllPieces-attach true c ps low h = (IsAscii-cons c [] low IsAscii-nil, h)
AllPieces-attach false c [] low h = (IsAscii-cons c [] low IsAscii-nil, tt)
AllPieces-attach false c (p ∷ ps) low h = (IsAscii-cons c p low h.0, h.1)

-- what is cut from ASCII is ASCII
pub AllPieces-cut :
    (rule : Rule) (before cs after : List ℕ) → IsAscii cs
    → AllPieces IsAscii (cut rule before cs after)
unfolding cut
AllPieces-cut rule before [] after h = tt
AllPieces-cut rule before (c ∷ cs) after h =
    AllPieces-attach (rule (c ∷ before) (cs ++ after)) c _ (h 0)
    (AllPieces-cut rule (c ∷ before) cs after (λ i. h (suc i)))

pub map-encode_utf8_all :
    (ps : List (List ℕ)) → AllPieces IsAscii ps → map encode_utf8_all ps ≡ ps
map-encode_utf8_all [] h = refl
map-encode_utf8_all (p ∷ ps) h = ap₂ ◌∷◌ (encodes-IsAscii p h.0) (map-encode_utf8_all ps h.1)

pub word_bounds-ascii :
    (text : List ℕ) → IsAscii text → word_bounds text ≡ cut is_ascii_bound [] text []
unfolding segments
word_bounds-ascii text h =
    ap (λ t. map encode_utf8_all (cut is_word_break [] t [])) (chars-IsAscii text h)
    ∙ ap (map encode_utf8_all) (cut-ascii [] text IsAscii-nil h)
    ∙ map-encode_utf8_all (cut is_ascii_bound [] text []) (AllPieces-cut is_ascii_bound [] text [] h)

-- ---- the words among them

-- a piece has a letter or a digit
abbrev pub is_word : List ℕ → Bool
is_word = list_any is_ascii_alphanumeric

list_any-ascii : (p : List ℕ) → IsAscii p → list_any is_alphanumeric p ≡ is_word p
list_any-ascii [] h = refl
list_any-ascii (c ∷ p) h =
    ap₂ ◌||◌ (sym (is_alphanumeric_ascii c (h 0))) (list_any-ascii p (λ i. h (suc i)))

pub has_alphanumeric-ascii : (p : List ℕ) → IsAscii p → has_alphanumeric p ≡ is_word p
unfolding has_alphanumeric
has_alphanumeric-ascii p h =
    ap (list_any is_alphanumeric) (chars-IsAscii p h) ∙ list_any-ascii p h

pub filter-ascii :
    (ps : List (List ℕ)) → AllPieces IsAscii ps → filter has_alphanumeric ps ≡ filter is_word ps
filter-ascii [] h = refl
filter-ascii (p ∷ ps) h =
    ap₂ (λ b qs. cond b (p ∷ qs) qs) (has_alphanumeric-ascii p h.0) (filter-ascii ps h.1)
