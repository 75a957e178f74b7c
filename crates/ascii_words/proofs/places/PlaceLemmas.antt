-- The small rule at a place of an ASCII text, and the words that are left there.
use Rattle.std.proofs.Common.{◌≡◌, inl, inr, ℕ, ◌+◌, ◌-◌, ◌<◌, ◌≤◌, true, false, cond, not, nat_le}
use Rattle.std.proofs.Common.{List, [], ◌∷◌, map, filter, reverse, length, take, drop}
use Rattle.std.proofs.Common.{slice_index, slice_range, get_or, IsAscii, encode_utf8, sym, ap, ap₂}
use Rattle.std.proofs.Common.{◌∙◌, arith, get_or-take, get_or-drop, length-take-le}
use Rattle.std.proofs.lemmas.Bool.{cases_lt}
use Rattle.std.proofs.lemmas.Bool.Decides.{nat_tests}
use Rattle.std.proofs.lemmas.List.{get_or-reverse, get_or_past, length-reverse, drop_more}
use Rattle.std.proofs.lemmas.Str.{encode_ascii, chars-IsAscii, IsUtf8-from_ascii, IsAscii-take}
use Rattle.std.proofs.lemmas.Str.{IsAscii-drop, IsCharBoundary-from_ascii}
use Rattle.std.specs.Prelude.{encode_utf8_all}
use Rattle.unicode_segmentation.specs.Segments.{chars_before, chars_from, breaks_at, segments, cut}
use Rattle.unicode_segmentation.specs.Segments.{segments_between, has_alphanumeric}
use Rattle.unicode_segmentation.specs.Steps.{IsCharAt, IsFirstEnd}
use Rattle.unicode_segmentation.specs.Word.{words}
use Rattle.unicode_segmentation.proofs.SegmentsLemmas.{segments_between-whole, segments_between-same}
use Rattle.unicode_segmentation.proofs.TextLemmas.{IsCharAt-from_bytes}
use Rattle.ascii_words.specs.AsciiWords.{is_joined, is_ascii_break}
use Rattle.ascii_words.specs.Places.{byte_before, is_joined_at, words_left}
use Rattle.ascii_words.proofs.ascii.BoundLemmas.{AllPieces-cut, map-encode_utf8_all, is_word}
use Rattle.ascii_words.proofs.ascii.BoundLemmas.{has_alphanumeric-ascii, filter-ascii}
use Rattle.ascii_words.proofs.ascii.WordsLemmas.{words-ascii}

-- ---- the rule at a place

chars_before-ascii :
    (text : List ℕ) (i : ℕ) → IsAscii text → chars_before text i ≡ reverse (take i text)
chars_before-ascii text i h = ap reverse (chars-IsAscii (take i text) (IsAscii-take text i h))

chars_from-ascii : (text : List ℕ) (i : ℕ) → IsAscii text → chars_from text i ≡ drop i text
chars_from-ascii text i h = chars-IsAscii (drop i text) (IsAscii-drop text i h)

-- the bytes before a place, nearest first
slice_index-before :
    (text : List ℕ) (i n : ℕ) → i ≤ length text
    → slice_index (reverse (take i text)) n ≡ byte_before text i (n + 1)
slice_index-before text i n le =
    let front = take i text in
    let wide : length front ≡ i = length-take-le i text le in
    let byte = slice_index text (i - (n + 1)) in
    elim (cases_lt n i) [
      | inl lt ↦
          let inside : n < length front = omega arith in
          let e : length front - 1 - n ≡ i - (n + 1) = omega arith in
          let yes : nat_le (n + 1) i ≡ true = grind (arith, nat_tests) in
          get_or-reverse front n 0 inside
          ∙ ap (λ k. get_or front k 0) e
          ∙ get_or-take i text (i - (n + 1)) 0 (omega arith)
          ∙ ap (λ b. cond b byte 0) (sym yes)
      | inr ge ↦
          let outside : length (reverse front) ≤ n = omega (arith, length-reverse front) in
          let no : nat_le (n + 1) i ≡ false = grind (arith, nat_tests) in
          get_or_past (reverse front) n 0 outside ∙ ap (λ b. cond b byte 0) (sym no)
    ]

slice_index-from : (text : List ℕ) (i n : ℕ) → slice_index (drop i text) n ≡ slice_index text (i + n)
slice_index-from text i n = get_or-drop i text n 0

pub breaks_at-ascii :
    (text : List ℕ) (i : ℕ) → IsAscii text → i ≤ length text
    → breaks_at is_ascii_break text i ≡ not (is_joined_at text i)
breaks_at-ascii text i h le =
    let here : i + 0 ≡ i = omega arith in
    let after = drop i text in
    ap₂ is_ascii_break (chars_before-ascii text i h) (chars_from-ascii text i h)
    ∙ ap₂ (λ x y. not (is_joined x y (slice_index after 0) (slice_index after 1)))
    (slice_index-before text i 1 le) (slice_index-before text i 0 le)
    ∙ ap₂ (λ x y. not (is_joined (byte_before text i 2) (byte_before text i 1) x y))
    (slice_index-from text i 0 ∙ ap (slice_index text) here) (slice_index-from text i 1)

-- a byte of the text is a character
pub IsCharAt-ascii :
    (text : List ℕ) (i : ℕ) → IsAscii text → i < length text
    → IsCharAt text i (slice_index text i) (i + 1)
IsCharAt-ascii text i h lt =
    let c = slice_index text i in
    let one : i + 1 - i ≡ 1 = omega arith in
    let bytes : slice_range text i (i + 1) ≡ encode_utf8 c =
    ap (λ n. take n (drop i text)) one ∙ ap (take 1) (drop_more text i 0 lt)
    ∙ sym (encode_ascii c (h i)) in
    IsCharAt-from_bytes text (IsUtf8-from_ascii text h) i c (i + 1) (omega arith)
    (IsCharBoundary-from_ascii text i h (omega arith))
    (IsCharBoundary-from_ascii text (i + 1) h (omega arith)) bytes

-- ---- the words that are left

pub words_left-start : (text : List ℕ) → IsAscii text → words_left text 0 ≡ words text
unfolding words_left segments
words_left-start text h =
    let pieces = cut is_ascii_break [] text [] in
    let ascii = AllPieces-cut is_ascii_break [] text [] h in
    sym (words-ascii text h ∙ sym (filter-ascii pieces ascii)
    ∙ ap (filter has_alphanumeric) (
    sym (map-encode_utf8_all pieces ascii)
    ∙ ap (λ t. map encode_utf8_all (cut is_ascii_break [] t [])) (sym (chars-IsAscii text h))
    ∙ sym (segments_between-whole is_ascii_break text (IsUtf8-from_ascii text h))
    ))

-- one piece on
pub words_left-piece :
    (text : List ℕ) (i j : ℕ) → IsAscii text → IsFirstEnd is_ascii_break text i (length text) j
    → words_left text i
    ≡ cond (is_word (slice_range text i j)) (slice_range text i j ∷ words_left text j)
    (words_left text j)
unfolding words_left
words_left-piece text i j h e =
    let piece = slice_range text i j in
    let ascii : IsAscii piece = IsAscii-take (drop i text) (j - i) (IsAscii-drop text i h) in
    ap (filter has_alphanumeric) e.first
    ∙ ap (λ b. cond b (piece ∷ words_left text j) (words_left text j))
    (has_alphanumeric-ascii piece ascii)

pub words_left-end :
    (text : List ℕ) (i : ℕ) → IsAscii text → i ≡ length text → words_left text i ≡ []
unfolding words_left
words_left-end text i h e =
    ap (λ n. filter has_alphanumeric (segments_between is_ascii_break text n (length text))) e
    ∙ ap (filter has_alphanumeric)
    (segments_between-same is_ascii_break text (IsUtf8-from_ascii text h) (length text))
