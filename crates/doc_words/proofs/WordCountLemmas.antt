-- A document has at most three words for each of its bytes.
use Rattle.std.proofs.Common.{ℕ, zero, suc, ◌+◌, ◌-◌, ◌*◌, ◌≤◌, List, [], ◌∷◌, ◌++◌, length}
use Rattle.std.proofs.Common.{cond, Bool, true, false, arith}
use Rattle.std.specs.Prelude.{encode_utf8_all}
use Rattle.std.specs.Str.{chars, chars_after, continuation_len, lead_bits}
use Rattle.std.specs.Str.Lossy.{utf8_lossy}
use Rattle.std.proofs.lemmas.List.{length-map}
use Rattle.std.proofs.lemmas.List.FromFn.{length-enumerate_from}
use Rattle.std.proofs.lemmas.List.Sums.{length-filter, count_by-le-length}
use Rattle.unicode_segmentation.specs.Segments.{Rule, cut, prepend, segments, has_alphanumeric}
use Rattle.unicode_segmentation.specs.Word.{is_word_break, word_bounds, words}
use Rattle.index_definitions.specs.Words.{terms_in, term_of, words_in}
use Rattle.doc_words.proofs.LossyLemmas.{length-utf8_lossy}

-- no more characters than bytes
few_chars-after : (n c : ℕ) (bs : List ℕ) → length (chars_after n c bs) ≤ suc (length bs)
few_chars-after zero c [] = omega arith
few_chars-after zero c (b ∷ bs) =
    let rest = few_chars-after (continuation_len b) (lead_bits b) bs in omega arith
few_chars-after (suc n) c [] = omega arith
few_chars-after (suc n) c (b ∷ bs) =
    let rest = few_chars-after n (c * 64 + (b - 128)) bs in omega arith

few_chars : (bs : List ℕ) → length (chars bs) ≤ length bs
unfolding chars
few_chars [] = omega arith
few_chars (b ∷ bs) = few_chars-after (continuation_len b) (lead_bits b) bs

-- no more segments than characters
few_pieces : (breaks : Bool) (piece : List ℕ) (pieces : List (List ℕ))
    → length (cond breaks (piece ∷ pieces) (prepend piece pieces)) ≤ suc (length pieces)
few_pieces true piece pieces = omega arith
few_pieces false piece [] = omega arith
few_pieces false piece (p ∷ ps) = omega arith

few_cut : (rule : Rule) (before cs after : List ℕ) → length (cut rule before cs after) ≤ length cs
unfolding cut
few_cut rule before [] after = omega arith
few_cut rule before (c ∷ cs) after =
    let rest = few_cut rule (c ∷ before) cs after in
    let one = few_pieces (rule (c ∷ before) (cs ++ after)) (c ∷ [])
    (cut rule (c ∷ before) cs after) in
    omega (arith, rest, one)

few_segments : (rule : Rule) (text : List ℕ) → length (segments rule text) ≤ length text
unfolding segments
few_segments rule text =
    let pieces = cut rule [] (chars text) [] in
    omega (
      arith,
      length-map pieces encode_utf8_all,
      few_cut rule [] (chars text) [],
      few_chars text,
    )

pub few_words : (text : List ℕ) → length (words text) ≤ length text
few_words text =
    let cuts = word_bounds text in
    omega (
      arith,
      length-filter has_alphanumeric cuts,
      count_by-le-length has_alphanumeric cuts,
      few_segments is_word_break text,
    )

pub few_words_in : (document : List ℕ) → length (words_in document) ≤ 3 * length document
few_words_in document =
    let text = utf8_lossy document in
    omega (
      arith,
      length-enumerate_from 1 (terms_in document),
      length-map (words text) term_of,
      few_words text,
      length-utf8_lossy document,
    )
