-- Worked examples of the definitions. Each is checked by computing both sides.
use Rattle.std.proofs.Common.{◌≡◌, [], ◌∷◌, refl}
use Rattle.std.specs.Prelude.{codes}
use Rattle.std.specs.Fmt.{digits}
use Rattle.std.specs.Str.{is_utf8}
use Rattle.std.specs.Str.Lossy.{utf8_lossy, utf8_valid_len}
use Rattle.caseless.specs.Caseless.{default_case_fold}
use Rattle.caseless.proofs.Computing.{caseless}
use Rattle.unicode_segmentation.proofs.Computing.{unicode_segmentation}
use Rattle.index_definitions.specs.Words.{words_in}
use Rattle.index_definitions.specs.IndexText.{escaped, postings_text}
use Rattle.index_definitions.specs.PostingLists.{pairs_of}

-- words count from 1, and upper case is folded
words_in-example : words_in (codes "a b A") ≡ (1, codes "a") ∷ (2, codes "b") ∷ (3, codes "a") ∷ []
unfolding utf8_lossy utf8_valid_len is_utf8 unicode_segmentation default_case_fold caseless
words_in-example = refl

-- a backslash and a blank are escaped
escaped-example : escaped (codes "a\\b ") ≡ codes "a\\x5cb\\x20"
escaped-example = refl

-- positions 1 and 3 of one document, and 1 of the next
postings_text-example : postings_text ((1, 1 ∷ 3 ∷ []) ∷ (2, 1 ∷ []) ∷ []) ≡ codes "1:1,3;2:1"
unfolding digits
postings_text-example = refl

pairs_of-example :
    pairs_of ((1, 1 ∷ 3 ∷ []) ∷ (2, 1 ∷ []) ∷ []) ≡ (1, 1) ∷ (1, 3) ∷ (2, 1) ∷ []
pairs_of-example = refl
