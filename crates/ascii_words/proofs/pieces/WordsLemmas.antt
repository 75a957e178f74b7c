-- The words among pieces.
use Rattle.std.proofs.Common.{◌≡◌, ℕ, false, cond, List, [], ◌∷◌, ◌++◌, map, filter, ap, ◌∙◌}
use Rattle.std.proofs.Common.{append-nil}
use Rattle.std.proofs.lemmas.List.{map-append}
use Rattle.std.proofs.lemmas.List.Elements.{filter-append}
use Rattle.std.specs.Prelude.{encode_utf8_all}
use Rattle.unicode_segmentation.specs.Segments.{has_alphanumeric}

-- the words among pieces of characters
abbrev pub words_among : List (List ℕ) → List (List ℕ)
words_among ps = filter has_alphanumeric (map encode_utf8_all ps)

pub words_among-append :
    (ps qs : List (List ℕ)) → words_among (ps ++ qs) ≡ words_among ps ++ words_among qs
words_among-append ps qs =
    ap (filter has_alphanumeric) (map-append encode_utf8_all ps qs)
    ∙ filter-append has_alphanumeric (map encode_utf8_all ps) (map encode_utf8_all qs)

-- a piece at the end that is no word
pub words_among-push :
    (ps : List (List ℕ)) (p : List ℕ) → has_alphanumeric (encode_utf8_all p) ≡ false
    → words_among (ps ++ p ∷ []) ≡ words_among ps
words_among-push ps p none =
    words_among-append ps (p ∷ [])
    ∙ ap (λ b. words_among ps ++ cond b (encode_utf8_all p ∷ []) []) none
    ∙ append-nil (words_among ps)
