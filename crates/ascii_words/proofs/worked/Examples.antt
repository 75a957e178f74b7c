-- The words of short texts, by the small rule and by those of the standard.
use Rattle.std.proofs.Common.{◌≡◌, ℕ, List, [], ◌∷◌, codes, refl}
use Rattle.unicode_segmentation.specs.Segments.{cut}
use Rattle.unicode_segmentation.specs.Word.{words}
use Rattle.unicode_segmentation.proofs.Computing.{unicode_segmentation}
use Rattle.ascii_words.specs.AsciiWords.{ascii_words}

-- every bridge, one that fits and one that doesn't, one at an end and two in a row
abbrev text : List ℕ
text = codes "can't 3.2,  a_b. x:y 1:2 a.b. 'q' 1,5;6 _ __a a..b 1,,2 a,b 1:a"

abbrev expected : List (List ℕ)
expected =
    codes "can't" ∷ codes "3.2" ∷ codes "a_b" ∷ codes "x:y" ∷ codes "1" ∷ codes "2"
    ∷ codes "a.b" ∷ codes "q" ∷ codes "1,5;6" ∷ codes "__a" ∷ codes "a" ∷ codes "b"
    ∷ codes "1" ∷ codes "2" ∷ codes "a" ∷ codes "b" ∷ codes "1" ∷ codes "a" ∷ []

by_the_small_rule : ascii_words text ≡ expected
unfolding cut
by_the_small_rule = refl

by_the_standard : words text ≡ expected
unfolding unicode_segmentation
by_the_standard = refl
