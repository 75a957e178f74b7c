-- No bytes have no words, so that an empty stop list stops nothing.
use Rattle.std.proofs.Common.{◌≡◌, [], ap, refl, map}
use Rattle.std.specs.Str.Lossy.{utf8_lossy}
use Rattle.unicode_segmentation.specs.Word.{words}
use Rattle.unicode_segmentation.proofs.Computing.{unicode_segmentation}
use Rattle.index_definitions.specs.Words.{terms_in, term_of}

words-none : words (utf8_lossy []) ≡ []
unfolding utf8_lossy unicode_segmentation
words-none = refl

pub terms_in-none : terms_in [] ≡ []
terms_in-none = ap (map term_of) words-none
