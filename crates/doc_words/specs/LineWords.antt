-- Which words of a line are left?
use Rattle.std.specs.Prelude.{ℕ, List}
use Rattle.unicode_segmentation.specs.Iter.{unicode_words_left}
use Rattle.doc_words.specs.declared.lines.LineWords.{LineWords}
use Rattle.doc_words.specs.declared.lines.LineWords.TheVariants.{Ascii, Other}

abbrev pub line_words : LineWords → List (List ℕ)
line_words (Ascii words) = words
line_words (Other words) = unicode_words_left words
