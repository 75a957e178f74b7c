use Rattle.std.proofs.Common.{◌≡◌, [], ◌∷◌, ◌++◌, length}
use Rattle.std.specs.Prelude.{MatchOption}
use Rattle.unicode_segmentation.specs.Word.{words}
use Rattle.doc_words.specs.LineWords.{line_words}
use Rattle.doc_words.proofs.lines.TextWords.next.Given as goal

-- the lines so far have given no word but the last
abbrev pub invariant-loop-word : goal.invariant-loop-word
invariant-loop-word l =
    MatchOption l.word
    ((line_words l.self-inside.line ≡ []) × (l.fn.self ≡ words l.self-inside.rest.now))
    (λ word. l.fn.self
    ≡ word.now ∷ (line_words l.self-inside.line ++ words l.self-inside.rest.now))

abbrev pub decreases-loop-word : goal.decreases-loop-word
decreases-loop-word l = length l.self-inside.rest.now
