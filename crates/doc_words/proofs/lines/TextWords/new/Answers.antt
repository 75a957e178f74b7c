use Rattle.std.proofs.Common.{◌++◌, ◌≤◌, length, sym, ap, subst, ◌∙◌}
use Rattle.unicode_segmentation.specs.Word.{words}
use Rattle.doc_words.proofs.LineLemmas.{words-nil}
use Rattle.doc_words.proofs.WordCountLemmas.{few_words}
use Rattle.doc_words.proofs.lines.TextWords.new.Goals as goal

pub returns-clause-words : goal.returns-clause-words
returns-clause-words c =
    ap (λ ws. ws ++ words c.args.text.now) (c.of.ensures ∙ words-nil)

pub returns-clause-len : goal.returns-clause-len
returns-clause-len c =
    subst (λ ws. length ws ≤ length c.args.text.now) (sym (returns-clause-words c))
    (few_words c.args.text.now)
