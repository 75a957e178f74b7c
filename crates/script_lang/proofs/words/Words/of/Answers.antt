use Rattle.std.proofs.Common.{take, ◌∙◌, rules, tests}
use Rattle.std.proofs.lemmas.Iterator.{YieldsList-from_take}
use Rattle.std.proofs.lemmas.Iterator.Consumers.{YieldsList-at, YieldsList-from_filter}
use Rattle.std.proofs.lemmas.Iterator.Splits.{YieldsList-from_slice_split}
use Rattle.script_lang.specs.Lines.{is_blank, is_some_word, line_words}
use Rattle.script_lang.proofs.shown.YieldsLemmas.{yielded_all}
use Rattle.script_lang.proofs.words.Words.of.Goals as goal

pub returns : goal.returns
returns c =
    c.loop-word.invariant.kept
    ∙ (yielded_all (λ word. word.now) (take 7 (line_words c.args.line.now)) c.loop-word.yielded
    c.loop-word.word-iterator
    c.loop-word.yielded_by _ _ c.in-None.is c.next.ensures.steps
    (YieldsList-at c.into_iter-word-iterator.ensures.into_iter_gives
    (YieldsList-from_take 7
    (YieldsList-at c.take-word-items.ensures.source
    (YieldsList-from_filter _ is_some_word
    (YieldsList-at c.filter.ensures.source
    (YieldsList-from_slice_split _ is_blank c.args.line.now c.split-parts.ensures.rest
    c.split-parts.ensures.done c.split-parts.ensures.closure (λ x b q k. search (rules, tests))))
    c.filter.ensures.closure (λ x b q k. search (rules, tests))))
    c.take-word-items.ensures.count))).0
