use Rattle.std.proofs.Common.{◌∙◌, ap, map, sym}
use Rattle.std.proofs.lemmas.List.{nil_from_length}
use Rattle.script_lang.specs.Commands.{line_command}
use Rattle.script_lang.proofs.lines.GrammarLemmas.{no_words, unknown_word, known_word}
use Rattle.script_lang.proofs.commands.line_command.Goals as goal

pub returns-in_default : goal.returns-in_default
returns-in_default c =
    no_words c.args.names.now
    ∙ ap (λ words. line_command c.args.names.now (map (λ word. word.now) words))
    (sym (nil_from_length c.args.words.now c.in_default.ensures.cases))

pub returns-in-Some-keyword_of : goal.returns-in-Some-keyword_of
returns-in-Some-keyword_of c =
    c.line_of.ensures
    ∙ known_word c.args.names.now c.in-Some.word.now.now
    (map (λ word. word.now) c.in-Some.words.now) c.in-Some-keyword_of.keyword
    (sym c.keyword_of.ensures ∙ c.in-Some-keyword_of.is)
    ∙ ap (λ words. line_command c.args.names.now (map (λ word. word.now) words))
    (sym c.in-Some.ensures.cases.0)

pub returns-in-None : goal.returns-in-None
returns-in-None c =
    unknown_word c.args.names.now c.in-Some.word.now.now
    (map (λ word. word.now) c.in-Some.words.now) (sym c.keyword_of.ensures ∙ c.in-None.is)
    ∙ ap (λ words. line_command c.args.names.now (map (λ word. word.now) words))
    (sym c.in-Some.ensures.cases.0)
