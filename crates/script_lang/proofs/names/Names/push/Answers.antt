use Rattle.std.proofs.Common.{◌≡◌, ◌∙◌, ◌++◌, ◌∷◌, [], true, ap}
use Rattle.std.proofs.lemmas.List.Elements.{All-push}
use Rattle.script_lang.specs.Tokens.{is_name}
use Rattle.script_lang.proofs.lines.NamesLemmas.{with_name}
use Rattle.script_lang.proofs.names.Names.push.Goals as goal

pub invariant_of-self : goal.invariant_of-self
invariant_of-self c =
    rw (c.in_ok-insert.ensures.ok ∙ with_name c.args.self.now c.self.inside.texts c.args.word.now
    c.in-Some.name.now c.self.view_is c.in-Some.ensures.0 c.requires.new)
    (All-push (λ name. is_name name ≡ true) c.self.inside.texts c.args.word.now c.self.invariant
    c.requires.name)

pub returns-in_ok-insert-clause-ok : goal.returns-in_ok-insert-clause-ok
returns-in_ok-insert-clause-ok c =
    c.in_ok-insert.ensures.ok
    ∙ with_name c.args.self.now c.self.inside.texts c.args.word.now c.in-Some.name.now
    c.self.view_is c.in-Some.ensures.0 c.requires.new
    ∙ ap (λ names. names ++ c.args.word.now ∷ []) c.self.view_is
