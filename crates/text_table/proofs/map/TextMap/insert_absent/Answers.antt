use Rattle.std.proofs.Common.{◌∙◌, ◌++◌, ◌∷◌, [], ap, ap₂}
use Rattle.std.specs.List.{zip}
use Rattle.text_table.proofs.TextMapsLemmas.{number_of-kept, length_kept, zip-push}
use Rattle.text_table.proofs.map.TextMap.insert_absent.Goals as goal

pub insert_absent-requires-clause-new_text : goal.insert_absent-requires-clause-new_text
insert_absent-requires-clause-new_text g c =
    number_of-kept c.self.inside.texts c.self.inside.values.items c.args.self.now
    c.self.invariant c.self.view_is c.args.text.now
    ∙ c.requires.new_text

pub returns-in-Ok-clause-number : goal.returns-in-Ok-clause-number
returns-in-Ok-clause-number g c =
    c.in-Ok.ensures.number
    ∙ length_kept c.self.inside.texts c.self.inside.values.items c.args.self.now
    c.self.invariant c.self.view_is

pub returns-in-Ok-clause-ok : goal.returns-in-Ok-clause-ok
returns-in-Ok-clause-ok g c =
    ap₂ zip c.in-Ok.ensures.ok c.in_ok-push.ensures.items
    ∙ zip-push c.self.inside.texts c.self.inside.values.items c.args.text.now c.args.value
    c.self.invariant
    ∙ ap (λ es. es ++ (c.args.text.now, c.args.value) ∷ []) c.self.view_is
