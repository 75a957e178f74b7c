use Rattle.std.proofs.Common.{◌∙◌, subst}
use Rattle.text_table.specs.TextTables.{AreDistinct}
use Rattle.text_table.proofs.TextMapsLemmas.{length_kept, texts_kept}
use Rattle.text_table.proofs.map.TextMap.len.Goals as goal

pub returns-clause-len : goal.returns-clause-len
returns-clause-len g c =
    c.len.ensures.len
    ∙ length_kept c.self.inside.texts c.self.inside.values.items c.args.self.now
    c.self.invariant c.self.view_is

pub returns-clause-distinct : goal.returns-clause-distinct
returns-clause-distinct g c =
    subst AreDistinct
    (texts_kept c.self.inside.texts c.self.inside.values.items c.args.self.now
    c.self.invariant c.self.view_is)
    c.len.ensures.distinct
