use Rattle.std.proofs.Common.{◌∙◌}
use Rattle.text_table.proofs.TextMapsLemmas.{values_kept}
use Rattle.text_table.proofs.map.TextMap.values.Goals as goal

pub returns : goal.returns
returns g c =
    c.deref.ensures.value
    ∙ values_kept c.self.inside.texts c.self.inside.values.items c.args.self.now
    c.self.invariant c.self.view_is
