use Rattle.text_table.proofs.TextMapsLemmas.{texts_kept, values_kept}
use Rattle.text_table.proofs.map.TextMap.into_parts.Goals as goal

pub returns-clause-texts : goal.returns-clause-texts
returns-clause-texts g c =
    texts_kept c.self.inside.texts c.self.inside.values.items c.args.self
    c.self.invariant c.self.view_is

pub returns-clause-values : goal.returns-clause-values
returns-clause-values g c =
    values_kept c.self.inside.texts c.self.inside.values.items c.args.self
    c.self.invariant c.self.view_is
