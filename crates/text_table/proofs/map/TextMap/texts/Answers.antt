use Rattle.text_table.proofs.TextMapsLemmas.{texts_kept}
use Rattle.text_table.proofs.map.TextMap.texts.Goals as goal

pub returns : goal.returns
returns g c =
    texts_kept c.self.inside.texts c.self.inside.values.items c.args.self.now
    c.self.invariant c.self.view_is
