use Rattle.std.proofs.Common.{◌∙◌, ap, sym}
use Rattle.std.specs.FinMap as finite
use Rattle.text_table.proofs.TextMapsLemmas.{len-map_of}
use Rattle.class_laws.proofs.count_table.CountTable.len.Goals as goal

pub returns : goal.returns
returns c =
    c.len.ensures.len
    ∙ sym (len-map_of c.self.inside.counts c.len.ensures.distinct)
    ∙ ap finite.len c.self.view_is
