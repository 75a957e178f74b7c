use Rattle.std.proofs.Common.{◌<◌, ◌∙◌, arith, length, refl, ap}
use Rattle.text_table.specs.TextMaps.{with_value}
use Rattle.text_table.proofs.TextMapsLemmas.{length_kept, value_kept, with_value-zip}
use Rattle.text_table.proofs.map.TextMap.value_mut.Goals as goal

pub index_mut-requires : goal.index_mut-requires
index_mut-requires g c =
    omega (
      arith,
      c.requires,
      c.self.invariant,
      c.self.inside.values.ok.0,
      length_kept c.self.inside.texts c.self.inside.values.items c.args.self.now
          c.self.invariant c.self.view_is,
    )

pub returns : goal.returns
returns g c =
    let texts = c.self.inside.texts in
    let values = c.self.inside.values.items in
    let within : c.args.number < length values =
    omega (
      arith,
      c.requires,
      c.self.invariant,
      length_kept texts values c.args.self.now c.self.invariant c.self.view_is,
    ) in (
      (
        refl,
        λ w. with_value-zip texts values c.args.number w
            ∙ ap (λ es. with_value es c.args.number w) c.self.view_is,
      ),
      record {
        writes_back = tt;
        value = value_kept texts values c.args.self.now c.self.invariant c.self.view_is
            c.args.number c.index_mut.result.now within c.index_mut.ensures.value;
      },
    )
