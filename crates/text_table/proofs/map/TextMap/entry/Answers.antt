use Rattle.std.proofs.Common.{arith}
use Rattle.text_table.proofs.TextMapsLemmas.{length_kept, entry_kept}
use Rattle.text_table.proofs.map.TextMap.entry.Goals as goal

pub text-requires : goal.text-requires
text-requires g c =
    omega (
      arith,
      c.requires,
      length_kept c.self.inside.texts c.self.inside.values.items c.args.self.now
          c.self.invariant c.self.view_is,
    )

pub index-requires : goal.index-requires
index-requires g c =
    omega (
      arith,
      c.requires,
      c.self.invariant,
      c.self.inside.values.ok.0,
      length_kept c.self.inside.texts c.self.inside.values.items c.args.self.now
          c.self.invariant c.self.view_is,
    )

pub returns : goal.returns
returns g c =
    entry_kept c.self.inside.texts c.self.inside.values.items c.args.self.now
    c.self.invariant c.self.view_is c.args.number c.text.result.now c.index.result.now
    c.text.ensures
    (omega (
      arith,
      c.requires,
      c.self.invariant,
      length_kept c.self.inside.texts c.self.inside.values.items c.args.self.now
          c.self.invariant c.self.view_is,
    ))
    c.index.ensures
