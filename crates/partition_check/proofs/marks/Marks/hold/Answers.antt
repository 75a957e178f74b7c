use Rattle.std.proofs.Common.{◌≡◌, true, ap, refl, ◌∙◌}
use Rattle.partition_check.specs.MarkedAfter.{with_set}
use Rattle.partition_check.proofs.cells.CellsLemmas.{within_cells, mark_of_cell, map-changed_at}
use Rattle.partition_check.proofs.marks.Marks.hold.Goals as goal

pub hold-requires : goal.hold-requires
hold-requires c =
    let i = c.self.inside in
    let opened : i.is_open ≡ true = ap (λ v. v.is_open) c.self.view_is ∙ c.requires.isolating in
    record {
      unshared = c.requires.unshared _ (mark_of_cell i.epochs i.is_open i.cells.items _ c.args.o.0
          c.index_mut.result.now (ap (λ v. v.objects) c.self.view_is) opened c.requires.known
          c.index_mut.ensures.value);
    }

pub returns : goal.returns
returns c = λ own same.
    let i = c.self.inside in
    let marks = ap (λ v. v.objects) c.self.view_is in
    let opened : i.is_open ≡ true = ap (λ v. v.is_open) c.self.view_is ∙ c.requires.isolating in
    let known = within_cells i.epochs i.is_open i.cells.items _ c.args.o.0 marks c.requires.known in
    let there = mark_of_cell i.epochs i.is_open i.cells.items _ c.args.o.0
    c.index_mut.result.now marks opened c.requires.known c.index_mut.ensures.value in
    let is = c.hold.ensures.mark c.args.o.0 own (rw there at same) in
    rw (
      ← c.self.view_is,
      map-changed_at i.epochs i.is_open i.cells.items c.args.o.0 c.index_mut.result.now
          c.hold.new.self (with_set c.args.o.0 own) known c.index_mut.ensures.value
          (rw opened is),
    ) refl
