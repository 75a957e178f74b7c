use Rattle.std.proofs.Common.{◌≡◌, true, ap, refl, ◌∙◌}
use Rattle.partition_check.specs.MarkedAfter.{with_reader}
use Rattle.partition_check.proofs.cells.CellsLemmas.{within_cells, mark_of_cell, map-changed_at}
use Rattle.partition_check.proofs.marks.Marks.share_one.Goals as goal

pub share-requires : goal.share-requires
share-requires c =
    let i = c.self.inside in
    let opened : i.is_open ≡ true = ap (λ v. v.is_open) c.self.view_is ∙ c.requires.isolating in
    record {
      free = c.requires.free _ (mark_of_cell i.epochs i.is_open i.cells.items _ c.args.o.0
          c.index_mut.result.now (ap (λ v. v.objects) c.self.view_is) opened c.requires.known
          c.index_mut.ensures.value);
    }

pub returns : goal.returns
returns c =
    let i = c.self.inside in
    let opened : i.is_open ≡ true = ap (λ v. v.is_open) c.self.view_is ∙ c.requires.isolating in
    let known = within_cells i.epochs i.is_open i.cells.items _ c.args.o.0
    (ap (λ v. v.objects) c.self.view_is) c.requires.known in
    rw (
      ← c.self.view_is,
      map-changed_at i.epochs i.is_open i.cells.items c.args.o.0 c.index_mut.result.now
          c.share.new.self with_reader known c.index_mut.ensures.value
          (rw opened c.share.ensures.mark),
    ) refl
