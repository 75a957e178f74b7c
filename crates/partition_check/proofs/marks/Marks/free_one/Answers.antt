use Rattle.std.proofs.Common.{ap, refl}
use Rattle.partition_check.specs.MarkedAfter.{freed_mark}
use Rattle.partition_check.proofs.cells.CellsLemmas.{within_cells, map-changed_at}
use Rattle.partition_check.proofs.marks.Marks.free_one.Goals as goal

pub returns : goal.returns
returns c =
    let i = c.self.inside in
    let known = within_cells i.epochs i.is_open i.cells.items _ c.args.o.0
    (ap (λ v. v.objects) c.self.view_is) c.requires in
    rw (
      ← c.self.view_is,
      map-changed_at i.epochs i.is_open i.cells.items c.args.o.0 c.index_mut.result.now
          c.free.new.self freed_mark known c.index_mut.ensures.value
          (c.free.ensures.mark i.epochs i.is_open),
    ) refl
