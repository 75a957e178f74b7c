use Rattle.std.proofs.Common.{◌≡◌, ◌+◌, ◌-◌, ◌≤◌, true, [], ◌∷◌, ◌++◌, vec_len}
use Rattle.ss_base.specs.Shelves.{IsHeld, IsSteady, HasTaken}
use Rattle.ss_base.proofs.transfer.read_all.Given as goal

-- what was taken is the front of the name
abbrev pub invariant-loop-piece : goal.invariant-loop-piece
invariant-loop-piece g l =
    record {
      open_now : g.L.Shelf.is_open l.shelf ≡ true;
      within : vec_len l.bytes ≤ l.limit + 1;
      never_falls : g.L.Shelf.faults l.fn.shelf ≤ g.L.Shelf.faults l.shelf;
      asked : g.L.Shelf.asked l.shelf ≡ g.L.Shelf.asked l.fn.shelf ++ l.name ∷ [];
      steady :
          IsSteady (g.L.Shelf.contents l.fn.shelf) (g.L.Shelf.fails_only_if_absent l.fn.shelf) →
          (g.L.Shelf.fails_only_if_absent l.shelf ≡ true)
          × (IsHeld (g.L.Shelf.contents l.fn.shelf) l.name →
          g.L.Shelf.faults l.shelf ≡ g.L.Shelf.faults l.fn.shelf);
      contents : g.L.Shelf.contents l.shelf ≡ g.L.Shelf.contents l.fn.shelf;
      taken : HasTaken (g.L.Shelf.contents l.fn.shelf) l.name (g.L.Shelf.left l.shelf) l.bytes.items;
    }

abbrev pub decreases-loop-piece : goal.decreases-loop-piece
decreases-loop-piece g l = l.limit + 1 - vec_len l.bytes
