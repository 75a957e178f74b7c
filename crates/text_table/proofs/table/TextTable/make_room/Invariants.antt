use Rattle.text_table.specs.Buckets.{AreHeldBy}
use Rattle.text_table.proofs.LookupsLemmas.{ArePlacedUnless}
use Rattle.text_table.proofs.table.TextTable.make_room.Given as goal

-- what stood in the buckets before the loop still does, and what was passed of the overflow stands
-- there too, or its bucket is full
abbrev pub invariant-loop-text : goal.invariant-loop-text
invariant-loop-text l = record {
  held : AreHeldBy l.initial.buckets l.buckets;
  placed : ArePlacedUnless l.text-iterator l.initial.text-iterator l.buckets;
}
