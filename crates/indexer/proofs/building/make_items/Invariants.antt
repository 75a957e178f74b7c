use Rattle.std.proofs.Common.{◌≡◌, ◌≤◌, ◌∷◌, ◌++◌, map}
use Rattle.std.specs.List.{range_with_len}
use Rattle.execution_definitions.specs.declared.call.Call.TheVariants as call
use Rattle.indexer.specs.declared.item.Item.TheVariants.{Stop}
use Rattle.indexer.specs.BuildCalls.{make_document, make_shard}
use Rattle.indexer.specs.Parts.{HasMade}
use Rattle.indexer.proofs.BuildingLemmas.{bytes_of}
use Rattle.indexer.proofs.building.make_items.Given as goal

-- the documents so far are made, and those left are the others
abbrev pub invariant-loop-doc : goal.invariant-loop-doc
invariant-loop-doc g l = record {
  all : l.fn.docs.items ≡ l.yielded ++ l.doc-iterator.rest.items;
  made : HasMade (g.D.Runtime.seen l.fn.d) (g.D.Runtime.seen l.d)
      (call.MakeFixed (Stop l.fn.stop) ∷ map make_document (bytes_of l.yielded));
}

-- the documents are made, and so many shards
abbrev pub invariant-loop-number : goal.invariant-loop-number
invariant-loop-number g l = record {
  within : l.number ≤ 16;
  made : HasMade (g.D.Runtime.seen l.fn.d) (g.D.Runtime.seen l.d)
      (call.MakeFixed (Stop l.fn.stop) ∷ map make_document (bytes_of l.fn.docs.items)
      ++ map make_shard (range_with_len 0 l.number));
}
