use Rattle.std.proofs.Common.{◌≡◌, ◌≤◌, ◌∷◌, ◌++◌, map}
use Rattle.std.specs.List.{range_with_len}
use Rattle.execution_definitions.specs.declared.call.Call.TheVariants as call
use Rattle.examples.specs.declared.bases.Part.TheVariants as part
use Rattle.examples.specs.HistogramCalls.{make_block, count_call}
use Rattle.examples.proofs.bases.calls_of.Given as goal

-- the blocks so far are made, and those left are the others
abbrev pub invariant-loop-block : goal.invariant-loop-block
invariant-loop-block l = record {
  all : l.fn.blocks.items ≡ l.yielded ++ l.block-iterator.rest.items;
  made : l.calls.items
      ≡ call.MakeFixed (part.Spelling l.fn.spelling)
      ∷ map make_block (map (λ block. block.items) l.yielded);
}

-- all blocks are made, and so many are counted
abbrev pub invariant-loop-place : goal.invariant-loop-place
invariant-loop-place l = record {
  within : l.place ≤ l.count;
  made : l.calls.items
      ≡ call.MakeFixed (part.Spelling l.fn.spelling)
      ∷ map make_block (map (λ block. block.items) l.fn.blocks.items)
      ++ (call.Begin ∷ map count_call (range_with_len 0 l.place));
}
