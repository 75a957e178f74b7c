-- What does a part of `build` need of a runtime, and what does it do to it?
--
-- A part makes calls of its own behind those that were made before. Which those are is nothing to it,
-- as long as its own are refused by none of them.
use Rattle.std.specs.Prelude.{List, ◌++◌}
use Rattle.execution_definitions.specs.Meanings.{shapes_of}
use Rattle.execution_definitions.specs.Soundness.{IsSound}
use Rattle.delegation.specs.Runtimes.{RuntimeView, IsAfter}
use Rattle.indexer.specs.Totals.{Totals}
use Rattle.indexer.specs.Items.{item_meaning}
use Rattle.indexer.specs.BuildCalls.{ItemCall}
use Rattle.indexer.specs.declared.item.Item.{Item}

-- what is seen of a runtime of items
abbrev pub ItemView : Type 0
ItemView = RuntimeView Item Totals

-- behind the calls that the runtime is after, none of these is refused
pub record MayMake (runtime : ItemView) (more : List ItemCall) : Type 0 where
  pub calls : List ItemCall
  pub after : IsAfter item_meaning runtime calls
  pub sound : IsSound (shapes_of item_meaning (calls ++ more))

-- behind whatever calls the old runtime was after, the new one is after these too
abbrev pub HasMade : ItemView → ItemView → List ItemCall → Type 0
HasMade old new more =
    (calls : List ItemCall) → IsAfter item_meaning old calls
    → IsAfter item_meaning new (calls ++ more)
