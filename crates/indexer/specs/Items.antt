-- What does an operation do to an item, and what does it contribute?
--
-- Where an operation doesn't fit the item, or the item read, nothing changes and the unit is
-- contributed.
use Rattle.std.specs.Prelude.{ℕ, Some}
use Rattle.std.specs.declared.option.Option.{Option}
use Rattle.execution_definitions.specs.Meanings.{Meaning}
use Rattle.shard.specs.Shards.{ShardParts, gathered_last}
use Rattle.indexer.specs.Documents.{Content, whole, split, split_content}
use Rattle.indexer.specs.Totals.{Totals, no_totals, totals_join, split_totals}
use Rattle.indexer.specs.declared.item.Item.{Item}
use Rattle.indexer.specs.declared.item.Item.TheVariants.{Doc, Shard, Stop}
use Rattle.indexer.specs.declared.item.ItemOp.{ItemOp}
use Rattle.indexer.specs.declared.item.ItemOp.TheVariants.{Split, Gather}

-- the shard after a gather of a document, which changes nothing unless the document is split
abbrev pub gathered_content : ShardParts → ℕ → Content → ShardParts
gathered_content shard document (whole bytes) = shard
gathered_content shard document (split words) = gathered_last shard document words

-- the item after an operation
abbrev pub item_after : Item → ItemOp → Option Item → Item
item_after (Doc content) Split (Some (Stop stopped)) = Doc (split_content stopped content)
item_after (Shard shard) (Gather document) (Some (Doc content)) =
    Shard (gathered_content shard document content)
item_after item op read = item

-- what the operation contributes
abbrev pub totals_after : Item → ItemOp → Option Item → Totals
totals_after (Doc content) Split (Some (Stop stopped)) = split_totals stopped content
totals_after item op read = no_totals

-- the item after an operation, and what it contributes
abbrev pub step : Item → ItemOp → Option Item → Item × Totals
step item op read = (item_after item op read, totals_after item op read)

-- the set that an operation names for itself
abbrev pub own_set : ItemOp → ℕ
own_set op = 0

-- the meaning of the items of an index
abbrev pub item_meaning : Meaning Item ItemOp Totals
item_meaning =
    record { step = step; own = own_set; unit = no_totals; join = totals_join }
