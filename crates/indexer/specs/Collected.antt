-- What are the terms of all shards, and what does a count make of them?
use Rattle.std.specs.Prelude.{◌≡◌, ℕ, ◌+◌, ◌<◌, Some, List, [], length, slice_get}
use Rattle.std.specs.List.{flat_map, slice_index_or}
use Rattle.execution_definitions.specs.Sequential.{State}
use Rattle.index_definitions.specs.Index.{TermRecord}
use Rattle.class_laws.specs.Counts.{Counts, count_of}
use Rattle.shard.specs.Shards.{ShardParts}
use Rattle.shard.specs.ShardTerms.{HasTermsOfShard}
use Rattle.indexer.specs.Totals.{Totals}
use Rattle.indexer.specs.declared.item.Item.{Item}
use Rattle.indexer.specs.declared.item.Item.TheVariants.{Shard}

-- a term with its count as its total
abbrev pub with_count : Counts → TermRecord → TermRecord
with_count counts term = record {
  text = term.text;
  total = count_of counts term.text;
  postings = term.postings;
}

-- the terms of the first so many shards, one shard after the other
pub record CollectsTerms (parts : ℕ → ShardParts) (shards : ℕ) (terms : List TermRecord)
    : Type 0 where
  pub lists : List (List TermRecord)
  pub count : length lists ≡ shards
  pub terms_are : terms ≡ flat_map (λ list. list) lists
  pub each :
      (number : ℕ) → number < shards →
      HasTermsOfShard (parts number).lists (slice_index_or lists number [])

-- the sixteen shards stand behind so many documents
abbrev pub HasShards : State Item Totals → ℕ → (ℕ → ShardParts) → Type 0
HasShards state documents parts =
    (number : ℕ) → number < 16
    → slice_get state.values (1 + documents + number) ≡ Some (Shard (parts number))
