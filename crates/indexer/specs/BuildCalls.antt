-- Which calls build the index of documents, and what do they leave?
--
-- Object 0 is the stop list, which is only read. The documents follow, by object, and then sixteen
-- shards, by sequence. In a first epoch each document is split, reading the stop list: it is held to
-- its own set. In a second each shard gathers the documents in their order: it is held to its own
-- set, and the documents are read-shared. Then the shards and the total are looked at.
use Rattle.std.specs.Prelude.{◌≡◌, ℕ, ◌+◌, ◌≤◌, Some, List, [], ◌∷◌, ◌++◌, map, length}
use Rattle.std.specs.List.{flat_map, range_with_len}
use Rattle.ss_base.specs.declared.ids.ObjectId.{ObjectId}
use Rattle.ss_base.specs.Ids.{object_id}
use Rattle.ss_base.specs.declared.limits.TheConstants as limits
use Rattle.execution_definitions.specs.declared.call.Call.{Call}
use Rattle.execution_definitions.specs.declared.call.Call.TheVariants.{Make, MakeFixed, Begin, Delegate, Get, End, Total}
use Rattle.execution_definitions.specs.declared.serializer.By.TheVariants.{Object, Sequence}
use Rattle.execution_definitions.specs.Meanings.{shapes_of}
use Rattle.execution_definitions.specs.Soundness.{IsSound}
use Rattle.execution_definitions.specs.Sequential.{State, sequential_state}
use Rattle.index_definitions.specs.Words.{Word}
use Rattle.index_definitions.specs.Postings.{counted_words}
use Rattle.shard.specs.Shards.{empty_shard, shard_after}
use Rattle.indexer.specs.Documents.{whole, split}
use Rattle.indexer.specs.Totals.{Totals, totals_of}
use Rattle.indexer.specs.Items.{item_meaning}
use Rattle.indexer.specs.declared.item.Item.{Item}
use Rattle.indexer.specs.declared.item.Item.TheVariants.{Doc, Shard, Stop}
use Rattle.indexer.specs.declared.item.ItemOp.{ItemOp}
use Rattle.indexer.specs.declared.item.ItemOp.TheVariants.{Split, Gather}

-- a call on the items of an index
abbrev pub ItemCall : Type 0
ItemCall = Call Item ItemOp

-- the numbers of the shards; `unfoldable`, since an `abbrev` would be spelt out in goals
unfoldable pub shard_numbers : List ℕ
shard_numbers = range_with_len 0 16

-- the object of the document at a place, from 0
abbrev pub document_object : ℕ → ObjectId
document_object place = object_id (1 + place)

-- the object of a shard, behind so many documents
abbrev pub shard_object : ℕ → ℕ → ObjectId
shard_object documents number = object_id (1 + documents + number)

-- a document is made, and a shard
abbrev pub make_document : List ℕ → ItemCall
make_document bytes = Make (Doc (whole bytes)) Object

abbrev pub make_shard : ℕ → ItemCall
make_shard number = Make (Shard (empty_shard number)) Sequence

-- the objects are made
abbrev pub make_calls : List (List ℕ) → List (List ℕ) → List ItemCall
make_calls documents stopped =
    MakeFixed (Stop stopped) ∷ map make_document documents ++ map make_shard shard_numbers

-- the document at a place is split
abbrev pub split_call : ℕ → ItemCall
split_call place = Delegate (document_object place) Split (Some (object_id 0))

-- so many documents are split, in an epoch of their own
abbrev pub split_calls : ℕ → List ItemCall
split_calls documents = Begin ∷ map split_call (range_with_len 0 documents) ++ End ∷ []

-- a shard gathers the document at a place, whose number is one more
abbrev pub gather_call : ℕ → ℕ → ℕ → ItemCall
gather_call documents place number =
    Delegate (shard_object documents number) (Gather (1 + place)) (Some (document_object place))

-- each shard does
abbrev pub gather_document_calls : ℕ → ℕ → List ItemCall
gather_document_calls documents place = map (gather_call documents place) shard_numbers

-- so many documents are gathered, in an epoch of their own
abbrev pub gather_calls : ℕ → List ItemCall
gather_calls documents =
    Begin ∷ flat_map (gather_document_calls documents) (range_with_len 0 documents) ++ End ∷ []

-- each shard is looked at
abbrev pub get_call : ℕ → ℕ → ItemCall
get_call documents number = Get (shard_object documents number)

abbrev pub get_calls : ℕ → List ItemCall
get_calls documents = map (get_call documents) shard_numbers

-- the calls that build the index of documents, where these terms are stopped
abbrev pub build_calls : List (List ℕ) → List (List ℕ) → List ItemCall
build_calls documents stopped =
    make_calls documents stopped ++ split_calls (length documents)
    ++ gather_calls (length documents) ++ get_calls (length documents) ++ Total ∷ []

-- what they leave: the stop list, the split documents, and the shards after all of them, with what
-- the words of all documents come to
abbrev pub left_by : List (List ℕ) → List (List Word) → State Item Totals
left_by stopped words_lists = record {
  values =
      Stop stopped ∷ map (λ words. Doc (split words)) words_lists
      ++ map (λ number. Shard (shard_after number words_lists)) shard_numbers;
  total = totals_of (flat_map (λ words. words) words_lists);
}

-- no call of them is refused
abbrev pub BuildIsSound : Type 0
BuildIsSound =
    (documents stopped : List (List ℕ)) → length documents ≤ limits.NAMES
    → IsSound (shapes_of item_meaning (build_calls documents stopped))

-- and this is what they leave, one after the other
abbrev pub BuildLeaves : Type 0
BuildLeaves =
    (documents stopped : List (List ℕ))
    → sequential_state item_meaning (build_calls documents stopped)
    ≡ left_by stopped (map (counted_words stopped) documents)
