-- What are the terms of a shard as a list, before they are counted?
use Rattle.std.specs.Prelude.{◌≡◌, ℕ, List, ◌++◌, Some, is_some}
use Rattle.std.specs.FinMap as finite
use Rattle.std.specs.List.{All}
use Rattle.index_definitions.specs.Terms.{has_term}
use Rattle.index_definitions.specs.Index.{TermRecord}
use Rattle.index_definitions.specs.Indexes.{texts_of}
use Rattle.text_table.specs.TextTables.{AreDistinct}
use Rattle.shard.specs.Shards.{TermLists}

-- a term with its posting list, of which nothing is counted
pub record IsTermOfShard (lists : TermLists) (term : TermRecord) : Type 0 where
  pub postings_are : finite.get lists term.text ≡ Some term.postings
  pub uncounted : term.total ≡ 0

-- all terms of a shard, each once, in any order
pub record HasTermsOfShard (lists : TermLists) (terms : List TermRecord) : Type 0 where
  pub distinct : AreDistinct (texts_of terms)
  pub each : All (IsTermOfShard lists) terms
  pub members : (text : List ℕ) → has_term (texts_of terms) text ≡ is_some (finite.get lists text)

-- the terms of a shard stand behind the old ones
pub record AppendsTermsOfShard (lists : TermLists) (old new : List TermRecord) : Type 0 where
  pub more : List TermRecord
  pub appended : new ≡ old ++ more
  pub terms_are : HasTermsOfShard lists more
