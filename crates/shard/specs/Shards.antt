-- What is a shard, and what does it become when a document is gathered into it?
use Rattle.std.specs.Prelude.{ℕ, ◌==◌, Bool, nat_lt, List, [], ◌∷◌, ◌++◌, map, filter, max, fold}
use Rattle.std.specs.Prelude.{refl, if◌then◌else◌}
use Rattle.std.specs.Coded.{Coded, code_by, coded×, coded_ℕ, coded_list}
use Rattle.std.specs.List.{enumerate_from}
use Rattle.std.specs.FinMap as finite
use Rattle.std.specs.FinMap.{FinMap}
use Rattle.std.specs.Option.{unwrap_or}
use Rattle.index_definitions.specs.Words.{Word, word_terms, positions_of}
use Rattle.index_definitions.specs.PostingLists.{PostingList, last_document}
use Rattle.text_table.specs.TextMaps.{text_order}
use Rattle.document_terms.specs.Shards.{shard_of}

-- a finite map from terms to their posting lists
abbrev pub TermLists : Type 0
TermLists = FinMap text_order PostingList

-- what contracts see of a shard: its number, and the posting lists of its terms
pub record ShardParts : Type 0 where
  pub number : ℕ
  pub lists : TermLists

-- a shard is stored as the pair of its parts
abbrev pub shard_code : Coded ShardParts
shard_code =
    code_by (ℕ × TermLists)
    (coded× coded_ℕ (finite.code (coded_list coded_ℕ)
    (coded_list (coded× coded_ℕ (coded_list coded_ℕ)))))
    (λ shard. (shard.number, shard.lists))
    (λ pair. record { number = pair.0; lists = pair.1 }) (λ _. refl)

-- a shard with no terms
abbrev pub empty_shard : ℕ → ShardParts
empty_shard number = record { number = number; lists = finite.empty }

-- the words whose terms belong to the shard
abbrev pub words_of_shard : ℕ → List Word → List Word
words_of_shard number words = filter (λ word. shard_of word.1 == number) words

-- the posting list of a term, empty for an absent term
abbrev pub list_of : TermLists → List ℕ → PostingList
list_of lists term = unwrap_or (finite.get lists term) []

-- the last of all documents, or 0: at each term documents rise
abbrev pub last_in : TermLists → ℕ
last_in lists = fold (λ last entry. max last (last_document entry.1)) 0 (finite.entries lists)

-- the document comes after all that stand there
abbrev pub comes_last : TermLists → ℕ → Bool
comes_last lists document = nat_lt (last_in lists) document

-- a document appended to the posting list of a term
abbrev pub with_positions : TermLists → List ℕ → ℕ → List ℕ → TermLists
with_positions lists term document positions =
    finite.insert lists term (list_of lists term ++ (document, positions) ∷ [])

-- a term with the document appended to its posting list
abbrev pub with_document : TermLists → ℕ → List Word → List ℕ → List ℕ × PostingList
with_document lists document words term =
    (term, list_of lists term ++ (document, positions_of term words) ∷ [])

-- the document appended at each of these terms; the other terms stay as they are
abbrev pub with_terms : TermLists → ℕ → List Word → List (List ℕ) → TermLists
with_terms lists document words terms =
    finite.from_entries
    (map (with_document lists document words) terms ++ finite.entries lists)

-- the shard after a document with these words
abbrev pub gathered : ShardParts → ℕ → List Word → ShardParts
gathered shard document words = record {
  number = shard.number;
  lists =
      with_terms shard.lists document words
      (word_terms (words_of_shard shard.number words));
}

-- the shard after a gather of a document, which changes nothing unless it comes after all of the
-- shard's documents
abbrev pub gathered_last : ShardParts → ℕ → List Word → ShardParts
gathered_last shard document words =
    if comes_last shard.lists document then gathered shard document words else shard

-- the shard after a document with its number
abbrev pub after_document : ShardParts → ℕ × List Word → ShardParts
after_document shard document = gathered_last shard document.0 document.1

-- the shard with this number after the documents with these words, which count from 1
abbrev pub shard_after : ℕ → List (List Word) → ShardParts
shard_after number words_lists =
    fold after_document (empty_shard number) (enumerate_from 1 words_lists)
