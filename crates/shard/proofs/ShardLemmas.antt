-- The last document of a shard, one document more.
use Rattle.std.proofs.Common.{◌≡◌, ℕ, ◌<◌, ◌≤◌, List, [], ◌∷◌, ◌++◌, max, cond, Some, sym, refl}
use Rattle.std.proofs.Common.{ap, ap₂, ◌∙◌, arith}
use Rattle.std.specs.declared.cmp.Ordering.TheVariants.{Less, Equal, Greater}
use Rattle.std.specs.FinMap as finite
use Rattle.std.specs.FinMap.{find}
use Rattle.std.specs.FinMap.Entries.{put, by_order}
use Rattle.std.specs.Option.{unwrap_or}
use Rattle.std.specs.Ordering.{is_eq}
use Rattle.std.proofs.lemmas.List.{nil_from_length}
use Rattle.index_definitions.specs.PostingLists.{PostingList, last_document}
use Rattle.index_definitions.proofs.GreatestLemmas.{greatest, greatest-max}
use Rattle.text_table.specs.TextMaps.{text_order}
use Rattle.text_table.proofs.TextMapsLemmas.{text_order_total}
use Rattle.postings.proofs.PostingListsLemmas.{last_document-push}
use Rattle.shard.specs.Shards.{TermLists, ShardParts, list_of, last_in, with_positions}

-- a shard is its number and its posting lists
abbrev parts : ℕ → TermLists → ShardParts
parts number lists = record { number = number; lists = lists }

pub same_parts : (s t : ShardParts) → s.number ≡ t.number → s.lists ≡ t.lists → s ≡ t
same_parts s t p q = ap₂ parts p q

-- the last document of an entry
abbrev pub entry_last : List ℕ × PostingList → ℕ
entry_last e = last_document e.1

put_last : (k : List ℕ) (v : PostingList) (m : ℕ) (es : List (List ℕ × PostingList))
    → last_document (unwrap_or (find text_order k es) []) ≤ last_document v
    → greatest entry_last m (put text_order k v es)
    ≡ max (greatest entry_last m es) (last_document v)
put_last k v m [] before = refl
put_last k v m (e ∷ es) before =
    let mine = last_document v in
    elim (text_order k e.0) as (λ o.
    last_document (unwrap_or (cond (is_eq o) (Some e.1) (find text_order k es)) []) ≤ mine
    → greatest entry_last m (by_order o ((k, v) ∷ e ∷ es) ((e.0, v) ∷ es)
    (e ∷ put text_order k v es))
    ≡ max (greatest entry_last (max m (entry_last e)) es) mine) [
      | Less ↦ λ _.
          let turned : max (max m mine) (entry_last e) ≡ max (max m (entry_last e)) mine =
          omega arith in
          ap (λ x. greatest entry_last x es) turned
          ∙ greatest-max entry_last (max m (entry_last e)) mine es
      | Equal ↦ λ same.
          let old = greatest-max entry_last m (entry_last e) es in
          let new = greatest-max entry_last m mine es in
          omega (arith, old, new, same)
      | Greater ↦ λ rest. put_last k v (max m (entry_last e)) es rest
    ] before

-- a list that ends no earlier than the one that it replaces
last_in-insert : (lists : TermLists) (k : List ℕ) (v : PostingList)
    → last_document (list_of lists k) ≤ last_document v
    → last_in (finite.insert lists k v) ≡ max (last_in lists) (last_document v)
last_in-insert lists k v before =
    let found = ap (λ o. last_document (unwrap_or o [])) (finite.get-entries lists k) in
    ap (greatest entry_last 0) (finite.entries-insert text_order_total lists k v)
    ∙ put_last k v 0 (finite.entries lists) (omega (arith, before, found))

pub last_in-with_positions : (lists : TermLists) (term : List ℕ) (document : ℕ) (positions : List ℕ)
    → last_document (list_of lists term) < document
    → last_in (with_positions lists term document positions) ≡ max (last_in lists) document
last_in-with_positions lists term document positions rises =
    let last = last_document-push (list_of lists term) document positions in
    last_in-insert lists term (list_of lists term ++ (document, positions) ∷ [])
    (omega (arith, rises, last))
    ∙ ap (max (last_in lists)) last

abbrev nothing : TermLists
nothing = finite.empty

pub last_in-empty : last_in finite.empty ≡ 0
last_in-empty =
    ap (greatest entry_last 0) (nil_from_length (finite.entries nothing)
    (sym (finite.len-entries nothing) ∙ finite.len-empty text_order PostingList))
