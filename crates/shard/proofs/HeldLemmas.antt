-- The shard after all documents, and its last document.
use Rattle.std.proofs.Common.{◌≡◌, ℕ, ◌+◌, ◌<◌, ◌≤◌, List, [], ◌∷◌, ◌++◌, length, max, map, fold}
use Rattle.std.proofs.Common.{true, false, cond, refl, ap, ◌∙◌, arith}
use Rattle.std.specs.declared.cmp.Ordering.TheVariants.{Less, Equal, Greater}
use Rattle.std.specs.FinMap as finite
use Rattle.std.specs.FinMap.Entries.{put, by_order}
use Rattle.std.specs.List.{enumerate_from}
use Rattle.std.proofs.lemmas.Grind.{common_steps}
use Rattle.std.proofs.lemmas.List.Sums.{fold-append}
use Rattle.index_definitions.specs.Words.{Word, word_terms, positions_of}
use Rattle.index_definitions.specs.PostingLists.{PostingList, last_document}
use Rattle.index_definitions.proofs.GreatestLemmas.{greatest, greatest-max}
use Rattle.index_definitions.proofs.NumberedLemmas.{enumerate_from-push}
use Rattle.text_table.specs.TextMaps.{text_order}
use Rattle.text_table.proofs.TextMapsLemmas.{text_order_total}
use Rattle.shard.specs.Shards.{TermLists, ShardParts, empty_shard, list_of, last_in}
use Rattle.shard.specs.Shards.{comes_last, with_document, with_terms, gathered}
use Rattle.shard.specs.Shards.{gathered_last, words_of_shard, after_document, shard_after}
use Rattle.postings.proofs.PostingListsLemmas.{last_document-push}
use Rattle.shard.proofs.ShardLemmas.{entry_last, last_in-empty}
use Rattle.shard.proofs.GatherLemmas.{gathered-later}

-- ---- one document more

pub shard_after-none : (number : ℕ) → shard_after number [] ≡ empty_shard number
shard_after-none number = refl

pub shard_after-push : (number : ℕ) (ws : List (List Word)) (w : List Word)
    → shard_after number (ws ++ w ∷ [])
    ≡ gathered_last (shard_after number ws) (length ws + 1) w
shard_after-push number ws w =
    let last : 1 + length ws ≡ length ws + 1 = omega arith in
    ap (fold after_document (empty_shard number)) (enumerate_from-push 1 ws w)
    ∙ fold-append after_document (empty_shard number) (enumerate_from 1 ws)
    ((1 + length ws, w) ∷ [])
    ∙ ap (λ k. gathered_last (shard_after number ws) k w) last

gathered_last-number : (shard : ShardParts) (document : ℕ) (ws : List Word)
    → (gathered_last shard document ws).number ≡ shard.number
gathered_last-number shard document ws =
    elim (comes_last shard.lists document) as (λ b.
    (cond b (gathered shard document ws) shard).number ≡ shard.number)
    [ true ↦ refl | false ↦ refl ]

number-kept : (shard : ShardParts) (documents : List (ℕ × List Word))
    → (fold after_document shard documents).number ≡ shard.number
number-kept shard [] = refl
number-kept shard (d ∷ ds) =
    number-kept (after_document shard d) ds ∙ gathered_last-number shard d.0 d.1

pub shard_after-number : (number : ℕ) (ws : List (List Word))
    → (shard_after number ws).number ≡ number
shard_after-number number ws = number-kept (empty_shard number) (enumerate_from 1 ws)

-- ---- no document comes after the last

put_within : (k : List ℕ) (v : PostingList) (m n : ℕ) (es : List (List ℕ × PostingList))
    → greatest entry_last m es ≤ n → last_document v ≤ n
    → greatest entry_last m (put text_order k v es) ≤ n
put_within k v m n [] before new = omega (arith, before, new)
put_within k v m n (e ∷ es) before new =
    let mine = last_document v in
    let theirs = entry_last e in
    let rest = greatest-max entry_last m theirs es in
    elim (text_order k e.0) as (λ o.
    greatest entry_last m (by_order o ((k, v) ∷ e ∷ es) ((e.0, v) ∷ es)
    (e ∷ put text_order k v es)) ≤ n) [
      | Less ↦
          let turned : max (max m mine) theirs ≡ max (max m theirs) mine = omega arith in
          let all = greatest-max entry_last (max m theirs) mine es in
          let same = ap (λ x. greatest entry_last x es) turned in
          omega (arith, all, same, before, new)
      | Equal ↦
          let all = greatest-max entry_last m mine es in
          omega (arith, all, rest, before, new)
      | Greater ↦ put_within k v (max m theirs) n es before new
    ]

entries_within : (n : ℕ) (es : List (List ℕ × PostingList))
    → greatest entry_last 0 es ≤ n → last_in (finite.from_entries es) ≤ n
entries_within n [] within = omega (arith, last_in-empty)
entries_within n (e ∷ es) within =
    let others = finite.from_entries {R = text_order} es in
    let all = greatest-max entry_last 0 (entry_last e) es in
    let made = entries_within n es (omega (arith, all, within)) in
    let put_in = ap (greatest entry_last 0)
    (finite.entries-insert text_order_total others e.0 e.1) in
    let most = put_within e.0 e.1 0 n (finite.entries others) made (omega (arith, all, within)) in
    omega (arith, put_in, most)

-- a document that is no earlier is the last
pub with_terms-last : (lists : TermLists) (document : ℕ) (ws : List Word) (ts : List (List ℕ))
    → last_in lists ≤ document → last_in (with_terms lists document ws ts) ≤ document
with_terms-last lists document ws ts before =
    entries_within document (map (with_document lists document ws) ts ++ finite.entries lists)
    (all_within ts)
  where
    all_within : (us : List (List ℕ))
        → greatest entry_last 0 (map (with_document lists document ws) us ++ finite.entries lists)
        ≤ document
    all_within [] = before
    all_within (u ∷ us) =
        let others = map (with_document lists document ws) us ++ finite.entries lists in
        let one = last_document-push (list_of lists u) document (positions_of u ws) in
        let all =
        greatest-max entry_last 0 (entry_last (with_document lists document ws u)) others in
        omega (arith, one, all, all_within us)

-- documents from k on, after earlier ones
last-within : (shard : ShardParts) (k : ℕ) (ws : List (List Word)) → last_in shard.lists < k
    → last_in (fold after_document shard (enumerate_from k ws)).lists < k + length ws
last-within shard k [] before = omega (arith, before)
last-within shard k (w ∷ ws) before =
    let gained : last_in (gathered shard k w).lists ≤ k = with_terms-last shard.lists k w
    (word_terms (words_of_shard shard.number w)) (omega (arith, before)) in
    let rest = last-within (gathered shard k w) (k + 1) ws (omega (arith, gained)) in
    let same = ap (λ s. last_in (fold after_document s (enumerate_from (k + 1) ws)).lists)
    (gathered-later shard k w before) in
    omega (arith, rest, same)

pub shard_after-last : (number : ℕ) (ws : List (List Word))
    → last_in (shard_after number ws).lists < length ws + 1
shard_after-last number ws =
    let within = last-within (empty_shard number) 1 ws (omega (arith, last_in-empty)) in
    omega (arith, within)

-- so the next document is gathered
pub shard_after-comes_last : (number : ℕ) (ws : List (List Word))
    → comes_last (shard_after number ws).lists (length ws + 1) ≡ true
shard_after-comes_last number ws =
    let within = shard_after-last number ws in grind (arith, common_steps, within)
