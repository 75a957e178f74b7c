-- What the calls of `build` leave, one part after the other.
use Rattle.std.proofs.Common.{◌≡◌, ℕ, zero, suc, ◌+◌, List, [], ◌∷◌, ◌++◌, length, map, Some}
use Rattle.std.proofs.Common.{refl, sym, ap, ap₂, ◌∙◌, arith, append-nil, append_assoc}
use Rattle.std.proofs.Common.{length-append}
use Rattle.std.specs.Prelude.{fold, slice_get, slice_set}
use Rattle.std.specs.List.{enumerate_from, flat_map, range_with_len}
use Rattle.std.proofs.lemmas.List.{length-map}
use Rattle.std.proofs.lemmas.List.Folds.{flat_map-map}
use Rattle.std.proofs.lemmas.List.Sums.{fold-append}
use Rattle.std.proofs.lemmas.Simd.{map-map}
use Rattle.execution_definitions.specs.declared.call.Call.TheVariants as call
use Rattle.execution_definitions.specs.Sequential.{State, initial_state, state_after}
use Rattle.execution_definitions.specs.Sequential.{sequential_state}
use Rattle.execution_definitions.proofs.lists.ListLemmas.{slice_get-append_seam}
use Rattle.index_definitions.specs.Words.{Word}
use Rattle.index_definitions.specs.Postings.{counted_words}
use Rattle.shard.specs.Shards.{ShardParts, empty_shard, gathered_last, after_document, shard_after}
use Rattle.indexer.specs.declared.item.Item.{Item}
use Rattle.indexer.specs.declared.item.Item.TheVariants.{Doc, Shard, Stop}
use Rattle.indexer.specs.Documents.{whole, split}
use Rattle.indexer.specs.Totals.{Totals, no_totals, totals_of}
use Rattle.indexer.specs.Items.{item_meaning}
use Rattle.indexer.specs.BuildCalls.{ItemCall, shard_numbers, make_document, make_shard}
use Rattle.indexer.specs.BuildCalls.{make_calls, split_call, split_calls, gather_call}
use Rattle.indexer.specs.BuildCalls.{gather_document_calls, gather_calls, get_call, get_calls}
use Rattle.indexer.specs.BuildCalls.{build_calls, left_by, BuildLeaves}
use Rattle.indexer.proofs.RangeLemmas.{shard_numbers-is, length-shard_numbers}
use Rattle.indexer.proofs.JoinedLemmas.{totals_of-append, totals_of-none, totals_of-nothing_more}

abbrev ItemState : Type 0
ItemState = State Item Totals

-- the state with these values and this total
abbrev state_of : List Item → Totals → ItemState
state_of values total = record { values = values; total = total }

-- what calls leave of a state
abbrev pub left : ItemState → List ItemCall → ItemState
left state calls = fold (state_after item_meaning) state calls

pub left-append : (state : ItemState) (first second : List ItemCall)
    → left state (first ++ second) ≡ left (left state first) second
left-append state first second = fold-append (state_after item_meaning) state first second

-- a split document, and a new one, as items
abbrev split_item : List Word → Item
split_item words = Doc (split words)

abbrev whole_item : List ℕ → Item
whole_item bytes = Doc (whole bytes)

-- ---- a value in its place

slice_set-append_seam : {A : Type 0} (xs : List A) (x y : A) (ys : List A)
    → slice_set (xs ++ x ∷ ys) (length xs) y ≡ xs ++ y ∷ ys
slice_set-append_seam [] x y ys = refl
slice_set-append_seam (w ∷ xs) x y ys = ap (λ zs. w ∷ zs) (slice_set-append_seam xs x y ys)

-- a value in front of others stays where it is
found_in_front : {A : Type 0} (xs ys : List A) (i : ℕ) (x : A)
    → slice_get xs i ≡ Some x → slice_get (xs ++ ys) i ≡ Some x
found_in_front [] ys i x is = absurd cc
found_in_front (w ∷ xs) ys zero x is = is
found_in_front (w ∷ xs) ys (suc i) x is = found_in_front xs ys i x is

-- the value of an object, and a new one in its place, where so many stand before it
module _ (before later : List Item) (object : ℕ) (here : length before ≡ object) where
  pub value_at : (value : Item) → slice_get (before ++ value ∷ later) object ≡ Some value
  value_at value = rw (← here) (slice_get-append_seam before value later)

  put_at : (old new : Item)
      → slice_set (before ++ old ∷ later) object new ≡ before ++ new ∷ later
  put_at old new = rw (← here) (slice_set-append_seam before old new later)

-- ---- objects are made

left-documents : (documents : List (List ℕ)) (values : List Item) (total : Totals)
    → left (state_of values total) (map make_document documents)
    ≡ state_of (values ++ map whole_item documents) total
left-documents [] values total = ap (λ vs. state_of vs total) (sym (append-nil values))
left-documents (d ∷ ds) values total =
    left-documents ds (values ++ whole_item d ∷ []) total
    ∙ ap (λ vs. state_of vs total) (append_assoc values (whole_item d ∷ []) (map whole_item ds))

abbrev empty_item : ℕ → Item
empty_item number = Shard (empty_shard number)

left-shards : (numbers : List ℕ) (values : List Item) (total : Totals)
    → left (state_of values total) (map make_shard numbers)
    ≡ state_of (values ++ map empty_item numbers) total
left-shards [] values total = ap (λ vs. state_of vs total) (sym (append-nil values))
left-shards (k ∷ ks) values total =
    left-shards ks (values ++ empty_item k ∷ []) total
    ∙ ap (λ vs. state_of vs total) (append_assoc values (empty_item k ∷ []) (map empty_item ks))

left-made : (documents stopped : List (List ℕ))
    → left (initial_state item_meaning) (make_calls documents stopped)
    ≡ state_of (Stop stopped ∷ map whole_item documents ++ map empty_item shard_numbers) no_totals
left-made documents stopped =
    let start = state_of (Stop stopped ∷ []) no_totals in
    left-append start (map make_document documents) (map make_shard shard_numbers)
    ∙ ap (λ state. left state (map make_shard shard_numbers))
    (left-documents documents (Stop stopped ∷ []) no_totals)
    ∙ left-shards shard_numbers (Stop stopped ∷ map whole_item documents) no_totals

-- ---- documents are split

module _ (stopped : List (List ℕ)) where
  abbrev words_of : List ℕ → List Word
  words_of document = counted_words stopped document

  -- one document, behind some that are split
  left-split : (done later : List Item) (document : List ℕ) (words : List Word) (place : ℕ)
      → length done ≡ place
      → state_after item_meaning
      (state_of (Stop stopped ∷ done ++ whole_item document ∷ later) (totals_of words))
      (split_call place)
      ≡ state_of (Stop stopped ∷ done ++ split_item (words_of document) ∷ later)
      (totals_of (words ++ words_of document))
  left-split done later document words place here =
      let before = Stop stopped ∷ done in
      let at : length before ≡ 1 + place = omega (arith, here) in
      let there = value_at before later (1 + place) at (whole_item document) in
      let put = put_at before later (1 + place) at (whole_item document)
      (split_item (words_of document)) in
      rw there (ap₂ state_of put (totals_of-append words (words_of document)))

  left-splits : (documents : List (List ℕ)) (done later : List Item) (words : List Word) (place : ℕ)
      → length done ≡ place
      → left (state_of (Stop stopped ∷ done ++ (map whole_item documents ++ later)) (totals_of words))
      (map split_call (range_with_len place (length documents)))
      ≡ state_of (Stop stopped ∷ done ++ (map split_item (map words_of documents) ++ later))
      (totals_of (words ++ flat_map words_of documents))
  left-splits [] done later words place here =
      ap (λ ws. state_of (Stop stopped ∷ done ++ later) (totals_of ws)) (sym (append-nil words))
  left-splits (d ∷ ds) done later words place here =
      let mine = words_of d in
      let rest = map split_call (range_with_len (place + 1) (length ds)) in
      let more = done ++ split_item mine ∷ [] in
      let next : length more ≡ place + 1 =
      length-append done (split_item mine ∷ []) ∙ ap (λ k. k + 1) here in
      ap (λ state. left state rest)
      (left-split done (map whole_item ds ++ later) d words place here
      ∙ ap (λ vs. state_of (Stop stopped ∷ vs) (totals_of (words ++ mine)))
      (sym (append_assoc done (split_item mine ∷ []) (map whole_item ds ++ later))))
      ∙ left-splits ds more later (words ++ mine) (place + 1) next
      ∙ ap₂ (λ vs ws. state_of (Stop stopped ∷ vs) (totals_of ws))
      (append_assoc done (split_item mine ∷ []) (map split_item (map words_of ds) ++ later))
      (append_assoc words mine (flat_map words_of ds))

-- ---- documents are gathered

-- a shard after the document at a place
abbrev gathered_item : ℕ → List Word → ShardParts → Item
gathered_item place words shard = Shard (gathered_last shard (1 + place) words)

module _ (front : List Item) (documents : ℕ) (long : length front ≡ 1 + documents)
    (words : List Word) where
  module _ (place : ℕ) (mine : List Word)
      (read : slice_get front (1 + place) ≡ Some (split_item mine)) where
    -- into one shard, behind some that have it
    left-gather : (done later : List Item) (shard : ShardParts) (number : ℕ)
        → length done ≡ number
        → state_after item_meaning
        (state_of (front ++ (done ++ Shard shard ∷ later)) (totals_of words))
        (gather_call documents place number)
        ≡ state_of (front ++ (done ++ gathered_item place mine shard ∷ later)) (totals_of words)
    left-gather done later shard number here =
        let before = front ++ done in
        let at : length before ≡ 1 + documents + number =
        length-append front done ∙ ap₂ (λ i j. i + j) long here in
        let regroup = λ (value : Item). sym (append_assoc front done (value ∷ later)) in
        let values = front ++ (done ++ Shard shard ∷ later) in
        let there : slice_get values (1 + documents + number) ≡ Some (Shard shard) =
        ap (λ vs. slice_get vs (1 + documents + number)) (regroup (Shard shard))
        ∙ value_at before later (1 + documents + number) at (Shard shard) in
        let looked = found_in_front front (done ++ Shard shard ∷ later) (1 + place)
        (split_item mine) read in
        let put = ap (λ vs. slice_set vs (1 + documents + number) (gathered_item place mine shard))
        (regroup (Shard shard))
        ∙ put_at before later (1 + documents + number) at (Shard shard)
        (gathered_item place mine shard)
        ∙ sym (regroup (gathered_item place mine shard)) in
        rw (there, looked) (ap₂ state_of put (totals_of-nothing_more words))

    left-gathers : (shards : List ShardParts) (done : List Item) (number : ℕ)
        → length done ≡ number
        → left (state_of (front ++ (done ++ map Shard shards)) (totals_of words))
        (map (gather_call documents place) (range_with_len number (length shards)))
        ≡ state_of (front ++ (done ++ map (gathered_item place mine) shards)) (totals_of words)
    left-gathers [] done number here = refl
    left-gathers (shard ∷ shards) done number here =
        let new = gathered_item place mine shard in
        let rest = map (gather_call documents place)
        (range_with_len (number + 1) (length shards)) in
        let more = done ++ new ∷ [] in
        let next : length more ≡ number + 1 =
        length-append done (new ∷ []) ∙ ap (λ k. k + 1) here in
        ap (λ state. left state rest)
        (left-gather done (map Shard shards) shard number here
        ∙ ap (λ vs. state_of (front ++ vs) (totals_of words))
        (sym (append_assoc done (new ∷ []) (map Shard shards))))
        ∙ left-gathers shards more (number + 1) next
        ∙ ap (λ vs. state_of (front ++ vs) (totals_of words))
        (append_assoc done (new ∷ []) (map (gathered_item place mine) shards))

  -- all documents from one on, behind others that are in the front too
  left-gathered : (words_lists : List (List Word)) (before : List Item) (head : Item) (place : ℕ)
      (shards : List ShardParts)
      → front ≡ head ∷ before ++ map split_item words_lists → length before ≡ place
      → length shards ≡ 16
      → left (state_of (front ++ map Shard shards) (totals_of words))
      (flat_map (gather_document_calls documents) (range_with_len place (length words_lists)))
      ≡ state_of (front ++ map (λ shard. Shard (fold after_document shard
      (enumerate_from (1 + place) words_lists))) shards) (totals_of words)
  left-gathered [] before head place shards is here sixteen = refl
  left-gathered (w ∷ ws) before head place shards is here sixteen =
      let first = map (gather_call documents place) shard_numbers in
      let rest = flat_map (gather_document_calls documents)
      (range_with_len (place + 1) (length ws)) in
      let at : length (head ∷ before) ≡ 1 + place = omega (arith, here) in
      let read : slice_get front (1 + place) ≡ Some (split_item w) =
      ap (λ vs. slice_get vs (1 + place)) is
      ∙ value_at (head ∷ before) (map split_item ws) (1 + place) at (split_item w) in
      let after = map (λ shard. gathered_last shard (1 + place) w) shards in
      let one : left (state_of (front ++ map Shard shards) (totals_of words)) first
      ≡ state_of (front ++ map Shard after) (totals_of words) =
      ap (λ ks. left (state_of (front ++ map Shard shards) (totals_of words))
      (map (gather_call documents place) ks))
      (shard_numbers-is ∙ ap (range_with_len 0) (sym sixteen))
      ∙ left-gathers place w read shards [] 0 refl
      ∙ ap (λ vs. state_of (front ++ vs) (totals_of words))
      (sym (map-map Shard (λ shard. gathered_last shard (1 + place) w) shards)) in
      let next : length (before ++ split_item w ∷ []) ≡ place + 1 =
      length-append before (split_item w ∷ []) ∙ ap (λ k. k + 1) here in
      let split_off : front ≡ head ∷ (before ++ split_item w ∷ []) ++ map split_item ws =
      is ∙ ap (λ vs. head ∷ vs) (sym (append_assoc before (split_item w ∷ []) (map split_item ws))) in
      let number : 1 + (place + 1) ≡ 1 + place + 1 = omega arith in
      left-append (state_of (front ++ map Shard shards) (totals_of words)) first rest
      ∙ ap (λ state. left state rest) one
      ∙ left-gathered ws (before ++ split_item w ∷ []) head (place + 1) after split_off next
      (length-map shards (λ shard. gathered_last shard (1 + place) w) ∙ sixteen)
      ∙ ap (λ vs. state_of (front ++ vs) (totals_of words))
      (ap (λ k. map (λ shard. Shard (fold after_document shard (enumerate_from k ws))) after) number
      ∙ map-map (λ shard. Shard (fold after_document shard (enumerate_from (1 + place + 1) ws)))
      (λ shard. gathered_last shard (1 + place) w) shards)

-- ---- objects are looked at

pub left-looked : (documents : ℕ) (numbers : List ℕ) (state : ItemState)
    → left state (map (get_call documents) numbers) ≡ state
left-looked documents [] state = refl
left-looked documents (k ∷ ks) state = left-looked documents ks state

-- ---- the whole

module _ (documents stopped : List (List ℕ)) where
  abbrev n : ℕ
  n = length documents

  abbrev words_lists : List (List Word)
  words_lists = map (counted_words stopped) documents

  abbrev front : List Item
  front = Stop stopped ∷ map split_item words_lists

  after_splits :
      left (left (initial_state item_meaning) (make_calls documents stopped)) (split_calls n)
      ≡ state_of (front ++ map empty_item shard_numbers)
      (totals_of (flat_map (counted_words stopped) documents))
  after_splits =
      let start = state_of (Stop stopped ∷ map whole_item documents ++ map empty_item shard_numbers)
      (totals_of []) in
      ap (λ state. left state (split_calls n))
      (left-made documents stopped
      ∙ ap (state_of (Stop stopped ∷ map whole_item documents ++ map empty_item shard_numbers))
      (sym totals_of-none))
      ∙ left-append start (map split_call (range_with_len 0 n)) (call.End ∷ [])
      ∙ left-splits stopped documents [] (map empty_item shard_numbers) [] 0 refl

  after_gathers : (words : List Word)
      → left (state_of (front ++ map empty_item shard_numbers) (totals_of words)) (gather_calls n)
      ≡ state_of (front ++ map (λ number. Shard (shard_after number words_lists)) shard_numbers)
      (totals_of words)
  after_gathers words =
      let shards = map empty_shard shard_numbers in
      let start = state_of (front ++ map Shard shards) (totals_of words) in
      let many : length words_lists ≡ n = length-map documents (counted_words stopped) in
      let long : length front ≡ 1 + n =
      omega (arith, many, length-map words_lists split_item) in
      let gathers = flat_map (gather_document_calls n) (range_with_len 0 n) in
      ap (λ vs. left (state_of (front ++ vs) (totals_of words)) (gather_calls n))
      (sym (map-map Shard empty_shard shard_numbers))
      ∙ left-append start gathers (call.End ∷ [])
      ∙ ap (λ k. left start (flat_map (gather_document_calls n) (range_with_len 0 k))) (sym many)
      ∙ left-gathered front n long words words_lists [] (Stop stopped) 0 shards refl refl
      (length-map shard_numbers empty_shard ∙ length-shard_numbers)
      ∙ ap (λ vs. state_of (front ++ vs) (totals_of words))
      (map-map (λ shard. Shard (fold after_document shard (enumerate_from (1 + 0) words_lists)))
      empty_shard shard_numbers)

  -- before the shards are looked at
  pub left_before_looks :
      left (left (left (initial_state item_meaning) (make_calls documents stopped)) (split_calls n))
      (gather_calls n)
      ≡ left_by stopped words_lists
  left_before_looks =
      ap (λ state. left state (gather_calls n)) after_splits
      ∙ after_gathers (flat_map (counted_words stopped) documents)
      ∙ ap (λ ws. state_of (front ++ map (λ number. Shard (shard_after number words_lists))
      shard_numbers) (totals_of ws)) (sym (flat_map-map (λ ws. ws) (counted_words stopped) documents))

  pub left_by_build : sequential_state item_meaning (build_calls documents stopped)
      ≡ left_by stopped words_lists
  left_by_build =
      let M = make_calls documents stopped in
      let S = split_calls n in
      let G = gather_calls n in
      let L = get_calls n in
      let I = initial_state item_meaning in
      left-append I (M ++ S ++ G ++ L) (call.Total ∷ [])
      ∙ left-append I (M ++ S ++ G) L
      ∙ left-looked n shard_numbers (left I (M ++ S ++ G))
      ∙ left-append I (M ++ S) G
      ∙ ap (λ state. left state G) (left-append I M S)
      ∙ left_before_looks

pub build_leaves : BuildLeaves
build_leaves = left_by_build
