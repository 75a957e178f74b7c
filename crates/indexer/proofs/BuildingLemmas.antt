-- The parts of `build` together.
use Rattle.std.proofs.Common.{◌≡◌, ℕ, ◌+◌, ◌<◌, ◌≤◌, Some, List, [], ◌∷◌, ◌++◌, map, length, Vec, Global}
use Rattle.std.proofs.Common.{refl, sym, ap, ◌∙◌, subst, arith, append_assoc, length-append}
use Rattle.std.specs.Prelude.{slice_get}
use Rattle.std.specs.List.{range_with_len}
use Rattle.std.proofs.lemmas.List.{length-map}
use Rattle.std.proofs.lemmas.List.FromFn.{length-map-range_with_len}
use Rattle.std.proofs.lemmas.Option.{same_Some}
use Rattle.execution_definitions.specs.declared.call.Call.TheVariants as call
use Rattle.execution_definitions.specs.Sequential.{State, initial_state, sequential_state}
use Rattle.delegation.specs.Runtimes.{IsAfter}
use Rattle.index_definitions.specs.Words.{Word}
use Rattle.index_definitions.proofs.PostingsLemmas.{counted_all}
use Rattle.shard.specs.Shards.{ShardParts, shard_after}
use Rattle.indexer.specs.declared.item.Item.{Item}
use Rattle.indexer.specs.declared.item.Item.TheVariants.{Doc, Shard, Stop}
use Rattle.indexer.specs.Documents.{split}
use Rattle.indexer.specs.Totals.{Totals}
use Rattle.indexer.specs.Items.{item_meaning}
use Rattle.indexer.specs.BuildCalls.{ItemCall, shard_numbers, make_calls, split_calls}
use Rattle.indexer.specs.BuildCalls.{gather_calls, get_call, get_calls, build_calls, left_by}
use Rattle.indexer.specs.Parts.{ItemView, MayMake, HasMade}
use Rattle.indexer.specs.Collected.{HasShards}
use Rattle.indexer.proofs.BuildSoundLemmas.{build_sound}
use Rattle.indexer.proofs.BuildLeavesLemmas.{left, left-append, left-looked, left_before_looks}
use Rattle.indexer.proofs.BuildLeavesLemmas.{value_at}
use Rattle.indexer.proofs.BuiltLemmas.{all_shards}
use Rattle.indexer.proofs.PartsLemmas.{may-front, may-rest, made-next}
use Rattle.indexer.proofs.RangeLemmas.{shard_numbers-is, behind, map-range-at}

-- the bytes of documents
abbrev pub bytes_of : List (Vec ℕ Global) → List (List ℕ)
bytes_of docs = map (λ document. document.items) docs

-- ---- looks

-- they leave the state as it is
pub looked_state : (start now : ItemView) (more : List ItemCall) (documents : ℕ) (numbers : List ℕ)
    → MayMake start more → HasMade start now (map (get_call documents) numbers)
    → now.state ≡ start.state
looked_state start now more documents numbers may made =
    (made may.calls may.after).state
    ∙ left-append (initial_state item_meaning) may.calls (map (get_call documents) numbers)
    ∙ left-looked documents numbers (sequential_state item_meaning may.calls)
    ∙ sym may.after.state

-- what is looked at is the shard
pub is_shard : (start now : State Item Totals) (documents number : ℕ) (parts : ℕ → ShardParts)
    (item : Item) → now ≡ start → number < 16 → HasShards start documents parts
    → slice_get now.values (1 + documents + number) ≡ Some item → item ≡ Shard (parts number)
is_shard start now documents number parts item same within has is =
    same_Some _ _ (sym is
    ∙ ap (λ state. slice_get state.values (1 + documents + number)) same ∙ has number within)

-- where the shards stand
shard-left : (stopped : List (List ℕ)) (words_lists : List (List Word)) (n number : ℕ)
    → length words_lists ≡ n → number < 16
    → slice_get (left_by stopped words_lists).values (1 + n + number)
    ≡ Some (Shard (shard_after number words_lists))
shard-left stopped words_lists n number long within =
    let documents = map (λ words. Doc (split words)) words_lists in
    let shard = λ (k : ℕ). Shard (shard_after k words_lists) in
    let earlier = map shard (range_with_len 0 number) in
    let later = map shard (behind number 16) in
    let parts : map shard shard_numbers ≡ earlier ++ shard number ∷ later =
    ap (map shard) shard_numbers-is ∙ map-range-at shard number 16 within in
    let here : length (Stop stopped ∷ documents ++ earlier) ≡ 1 + n + number =
    omega (
      arith,
      long,
      length-append documents earlier,
      length-map words_lists (λ words. Doc (split words)),
      length-map-range_with_len shard 0 number,
    ) in
    ap (λ shards. slice_get (Stop stopped ∷ documents ++ shards) (1 + n + number)) parts
    ∙ ap (λ values. slice_get (Stop stopped ∷ values) (1 + n + number))
    (sym (append_assoc documents earlier (shard number ∷ later)))
    ∙ value_at (Stop stopped ∷ documents ++ earlier) later (1 + n + number) here (shard number)

-- ---- part after part

module _ (documents stopped : List (List ℕ)) (n : ℕ) (count : length documents ≡ n)
    (few : n ≤ 65536) (start : ItemView) (new : IsAfter item_meaning start []) where
  abbrev makes : List ItemCall
  makes = make_calls documents stopped

  abbrev looks : List ItemCall
  looks = get_calls n ++ call.Total ∷ []

  all : build_calls documents stopped ≡ makes ++ (split_calls n ++ (gather_calls n ++ looks))
  all =
      ap (λ k. makes ++ split_calls k ++ gather_calls k ++ get_calls k ++ call.Total ∷ []) count
      ∙ append_assoc (makes ++ split_calls n ++ gather_calls n) (get_calls n) (call.Total ∷ [])
      ∙ append_assoc (makes ++ split_calls n) (gather_calls n) looks
      ∙ append_assoc makes (split_calls n) (gather_calls n ++ looks)

  may_build : MayMake start (makes ++ (split_calls n ++ (gather_calls n ++ looks)))
  may_build = subst (MayMake start) all (record {
    calls = [];
    after = new;
    sound = build_sound documents stopped (omega (arith, count, few));
  })

  pub may_make : MayMake start makes
  may_make = may-front start makes (split_calls n ++ (gather_calls n ++ looks)) may_build

  module _ (made : ItemView) (first : HasMade start made makes) where
    after_makes : MayMake made (split_calls n ++ (gather_calls n ++ looks))
    after_makes =
        may-rest start made makes (split_calls n ++ (gather_calls n ++ looks)) may_build first

    pub may_split : MayMake made (split_calls n)
    may_split = may-front made (split_calls n) (gather_calls n ++ looks) after_makes

    module _ (divided : ItemView) (second : HasMade made divided (split_calls n)) where
      after_splits : MayMake divided (gather_calls n ++ looks)
      after_splits = may-rest made divided (split_calls n) (gather_calls n ++ looks) after_makes second

      pub may_gather : MayMake divided (gather_calls n)
      may_gather = may-front divided (gather_calls n) looks after_splits

      module _ (gathered : ItemView) (third : HasMade divided gathered (gather_calls n)) where
        after_gathers : MayMake gathered looks
        after_gathers = may-rest divided gathered (gather_calls n) looks after_splits third

        pub may_get : MayMake gathered (get_calls n)
        may_get = may-front gathered (get_calls n) (call.Total ∷ []) after_gathers

        -- what there is to look at
        pub gathered_state : gathered.state ≡ left_by stopped (counted_all stopped documents)
        gathered_state =
            let initial = initial_state item_meaning in
            let calls = ((([] ++ makes) ++ split_calls n) ++ gather_calls n) in
            (third (([] ++ makes) ++ split_calls n)
            (second ([] ++ makes) (first [] new))).state
            ∙ left-append initial (makes ++ split_calls n) (gather_calls n)
            ∙ ap (λ state. left state (gather_calls n)) (left-append initial makes (split_calls n))
            ∙ ap (λ k. left (left (left initial makes) (split_calls k)) (gather_calls k)) (sym count)
            ∙ left_before_looks documents stopped

        pub gathered_shards : HasShards gathered.state n (all_shards stopped documents)
        gathered_shards number within =
            ap (λ state. slice_get state.values (1 + n + number)) gathered_state
            ∙ shard-left stopped (counted_all stopped documents) n number
            (length-map documents _ ∙ count) within

        module _ (looked : ItemView) (fourth : HasMade gathered looked (get_calls n)) where
          pub may_total : MayMake looked (call.Total ∷ [])
          may_total =
              may-rest gathered looked (get_calls n) (call.Total ∷ []) after_gathers fourth

          pub built_state : looked.state ≡ left_by stopped (counted_all stopped documents)
          built_state =
              looked_state gathered looked looks n shard_numbers after_gathers fourth
              ∙ gathered_state

          -- the runtime after all of them
          pub after_build : (end : ItemView) → HasMade looked end (call.Total ∷ [])
              → IsAfter item_meaning end (build_calls documents stopped)
          after_build end fifth =
              subst (IsAfter item_meaning end) (sym all)
              (made-next start made end (makes ++ (split_calls n ++ (gather_calls n ++ looks))) makes
              (split_calls n ++ (gather_calls n ++ looks)) refl first
              (made-next made divided end (split_calls n ++ (gather_calls n ++ looks)) (split_calls n)
              (gather_calls n ++ looks) refl second
              (made-next divided gathered end (gather_calls n ++ looks) (gather_calls n) looks refl
              third
              (made-next gathered looked end looks (get_calls n) (call.Total ∷ []) refl fourth
              fifth))) [] new)
