-- What a look-up finds in a shard after all documents.
use Rattle.std.proofs.Common.{◌≡◌, ℕ, ◌+◌, ◌<◌, ◌≤◌, List, [], ◌∷◌, ◌++◌, length, map, filter, fold}
use Rattle.std.proofs.Common.{Bool, true, false, cond, Some, None, is_some, get_or, refl, sym, ap}
use Rattle.std.proofs.Common.{ap₂, ◌∙◌, arith, append_assoc, sum}
use Rattle.std.specs.Prelude.{◌&&◌, ◌||◌, ◌==◌, nat_lt}
use Rattle.std.specs.declared.option.Option.{Option}
use Rattle.std.specs.FinMap as finite
use Rattle.std.specs.List.{enumerate_from, flat_map, list_any}
use Rattle.std.specs.Option.{unwrap_or}
use Rattle.std.specs.Str.{bytes_eq}
use Rattle.std.proofs.lemmas.Grind.{common_steps}
use Rattle.std.proofs.lemmas.List.Elements.{All-from_get_or}
use Rattle.std.proofs.lemmas.List.Folds.{list_any-append, list_any_at, list_any_none}
use Rattle.std.proofs.lemmas.Map.Views.{any-filter_same}
use Rattle.std.proofs.lemmas.Nat.{mod_below}
use Rattle.std.proofs.lemmas.Slice.Eq.{bytes_eq-Decides}
use Rattle.index_definitions.specs.Words.{Word, word_terms, positions_of}
use Rattle.index_definitions.specs.Terms.{has_term, HaveSameTerms}
use Rattle.index_definitions.specs.Postings.{postings, postings_of}
use Rattle.index_definitions.specs.PostingLists.{PostingList}
use Rattle.index_definitions.specs.Index.{by_document}
use Rattle.index_definitions.proofs.ListsLemmas.{list_any-map}
use Rattle.index_definitions.proofs.OptionsLemmas.{is_some-cond}
use Rattle.index_definitions.proofs.PostingsLemmas.{counted_all, posting_list}
use Rattle.index_definitions.proofs.PostingsLemmas.{terms-postings, by_document-documents}
use Rattle.text_table.specs.TextMaps.{text_order}
use Rattle.document_terms.specs.Shards.{shard_of}
use Rattle.shard.specs.Shards.{ShardParts, empty_shard, list_of, last_in}
use Rattle.shard.specs.Shards.{gathered, words_of_shard}
use Rattle.shard.proofs.GatherLemmas.{belongs, get-with_terms, gathered-later}
use Rattle.shard.specs.Shards.{after_document, shard_after}
use Rattle.shard.proofs.HeldLemmas.{with_terms-last}
use Rattle.shard.proofs.ShardLemmas.{last_in-empty}

-- a term of the words
abbrev in_words : List ℕ → List Word → Bool
in_words t words = list_any (λ w. bytes_eq t w.1) words

in_words-positions : (t : List ℕ) (ws : List Word)
    → nat_lt 0 (length (positions_of t ws)) ≡ in_words t ws
in_words-positions t [] = refl
in_words-positions t (w ∷ ws) =
    elim (bytes_eq t w.1) as (λ b.
    nat_lt 0 (length (map (λ (v : Word). v.0) (cond b (w ∷ filter (λ v. bytes_eq t v.1) ws)
    (filter (λ v. bytes_eq t v.1) ws)))) ≡ (b || in_words t ws)) [
      | true ↦ grind (arith, common_steps)
      | false ↦ in_words-positions t ws
    ]

-- the terms that a document brings to a shard
brought : (number : ℕ) (t : List ℕ) (ws : List Word)
    → has_term (word_terms (words_of_shard number ws)) t
    ≡ (belongs number t && in_words t ws)
brought number t ws =
    list_any-map (bytes_eq t) (λ (w : Word). w.1) (words_of_shard number ws)
    ∙ any-filter_same (λ (w : Word). bytes_eq t w.1) (λ w. belongs number w.1) (belongs number t)
    (λ w same. ap (belongs number) (sym ((bytes_eq-Decides t w.1).0 same))) ws

-- a term of no document has no places
no_documents : (t : List ℕ) (k : ℕ) (ws : List (List Word))
    → in_words t (flat_map (λ w. w) ws) ≡ false → posting_list t k ws ≡ []
no_documents t k [] none = refl
no_documents t k (w ∷ ws) none =
    let later = flat_map (λ (v : List Word). v) ws in
    let both = sym (list_any-append (λ (v : Word). bytes_eq t v.1) w later) ∙ none in
    ap (λ b. cond b ((k, positions_of t w) ∷ posting_list t (k + 1) ws) (posting_list t (k + 1) ws))
    (in_words-positions t w ∙ neither (in_words t w) (in_words t later) both)
    ∙ no_documents t (k + 1) ws (neither_second (in_words t w) (in_words t later) both)
  where
    neither : (a b : Bool) → (a || b) ≡ false → a ≡ false
    neither true b is = is
    neither false b is = refl

    neither_second : (a b : Bool) → (a || b) ≡ false → b ≡ false
    neither_second true b is = cc
    neither_second false b is = is

-- what a look-up found before one document and later ones, and what it finds after
grown : (mine here later : Bool) (old : Option PostingList) (place : ℕ × List ℕ) (places : PostingList)
    → (later ≡ false → places ≡ [])
    → cond (mine && later)
    (Some (unwrap_or (cond (mine && here) (Some (unwrap_or old [] ++ place ∷ [])) old) []
    ++ places))
    (cond (mine && here) (Some (unwrap_or old [] ++ place ∷ [])) old)
    ≡ cond (mine && (here || later))
    (Some (unwrap_or old [] ++ cond here (place ∷ places) places)) old
grown false here later old place places none = refl
grown true true true old place places none =
    ap Some (append_assoc (unwrap_or old []) (place ∷ []) places)
grown true true false old place places none =
    ap (λ ps. Some (unwrap_or old [] ++ place ∷ ps)) (sym (none refl))
grown true false true old place places none = refl
grown true false false old place places none = refl

get-after : (shard : ShardParts) (k : ℕ) (ws : List (List Word)) (t : List ℕ)
    → last_in shard.lists < k
    → finite.get (fold after_document shard (enumerate_from k ws)).lists t
    ≡ cond (belongs shard.number t && in_words t (flat_map (λ w. w) ws))
    (Some (list_of shard.lists t ++ posting_list t k ws)) (finite.get shard.lists t)
get-after shard k [] t before =
    elim (belongs shard.number t) as (λ b. finite.get shard.lists t
    ≡ cond (b && false) (Some (list_of shard.lists t ++ [])) (finite.get shard.lists t))
    [ true ↦ refl | false ↦ refl ]
get-after shard k (w ∷ ws) t before =
    let next = gathered shard k w in
    let later = flat_map (λ (v : List Word). v) ws in
    let gained : last_in next.lists ≤ k = with_terms-last shard.lists k w
    (word_terms (words_of_shard shard.number w)) (omega (arith, before)) in
    let found : finite.get next.lists t
    ≡ cond (belongs shard.number t && in_words t w)
    (Some (list_of shard.lists t ++ (k, positions_of t w) ∷ [])) (finite.get shard.lists t) =
    get-with_terms shard.lists k w (word_terms (words_of_shard shard.number w)) t
    ∙ ap (λ b. cond b (Some (list_of shard.lists t ++ (k, positions_of t w) ∷ []))
    (finite.get shard.lists t)) (brought shard.number t w) in
    ap (λ s. finite.get (fold after_document s (enumerate_from (k + 1) ws)).lists t)
    (sym (gathered-later shard k w before))
    ∙ get-after next (k + 1) ws t (omega (arith, gained))
    ∙ ap (λ o. cond (belongs shard.number t && in_words t later)
    (Some (unwrap_or o [] ++ posting_list t (k + 1) ws)) o) found
    ∙ grown (belongs shard.number t) (in_words t w) (in_words t later) (finite.get shard.lists t)
    (k, positions_of t w) (posting_list t (k + 1) ws) (no_documents t (k + 1) ws)
    ∙ ap₂ (λ a b. cond (belongs shard.number t && a) (Some (list_of shard.lists t
    ++ cond b ((k, positions_of t w) ∷ posting_list t (k + 1) ws) (posting_list t (k + 1) ws)))
    (finite.get shard.lists t))
    (sym (list_any-append (λ (v : Word). bytes_eq t v.1) w later))
    (sym (in_words-positions t w))

and_comm : (a b : Bool) → (a && b) ≡ (b && a)
and_comm true true = refl
and_comm true false = refl
and_comm false true = refl
and_comm false false = refl

module _ (stopped documents : List (List ℕ)) where
  -- one of the documents has this term
  abbrev pub has_posting : List ℕ → Bool
  has_posting t = has_term (map (λ p. p.term) (postings documents stopped)) t

  -- a shard has the terms that belong to it, each with all its documents
  pub get-shard_after : (number : ℕ) (t : List ℕ)
      → finite.get (shard_after number (counted_all stopped documents)).lists t
      ≡ cond (has_posting t && (shard_of t == number))
      (Some (by_document (length documents) (postings_of t (postings documents stopped))))
      None
  get-shard_after number t =
      let ws = counted_all stopped documents in
      get-after (empty_shard number) 1 ws t (omega (arith, last_in-empty))
      ∙ ap (λ o. cond (belongs number t && in_words t (flat_map (λ w. w) ws))
      (Some (unwrap_or o [] ++ posting_list t 1 ws)) o) (finite.get-empty text_order t)
      ∙ ap₂ (λ b ps. cond b (Some ps) None)
      (and_comm (belongs number t) (in_words t (flat_map (λ w. w) ws))
      ∙ ap (λ b. b && belongs number t) (sym (ap (λ ts. has_term ts t) (terms-postings stopped documents)
      ∙ list_any-map (bytes_eq t) (λ (w : Word). w.1) (flat_map (λ w. w) ws))))
      (sym (by_document-documents stopped documents t))

  pub is_some-shard_after : (number : ℕ) (t : List ℕ)
      → is_some (finite.get (shard_after number (counted_all stopped documents)).lists t)
      ≡ (has_posting t && (shard_of t == number))
  is_some-shard_after number t =
      ap is_some (get-shard_after number t)
      ∙ is_some-cond (has_posting t && (shard_of t == number)) _

has_term-flat : (t : List ℕ) (lists : List (List (List ℕ)))
    → has_term (flat_map (λ l. l) lists) t ≡ list_any (λ l. has_term l t) lists
has_term-flat t [] = refl
has_term-flat t (l ∷ lists) =
    list_any-append (bytes_eq t) l (flat_map (λ m. m) lists)
    ∙ ap (λ b. has_term l t || b) (has_term-flat t lists)

module _ (stopped documents : List (List ℕ)) where
  -- the terms of the sixteen shards together are those of the documents
  pub HaveSameTerms-shards : (lists : List (List (List ℕ))) → length lists ≡ 16
      → ((number : ℕ) → number < 16 → (t : List ℕ) → has_term (get_or lists number []) t
      ≡ is_some (finite.get (shard_after number (counted_all stopped documents)).lists t))
      → HaveSameTerms (flat_map (λ l. l) lists)
      (map (λ p. p.term) (postings documents stopped))
  HaveSameTerms-shards lists sixteen each t =
      let counted = has_posting stopped documents t in
      let own : shard_of t < 16 = mod_below (sum t) 16 (omega arith) in
      let has : (number : ℕ) → number < 16
      → has_term (get_or lists number []) t ≡ (counted && (shard_of t == number)) =
      λ number within.
      each number within t ∙ is_some-shard_after stopped documents number t in
      has_term-flat t lists
      ∙ elim counted as (λ b. counted ≡ b → list_any (λ l. has_term l t) lists ≡ b) [
        | true ↦ λ is.
            let same : (shard_of t == shard_of t) ≡ true = grind (arith, common_steps) in
            list_any_at (λ l. has_term l t) lists (shard_of t) [] (omega (arith, own, sixteen))
            (has (shard_of t) own ∙ ap₂ (λ a b. a && b) is same)
        | false ↦ λ is.
            list_any_none (λ l. has_term l t) lists
            (All-from_get_or (λ l. has_term l t ≡ false) lists [] (λ number within.
            has number (omega (arith, within, sixteen))
            ∙ ap (λ a. a && (shard_of t == number)) is))
      ] refl
