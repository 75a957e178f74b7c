-- A document gathered into a shard, term by term.
use Rattle.std.proofs.Common.{◌≡◌, ◌≢◌, ℕ, suc, ◌+◌, ◌<◌, ◌≤◌, List, [], ◌∷◌, ◌++◌, length, max}
use Rattle.std.proofs.Common.{Bool, true, false, cond, Some, get_or, take, map, refl, sym, ap, ap₂}
use Rattle.std.proofs.Common.{◌∙◌, arith, filter, append-nil}
use Rattle.std.specs.Prelude.{◌||◌, ◌&&◌, ◌==◌}
use Rattle.std.specs.FinMap as finite
use Rattle.std.specs.FinMap.{find}
use Rattle.std.specs.Option.{unwrap_or}
use Rattle.std.specs.Ordering.{eq_by_cmp}
use Rattle.std.specs.Str.{bytes_eq}
use Rattle.std.proofs.lemmas.Bool.{false_from_ne_true}
use Rattle.std.proofs.lemmas.Grind.{common_steps}
use Rattle.std.proofs.lemmas.List.{take_more, length-take-le, get_or-take}
use Rattle.std.proofs.lemmas.List.Elements.{filter-append}
use Rattle.std.proofs.lemmas.List.Folds.{list_any-append}
use Rattle.std.proofs.lemmas.Map.Text.{is_eq-slice_cmp}
use Rattle.std.proofs.lemmas.Map.Views.{any-filter_same}
use Rattle.std.proofs.lemmas.Slice.Eq.{bytes_eq-Decides}
use Rattle.index_definitions.specs.Words.{Word, word_terms, positions_of}
use Rattle.index_definitions.specs.Terms.{has_term}
use Rattle.index_definitions.specs.PostingLists.{PostingList, last_document}
use Rattle.index_definitions.proofs.GreatestLemmas.{greatest, from-le}
use Rattle.index_definitions.proofs.ListsLemmas.{list_any-map}
use Rattle.text_table.specs.TextTables.{AreDistinct}
use Rattle.text_table.specs.TextMaps.{text_order}
use Rattle.text_table.proofs.TextMapsLemmas.{text_order_total, text_order_exact}
use Rattle.document_terms.specs.Shards.{shard_of}
use Rattle.document_terms.specs.Counted.{AreTermsOf}
use Rattle.shard.specs.Shards.{TermLists, ShardParts, list_of, last_in, comes_last}
use Rattle.shard.specs.Shards.{words_of_shard, with_positions, with_document, with_terms}
use Rattle.shard.specs.Shards.{gathered, gathered_last}
use Rattle.shard.proofs.FindLemmas.{find_keyed}
use Rattle.shard.proofs.ShardLemmas.{entry_last}

-- ---- what a look-up finds after documents were appended

module _ (lists : TermLists) (document : ℕ) (ws : List Word) where
  -- what is appended to a term
  abbrev pub more : List ℕ → PostingList
  more q = (document, positions_of q ws) ∷ []

  pub get-with_terms : (ts : List (List ℕ)) (q : List ℕ)
      → finite.get (with_terms lists document ws ts) q
      ≡ cond (has_term ts q) (Some (list_of lists q ++ more q)) (finite.get lists q)
  get-with_terms ts q =
      finite.get-from_entries text_order_total
      (map (with_document lists document ws) ts ++ finite.entries lists) q
      ∙ find_keyed (λ (t : List ℕ). t) (λ t. list_of lists t ++ more t) q ts
      (finite.entries lists)
      ∙ ap (cond (has_term ts q) (Some (list_of lists q ++ more q)))
      (sym (finite.get-entries lists q))

  -- the same terms make the same map
  pub with_terms-same : (ts us : List (List ℕ))
      → ((q : List ℕ) → has_term ts q ≡ has_term us q)
      → with_terms lists document ws ts ≡ with_terms lists document ws us
  with_terms-same ts us same =
      finite.same_map text_order_total text_order_exact _ _ (λ q.
      get-with_terms ts q
      ∙ ap (λ b. cond b (Some (list_of lists q ++ more q)) (finite.get lists q)) (same q)
      ∙ sym (get-with_terms us q))

  -- no terms change nothing
  pub with_terms-none : with_terms lists document ws [] ≡ lists
  with_terms-none =
      finite.same_map text_order_total text_order_exact _ _ (λ q. get-with_terms [] q)

  pub list_of-other : (ts : List (List ℕ)) (t : List ℕ) → has_term ts t ≡ false
      → list_of (with_terms lists document ws ts) t ≡ list_of lists t
  list_of-other ts t other =
      ap (λ o. unwrap_or o [])
      (get-with_terms ts t
      ∙ ap (λ b. cond b (Some (list_of lists t ++ more t)) (finite.get lists t)) other)

  inserted : (ts : List (List ℕ)) (t q : List ℕ)
      → cond (bytes_eq q t) (Some (list_of lists t ++ more t))
      (cond (has_term ts q) (Some (list_of lists q ++ more q)) (finite.get lists q))
      ≡ cond (has_term (ts ++ t ∷ []) q) (Some (list_of lists q ++ more q)) (finite.get lists q)
  inserted ts t q =
      elim (bytes_eq q t) as (λ b. bytes_eq q t ≡ b
      → cond b (Some (list_of lists t ++ more t))
      (cond (has_term ts q) (Some (list_of lists q ++ more q)) (finite.get lists q))
      ≡ cond (has_term ts q || (b || false))
      (Some (list_of lists q ++ more q)) (finite.get lists q)) [
        | true ↦ λ same.
            let is : q ≡ t = (bytes_eq-Decides q t).0 same in
            ap (λ k. Some (list_of lists k ++ more k)) (sym is)
            ∙ elim (has_term ts q) as (λ b. Some (list_of lists q ++ more q)
            ≡ cond (b || true) (Some (list_of lists q ++ more q)) (finite.get lists q)) [
              | true ↦ refl
              | false ↦ refl
            ]
        | false ↦ λ _.
            elim (has_term ts q) as (λ b.
            cond b (Some (list_of lists q ++ more q)) (finite.get lists q)
            ≡ cond (b || false) (Some (list_of lists q ++ more q)) (finite.get lists q)) [
              | true ↦ refl
              | false ↦ refl
            ]
      ] refl
      ∙ sym (ap (λ b. cond b (Some (list_of lists q ++ more q)) (finite.get lists q))
      (list_any-append (bytes_eq q) ts (t ∷ [])))

  -- a document is appended to one term more
  pub with_terms-push : (ts : List (List ℕ)) (t : List ℕ) → has_term ts t ≡ false
      → with_positions (with_terms lists document ws ts) t document (positions_of t ws)
      ≡ with_terms lists document ws (ts ++ t ∷ [])
  with_terms-push ts t other =
      let before = with_terms lists document ws ts in
      ap (λ l. finite.insert before t (l ++ more t)) (list_of-other ts t other)
      ∙ finite.same_map text_order_total text_order_exact _ _ (λ q.
      finite.get-insert text_order_total before t (list_of lists t ++ more t) q
      ∙ ap₂ (λ b o. cond b (Some (list_of lists t ++ more t)) o)
      (is_eq-slice_cmp q t) (get-with_terms ts q)
      ∙ inserted ts t q
      ∙ sym (get-with_terms (ts ++ t ∷ []) q))

-- ---- the terms of a shard

-- whether the term belongs to the shard
abbrev pub belongs : ℕ → List ℕ → Bool
belongs number t = shard_of t == number

pub belonging-more :
    (number : ℕ) (ts : List (List ℕ)) (k : ℕ) → k < length ts
    → belongs number (get_or ts k []) ≡ true
    → filter (belongs number) (take (k + 1) ts)
    ≡ filter (belongs number) (take k ts) ++ get_or ts k [] ∷ []
belonging-more number ts k has is =
    let t = get_or ts k [] in
    ap (filter (belongs number)) (take_more ts k [] has)
    ∙ filter-append (belongs number) (take k ts) (t ∷ [])
    ∙ ap (λ b. filter (belongs number) (take k ts) ++ cond b (t ∷ []) []) is

pub belonging-same :
    (number : ℕ) (ts : List (List ℕ)) (k : ℕ) → k < length ts
    → belongs number (get_or ts k []) ≡ false
    → filter (belongs number) (take (k + 1) ts) ≡ filter (belongs number) (take k ts)
belonging-same number ts k has is =
    let t = get_or ts k [] in
    ap (filter (belongs number)) (take_more ts k [] has)
    ∙ filter-append (belongs number) (take k ts) (t ∷ [])
    ∙ ap (λ b. filter (belongs number) (take k ts) ++ cond b (t ∷ []) []) is
    ∙ append-nil (filter (belongs number) (take k ts))

-- a later term isn't among the terms before it
not_before :
    (ts : List (List ℕ)) (t : List ℕ)
    → ((i : ℕ) → i < length ts → get_or ts i [] ≢ t) → has_term ts t ≡ false
not_before [] t other = refl
not_before (u ∷ ts) t other =
    ap₂ (λ a b. a || b)
    (false_from_ne_true (bytes_eq t u) (λ same.
    other 0 (omega arith) (sym ((bytes_eq-Decides t u).0 same))))
    (not_before ts t (λ i within. other (suc i) (omega arith)))

-- a filter keeps out what isn't there
filtered_out :
    (p : List ℕ → Bool) (t : List ℕ) (ts : List (List ℕ))
    → has_term ts t ≡ false → has_term (filter p ts) t ≡ false
filtered_out p t [] none = refl
filtered_out p t (u ∷ ts) none =
    elim (bytes_eq t u) as (λ b. bytes_eq t u ≡ b → (b || has_term ts t) ≡ false
    → has_term (filter p (u ∷ ts)) t ≡ false) [
      | true ↦ λ _ no. cc
      | false ↦ λ other rest.
          elim (p u) as (λ b. has_term (cond b (u ∷ filter p ts) (filter p ts)) t ≡ false) [
            | true ↦ ap (λ b. b || has_term (filter p ts) t) other ∙ filtered_out p t ts rest
            | false ↦ filtered_out p t ts rest
          ]
    ] refl none

pub not_yet :
    (number : ℕ) (ts : List (List ℕ)) (k : ℕ) → AreDistinct ts → k < length ts
    → has_term (filter (belongs number) (take k ts)) (get_or ts k []) ≡ false
not_yet number ts k distinct has =
    let len = length-take-le k ts (omega arith) in
    filtered_out (belongs number) (get_or ts k []) (take k ts)
    (not_before (take k ts) (get_or ts k []) (λ i within same.
    distinct i k [] (omega (arith, len, within)) has
    (sym (get_or-take k ts i [] (omega (arith, len, within))) ∙ same)))

-- ---- the terms of the words that belong to the shard are the terms that belong to it

pub same_terms :
    (number : ℕ) (ts : List (List ℕ)) (ws : List Word) → AreTermsOf ts ws
    → (q : List ℕ)
    → has_term (filter (belongs number) ts) q
    ≡ has_term (word_terms (words_of_shard number ws)) q
same_terms number ts ws are q =
    any-filter_same (bytes_eq q) (belongs number) (belongs number q)
    (λ t same. ap (belongs number) (sym ((bytes_eq-Decides q t).0 same))) ts
    ∙ ap (λ b. belongs number q && b) (are.members q ∙ list_any-map (bytes_eq q) (λ (w : Word). w.1) ws)
    ∙ sym (list_any-map (bytes_eq q) (λ (w : Word). w.1) (words_of_shard number ws)
    ∙ any-filter_same (λ (w : Word). bytes_eq q w.1) (λ w. belongs number w.1) (belongs number q)
    (λ w same. ap (belongs number) (sym ((bytes_eq-Decides q w.1).0 same))) ws)

-- ---- a term's last document is no later than the last

found_last : (q : List ℕ) (m : ℕ) (es : List (List ℕ × PostingList))
    → last_document (unwrap_or (find text_order q es) []) ≤ greatest entry_last m es
found_last q m [] = omega arith
found_last q m (e ∷ es) =
    elim (eq_by_cmp text_order q e.0) as (λ b.
    last_document (unwrap_or (cond b (Some e.1) (find text_order q es)) [])
    ≤ greatest entry_last (max m (entry_last e)) es) [
      | true ↦ from-le entry_last (last_document e.1) (max m (entry_last e)) es (omega arith)
      | false ↦ found_last q (max m (entry_last e)) es
    ]

pub list_of-last : (lists : TermLists) (q : List ℕ)
    → last_document (list_of lists q) ≤ last_in lists
list_of-last lists q =
    let found = found_last q 0 (finite.entries lists) in
    let is = ap (λ o. last_document (unwrap_or o [])) (finite.get-entries lists q) in
    omega (arith, found, is)

-- ---- when nothing is gathered

pub gathered-late : (shard : ShardParts) (document : ℕ) (ws : List Word)
    → document ≤ last_in shard.lists → shard ≡ gathered_last shard document ws
gathered-late shard document ws late =
    let no : comes_last shard.lists document ≡ false = grind (arith, common_steps) in
    ap (λ b. cond b (gathered shard document ws) shard) (sym no)

pub gathered-later : (shard : ShardParts) (document : ℕ) (ws : List Word)
    → last_in shard.lists < document
    → gathered shard document ws ≡ gathered_last shard document ws
gathered-later shard document ws late =
    let yes : comes_last shard.lists document ≡ true = grind (arith, common_steps) in
    ap (λ b. cond b (gathered shard document ws) shard) (sym yes)
