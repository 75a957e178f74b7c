-- The index from the terms of the sixteen shards.
use Rattle.std.proofs.Common.{◌≡◌, ℕ, ◌+◌, ◌%◌, ◌^◌, ◌<◌, ◌≤◌, List, [], ◌∷◌, ◌++◌, length, get_or}
use Rattle.std.proofs.Common.{map, Bool, true, false, cond, Some, None, refl, sym, subst, ap, ◌∙◌}
use Rattle.std.proofs.Common.{arith, append-nil, ap₂, ⊎_elim}
use Rattle.std.specs.Prelude.{◌==◌, ◌&&◌, is_some}
use Rattle.std.specs.List.{All, flat_map}
use Rattle.std.specs.List.Sorted.{IsPermutation, IsStrictlySortedBy}
use Rattle.std.proofs.lemmas.Bool.{cases_lt}
use Rattle.std.proofs.lemmas.Bool.Decides.{nat_tests}
use Rattle.std.proofs.lemmas.Grind.{flat_map-append}
use Rattle.std.proofs.lemmas.List.{length_push, get_or_append_left, get_or_push, get_or-map}
use Rattle.std.proofs.lemmas.List.{length-map}
use Rattle.std.proofs.lemmas.List.Elements.{All-map, All-weaker}
use Rattle.std.proofs.lemmas.List.Folds.{flat_map-map}
use Rattle.std.proofs.lemmas.List.Sorted.{All-permutation}
use Rattle.std.proofs.lemmas.Option.{same_Some}
use Rattle.index_definitions.specs.Index.{TermRecord, IndexRecord, term_record, by_document}
use Rattle.index_definitions.specs.Index.{index_without}
use Rattle.index_definitions.specs.Terms.{HaveSameTerms, has_term, longest_of}
use Rattle.index_definitions.specs.Postings.{Posting, counted_words, postings, postings_of}
use Rattle.index_definitions.specs.Postings.{terms_of}
use Rattle.text_table.specs.TextTables.{AreDistinct}
use Rattle.class_laws.specs.Counts.{Counts, text_order, count_of}
use Rattle.index_definitions.specs.Indexes.{texts_of}
use Rattle.shard.specs.ShardTerms.{IsTermOfShard, HasTermsOfShard, AppendsTermsOfShard}
use Rattle.indexer.specs.Collected.{CollectsTerms, with_count}
use Rattle.shard.specs.Shards.{ShardParts, shard_after}
use Rattle.document_terms.specs.Shards.{shard_of}
use Rattle.indexer.specs.Totals.{Totals, totals_of}
use Rattle.indexer.proofs.CollectedLemmas.{has_term-permutation, texts_of-with_count}
use Rattle.indexer.proofs.ShardListsLemmas.{All-flat, apart, texts_of-flat}
use Rattle.shard.proofs.HeldTermsLemmas.{has_posting, get-shard_after, is_some-shard_after}
use Rattle.shard.proofs.HeldTermsLemmas.{HaveSameTerms-shards}
use Rattle.indexer.proofs.JoinedLemmas.{count_in-few}
use Rattle.index_definitions.proofs.PostingsLemmas.{counted_all, all_words, length-postings}
use Rattle.index_definitions.proofs.PostingsLemmas.{terms-postings, length-postings_of}
use Rattle.index_definitions.proofs.PostingsLemmas.{term_records-all}
use Rattle.indexer.proofs.WordCountLemmas.{AreWithin, few_words}

-- the shards once all documents are gathered
abbrev pub all_shards : List (List ℕ) → List (List ℕ) → ℕ → ShardParts
all_shards stopped documents number = shard_after number (counted_all stopped documents)

-- ---- shard after shard

-- the terms of no shard
pub collects-none : (parts : ℕ → ShardParts) → CollectsTerms parts 0 []
collects-none parts = record {
  lists = [];
  count = refl;
  terms_are = refl;
  each = λ number within. absurd (omega arith);
}

-- what holds below a number, and of it
or_last : {P : ℕ → Type 0} (n : ℕ) → ((k : ℕ) → k < n → P k) → P n → (k : ℕ) → k < n + 1 → P k
or_last {P} n before last k within = ⊎_elim
    (λ (inner : k < n). before k inner)
    (λ (outer : n ≤ k). let same : n ≡ k = omega arith in subst P same last)
    (cases_lt k n)

-- the terms of one shard more
pub collects-push : (parts : ℕ → ShardParts) (shards : ℕ) (terms longer : List TermRecord)
    → CollectsTerms parts shards terms → AppendsTermsOfShard (parts shards).lists terms longer
    → CollectsTerms parts (shards + 1) longer
collects-push parts shards terms longer collects appends =
    let lists = collects.lists in
    let more = appends.more in
    let long = length_push lists more in
    record {
      lists = lists ++ more ∷ [];
      count = omega (arith, long, collects.count);
      terms_are = appends.appended
          ∙ ap (λ ts. ts ++ more) collects.terms_are
          ∙ ap (λ ts. flat_map (λ list. list) lists ++ ts) (sym (append-nil more))
          ∙ sym (flat_map-append (λ list. list) lists (more ∷ []));
      each = or_last shards
          (λ number within.
          subst (HasTermsOfShard (parts number).lists)
          (sym (get_or_append_left lists (more ∷ []) [] number
          (omega (arith, within, collects.count))))
          (collects.each number within))
          (subst (HasTermsOfShard (parts shards).lists)
          (sym (get_or_push lists more [] shards collects.count)) appends.terms_are);
    }

-- ---- the collected terms

-- the second of two tests that pass
second_passes : (a b : Bool) → (a && b) ≡ true → b ≡ true
second_passes true b both = both
second_passes false b both = cc

same_found : {A : Type 0} (b : Bool) (x y : A) → Some x ≡ cond b (Some y) None → x ≡ y
same_found true x y found = same_Some x y found
same_found false x y found = cc

module _ (stopped documents : List (List ℕ)) (terms : List TermRecord)
    (collects : CollectsTerms (all_shards stopped documents) 16 terms) where
  abbrev all_postings : List Posting
  all_postings = postings documents stopped

  abbrev held : ℕ → ShardParts
  held number = all_shards stopped documents number

  abbrev lists_of_texts : List (List (List ℕ))
  lists_of_texts = map texts_of collects.lists

  -- a list has the terms of its shard
  own_terms : (number : ℕ) → number < 16
      → HasTermsOfShard (held number).lists (get_or collects.lists number [])
  own_terms number within = collects.each number within

  own_texts : (number : ℕ) → number < 16
      → get_or lists_of_texts number [] ≡ texts_of (get_or collects.lists number [])
  own_texts number within =
      get_or-map texts_of collects.lists number [] [] (omega (arith, within, collects.count))

  own_shard : (number : ℕ) → number < 16
      → All (λ t. shard_of t ≡ 0 + number) (texts_of (get_or collects.lists number []))
  own_shard number within =
      let list = get_or collects.lists number [] in
      All-map (λ t. shard_of t ≡ 0 + number) (λ (r : TermRecord). r.text) list
      (All-weaker (IsTermOfShard (held number).lists) (λ r. shard_of r.text ≡ 0 + number)
      (λ r is.
      let any = has_posting stopped documents r.text in
      let both : (any && (shard_of r.text == number)) ≡ true =
      sym (is_some-shard_after stopped documents number r.text) ∙ ap is_some is.postings_are in
      let mine = second_passes any (shard_of r.text == number) both in
      grind (arith, nat_tests, mine))
      list (own_terms number within).each)

  texts_are : texts_of terms ≡ flat_map (λ list. list) lists_of_texts
  texts_are = ap texts_of collects.terms_are ∙ texts_of-flat collects.lists

  sixteen : length lists_of_texts ≡ 16
  sixteen = length-map collects.lists texts_of ∙ collects.count

  -- no two lists share a term, since each shard has its own
  texts-distinct : AreDistinct (texts_of terms)
  texts-distinct =
      subst AreDistinct (sym texts_are)
      (apart 0 lists_of_texts (λ number inside.
      let within : number < 16 = omega (arith, inside, sixteen) in
      let same = sym (own_texts number within) in (
        subst AreDistinct same (own_terms number within).distinct,
        subst (All (λ t. shard_of t ≡ 0 + number)) same (own_shard number within),
      ))).distinct

  -- and each term of a posting belongs to one of the shards
  texts-members : HaveSameTerms (texts_of terms) (map (λ p. p.term) all_postings)
  texts-members t =
      ap (λ ts. has_term ts t) texts_are
      ∙ HaveSameTerms-shards stopped documents lists_of_texts sixteen
      (λ number within q. ap (λ ts. has_term ts q) (own_texts number within)
      ∙ (own_terms number within).members q) t

  module _ (few : length (all_words stopped documents) < 2 ^ 64) where
    abbrev counts : Counts
    counts = (totals_of (all_words stopped documents)).1

    -- with its count a term is what the postings say of it
    term-counted : (number : ℕ) (r : TermRecord) → IsTermOfShard (held number).lists r
        → with_count counts r ≡ term_record (length documents) all_postings r.text
    term-counted number r is =
        let t = r.text in
        let found = same_found (has_posting stopped documents t && (shard_of t == number))
        r.postings (by_document (length documents) (postings_of t all_postings))
        (sym is.postings_are ∙ get-shard_after stopped documents number t) in
        let total : count_of counts t ≡ length (postings_of t all_postings) =
        count_in-few (all_words stopped documents) t few
        ∙ sym (length-postings_of stopped documents t) in
        cc

    terms-counted : All (λ r. with_count counts r
        ≡ term_record (length documents) all_postings r.text) terms
    terms-counted =
        let P = λ (r : TermRecord).
        with_count counts r ≡ term_record (length documents) all_postings r.text in
        subst (All P) (sym collects.terms_are) (All-flat P collects.lists (λ number inside.
        let within : number < 16 = omega (arith, inside, collects.count) in
        All-weaker (IsTermOfShard (held number).lists) P (term-counted number)
        (get_or collects.lists number []) (own_terms number within).each))

    terms-built : (sorted : List TermRecord)
        → IsPermutation (map (with_count counts) terms) sorted
        → (AreDistinct (texts_of (map (with_count counts) terms))
        → IsStrictlySortedBy text_order (texts_of sorted))
        → sorted ≡ map (term_record (length documents) all_postings) (terms_of all_postings)
    terms-built sorted moved rises =
        let all = map (with_count counts) terms in
        let texts = texts_of-with_count counts terms in
        let P = λ (r : TermRecord). r ≡ term_record (length documents) all_postings r.text in
        term_records-all (length documents) all_postings sorted
        (rises (subst AreDistinct (sym texts) texts-distinct))
        (λ t. sym (has_term-permutation all sorted t moved)
        ∙ ap (λ ts. has_term ts t) texts ∙ texts-members t)
        (All-permutation P all sorted moved (All-map P (with_count counts) terms terms-counted))

-- ---- the whole

-- an index of so many documents, with the numbers of these totals
abbrev pub index_with : ℕ → Totals → List TermRecord → IndexRecord
index_with documents totals terms = record {
  documents = documents;
  words = totals.0.0.0;
  longest = totals.0.1.0;
  terms = terms;
}

-- counted by the totals of all words and sorted, the terms of all shards make the index
pub built : (stopped documents : List (List ℕ)) → length documents ≤ 65536 → AreWithin documents
    → (terms sorted : List TermRecord)
    → CollectsTerms (all_shards stopped documents) 16 terms
    → IsPermutation (map (with_count (totals_of (all_words stopped documents)).1) terms) sorted
    → (AreDistinct
    (texts_of (map (with_count (totals_of (all_words stopped documents)).1) terms))
    → IsStrictlySortedBy text_order (texts_of sorted))
    → index_with (length documents) (totals_of (all_words stopped documents)) sorted
    ≡ index_without documents stopped
built stopped documents count within terms sorted collects moved rises =
    let words = all_words stopped documents in
    let few : length words < 2 ^ 64 =
    omega (
      arith,
      few_words stopped documents count within,
      ap length (flat_map-map (λ w. w) (counted_words stopped) documents),
    ) in
    let words_are : length words % (2 ^ 64) ≡ length (postings documents stopped) =
    omega (arith, few, length-postings stopped documents) in
    let longest_is = ap longest_of (terms-postings stopped documents) in
    let terms_are = terms-built stopped documents terms collects few sorted moved rises in
    cc

-- the same where the totals and the terms are told one after the other
pub built_from : (stopped documents : List (List ℕ)) (n : ℕ)
    → length documents ≡ n → n ≤ 65536 → AreWithin documents
    → (terms counted sorted : List TermRecord) (totals : Totals)
    → CollectsTerms (all_shards stopped documents) 16 terms
    → totals ≡ totals_of (all_words stopped documents)
    → counted ≡ map (with_count totals.1) terms → IsPermutation counted sorted
    → (AreDistinct (texts_of counted) → IsStrictlySortedBy text_order (texts_of sorted))
    → index_with n totals sorted ≡ index_without documents stopped
built_from stopped documents n is few within terms counted sorted totals collects totals_are
    counted_are moved rises =
    let counts = totals_of (all_words stopped documents) in
    let same : counted ≡ map (with_count counts.1) terms =
    counted_are ∙ ap (λ t. map (with_count t.1) terms) totals_are in
    ap₂ (λ m t. index_with m t sorted) (sym is) totals_are
    ∙ built stopped documents (omega (arith, is, few)) within terms sorted collects
    (subst (λ ts. IsPermutation ts sorted) same moved)
    (subst (λ ts. AreDistinct (texts_of ts) → IsStrictlySortedBy text_order (texts_of sorted))
    same rises)
