-- The terms of a shard as they are collected.
use Rattle.std.proofs.Common.{◌≡◌, ℕ, ◌+◌, ◌<◌, List, [], ◌∷◌, ◌++◌, length, get_or, take, map}
use Rattle.std.proofs.Common.{true, false, cond, Some, refl, sym, ap, ◌∙◌, subst, arith}
use Rattle.std.specs.Prelude.{◌||◌, is_some}
use Rattle.std.specs.FinMap as finite
use Rattle.std.specs.FinMap.{find}
use Rattle.std.specs.Map.{keys_of}
use Rattle.std.specs.Ordering.{eq_by_cmp}
use Rattle.std.proofs.lemmas.List.{take_more, get_or-map, length-map}
use Rattle.std.proofs.lemmas.List.Elements.{All-from_get_or}
use Rattle.std.proofs.lemmas.Map.Text.{is_eq-slice_cmp}
use Rattle.index_definitions.specs.Terms.{has_term}
use Rattle.index_definitions.specs.PostingLists.{PostingList}
use Rattle.index_definitions.specs.Index.{TermRecord}
use Rattle.index_definitions.specs.Indexes.{texts_of}
use Rattle.text_table.specs.TextTables.{AreDistinct}
use Rattle.text_table.specs.TextMaps.{text_order, map_of}
use Rattle.text_table.proofs.TextMapsLemmas.{text_order_total, get-at}
use Rattle.shard.specs.ShardTerms.{IsTermOfShard, HasTermsOfShard}

-- a term with its posting list
abbrev pub TermEntry : Type 0
TermEntry = List ℕ × PostingList

-- a term with its documents, of which nothing is counted
abbrev pub uncounted_term : TermEntry → TermRecord
uncounted_term entry = record { text = entry.0; total = 0; postings = entry.1 }

abbrev pub uncounted_terms : List TermEntry → List TermRecord
uncounted_terms entries = map uncounted_term entries

pub length-uncounted : (es : List TermEntry) → length (uncounted_terms es) ≡ length es
length-uncounted es = length-map es uncounted_term

-- one term more
pub uncounted_more : (es : List TermEntry) (n : ℕ) (d : TermEntry) → n < length es
    → take (n + 1) (uncounted_terms es)
    ≡ take n (uncounted_terms es) ++ uncounted_term (get_or es n d) ∷ []
uncounted_more es n d below =
    let all = uncounted_terms es in
    take_more all n (uncounted_term d) (omega (arith, length-uncounted es))
    ∙ ap (λ r. take n all ++ r ∷ []) (get_or-map uncounted_term es n d (uncounted_term d) below)

texts_of-uncounted : (es : List TermEntry) → texts_of (uncounted_terms es) ≡ keys_of es
texts_of-uncounted [] = refl
texts_of-uncounted (e ∷ es) = ap (λ ts. e.0 ∷ ts) (texts_of-uncounted es)

-- a term is found exactly where it is one of the terms
any-found : (q : List ℕ) (es : List TermEntry)
    → has_term (keys_of es) q ≡ is_some (find text_order q es)
any-found q [] = refl
any-found q (e ∷ es) =
    let others = find text_order q es in
    ap (λ b. b || has_term (keys_of es) q) (sym (is_eq-slice_cmp q e.0))
    ∙ elim (eq_by_cmp text_order q e.0) as (λ b.
    (b || has_term (keys_of es) q) ≡ is_some (cond b (Some e.1) others)) [
      | true ↦ refl
      | false ↦ any-found q es
    ]

pub HasTermsOfShard-all : (es : List TermEntry) → AreDistinct (keys_of es)
    → HasTermsOfShard (map_of es) (uncounted_terms es)
HasTermsOfShard-all es distinct =
    let all = uncounted_terms es in
    let texts = texts_of-uncounted es in
    let none : TermEntry = ([], []) in
    record {
      distinct = subst AreDistinct (sym texts) distinct;
      each = All-from_get_or (IsTermOfShard (map_of es)) all (uncounted_term none) (λ i within.
          let below : i < length es = omega (arith, length-uncounted es) in
          subst (IsTermOfShard (map_of es))
          (sym (get_or-map uncounted_term es i none (uncounted_term none) below))
          (record { postings_are = get-at es i none distinct below; uncounted = refl }));
      members = λ q.
          ap (λ us. has_term us q) texts
          ∙ any-found q es
          ∙ ap is_some (sym (finite.get-from_entries text_order_total es q));
    }
