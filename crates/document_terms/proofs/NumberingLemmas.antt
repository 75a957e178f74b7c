-- The numbers of words, one word more.
use Rattle.std.proofs.Common.{◌≡◌, ℕ, suc, ◌+◌, ◌-◌, ◌<◌, ◌≤◌, List, [], ◌∷◌, ◌++◌, length}
use Rattle.std.proofs.Common.{Bool, true, false, cond, not, map, take, get_or, Some, None, refl}
use Rattle.std.proofs.Common.{sym}
use Rattle.std.proofs.Common.{ap, ap₂, ◌∙◌, arith, filter, append-nil, subst}
use Rattle.std.specs.Prelude.{◌||◌, nat_lt}
use Rattle.std.specs.List.{enumerate_from, All, slice_get}
use Rattle.std.specs.Str.{bytes_eq}
use Rattle.std.proofs.lemmas.Grind.{common_steps}
use Rattle.std.specs.Prelude.{MatchBool}
use Rattle.std.proofs.Common.{length-append}
use Rattle.std.proofs.lemmas.List.{map-append, get_or_append_left, length_push}
use Rattle.std.proofs.lemmas.List.Elements.{filter-append, All-push}
use Rattle.std.proofs.lemmas.List.Folds.{list_any-append, list_any_at}
use Rattle.std.proofs.lemmas.Option.{get_or_from_slice_get, slice_get_within}
use Rattle.index_definitions.proofs.NumberedLemmas.{enumerate_from-push, TakesOne}
use Rattle.index_definitions.proofs.NumberedLemmas.{enumerate_from-takes_one}
use Rattle.text_table.specs.TextTables.{number_of, with_text}
use Rattle.text_table.proofs.TextTablesLemmas.{slice_get-number, with_text-known, with_text-new}
use Rattle.index_definitions.specs.Words.{Word, word_terms}
use Rattle.index_definitions.specs.Terms.{has_term, HaveSameTerms}
use Rattle.document_terms.specs.kept.Numbers.{word_at, words_from}

-- a word that is counted
abbrev pub is_counted : ℕ × ℕ → Bool
is_counted e = nat_lt 0 e.1

-- one number more
pub words_from-push :
    (ts : List (List ℕ)) (ns : List ℕ) (n : ℕ)
    → words_from ts (ns ++ n ∷ [])
    ≡ words_from ts ns
    ++ map (word_at ts) (cond (nat_lt 0 n) ((1 + length ns, n) ∷ []) [])
words_from-push ts ns n =
    ap (λ es. map (word_at ts) (filter is_counted es)) (enumerate_from-push 1 ns n)
    ∙ ap (map (word_at ts))
    (filter-append is_counted (enumerate_from 1 ns) ((1 + length ns, n) ∷ []))
    ∙ map-append (word_at ts) (filter is_counted (enumerate_from 1 ns))
    (cond (nat_lt 0 n) ((1 + length ns, n) ∷ []) [])

pub words_from-stopped :
    (ts : List (List ℕ)) (ns : List ℕ) → words_from ts (ns ++ 0 ∷ []) ≡ words_from ts ns
words_from-stopped ts ns = words_from-push ts ns 0 ∙ append-nil (words_from ts ns)

pub words_from-counted :
    (ts : List (List ℕ)) (ns : List ℕ) (n : ℕ) → 0 < n
    → words_from ts (ns ++ n ∷ [])
    ≡ words_from ts ns ++ (1 + length ns, get_or ts (n - 1) []) ∷ []
words_from-counted ts ns n some =
    let yes : nat_lt 0 n ≡ true = grind (arith, common_steps) in
    words_from-push ts ns n
    ∙ ap (λ b. words_from ts ns ++ map (word_at ts) (cond b ((1 + length ns, n) ∷ []) [])) yes

-- ---- one term more changes no word

map-same :
    {A B : Type 0} (f g : A → B) (xs : List A) → All (λ x. f x ≡ g x) xs → map f xs ≡ map g xs
map-same f g [] same = refl
map-same f g (x ∷ xs) same =
    ap₂ (λ y ys. y ∷ ys) (same 0 x (omega arith))
    (map-same f g xs (λ i d within. same (suc i) d (omega arith)))

-- from number m on
words_more :
    (ts us : List (List ℕ)) (m : ℕ) (ns : List ℕ)
    → All (λ n. n ≤ length ts) ns
    → map (word_at (ts ++ us)) (filter is_counted (enumerate_from m ns))
    ≡ map (word_at ts) (filter is_counted (enumerate_from m ns))
words_more ts us m [] within = refl
words_more ts us m (n ∷ ns) within =
    let rest = words_more ts us (m + 1) ns (λ i d below. within (suc i) d (omega arith)) in
    elim (nat_lt 0 n) as (λ b. nat_lt 0 n ≡ b
    → map (word_at (ts ++ us)) (cond b ((m, n) ∷ filter is_counted (enumerate_from (m + 1) ns))
    (filter is_counted (enumerate_from (m + 1) ns)))
    ≡ map (word_at ts) (cond b ((m, n) ∷ filter is_counted (enumerate_from (m + 1) ns))
    (filter is_counted (enumerate_from (m + 1) ns)))) [
      | true ↦ λ yes.
          let some : 0 < n = grind (arith, common_steps) in
          let most : n ≤ length ts = within 0 n (omega arith) in
          ap₂ (λ t ws. (m, t) ∷ ws) (get_or_append_left ts us [] (n - 1) (omega arith)) rest
      | false ↦ λ no. rest
    ] refl

pub words_from-more :
    (ts us : List (List ℕ)) (ns : List ℕ)
    → All (λ n. n ≤ length ts) ns → words_from (ts ++ us) ns ≡ words_from ts ns
words_from-more ts us ns within = words_more ts us 1 ns within

-- ---- the terms and the numbers of the words so far

pub record Numbers (stopped ts all : List (List ℕ)) (ns : List ℕ) : Type 0 where
  pub words : words_from ts ns
      ≡ filter (λ word. not (has_term stopped word.1)) (enumerate_from 1 (take (length ns) all))
  pub members : HaveSameTerms ts (word_terms (words_from ts ns))
  pub within : All (λ n. n ≤ length ts) ns
  pub counted : All (λ t. has_term stopped t ≡ false) ts
  pub few : length ts ≤ length ns

-- the number of one word more: 0 if its term is stopped, else 1 more than the term's place
abbrev pub NumbersWord : List (List ℕ) → List (List ℕ) → List ℕ → List (List ℕ) → ℕ → Type 0
NumbersWord stopped ts term us n =
    MatchBool (has_term stopped term) ((n ≡ 0) × (us ≡ ts))
    ((0 < n) × (slice_get us (n - 1) ≡ Some term) × (us ≡ with_text ts term))

either_false : (b : Bool) → (b || false) ≡ b
either_false true = refl
either_false false = refl

absorbed : (a b : Bool) → (b ≡ true → a ≡ true) → a ≡ (a || b)
absorbed true b is = refl
absorbed false true is = is refl
absorbed false false is = refl

module _ (stopped ts all : List (List ℕ)) (ns : List ℕ) (term : List ℕ) (left : List (List ℕ))
    (before : Numbers stopped ts all ns) (one : TakesOne all (length ns) term left) where
  all_words :
      filter (λ word. not (has_term stopped word.1)) (enumerate_from 1 (take (length ns + 1) all))
      ≡ words_from ts ns
      ++ cond (not (has_term stopped term)) ((length ns + 1, term) ∷ []) []
  all_words =
      ap (filter (λ word. not (has_term stopped word.1)))
      (enumerate_from-takes_one all (length ns) term left one)
      ∙ filter-append (λ word. not (has_term stopped word.1))
      (enumerate_from 1 (take (length ns) all)) ((length ns + 1, term) ∷ [])
      ∙ ap (λ ws. ws ++ cond (not (has_term stopped term)) ((length ns + 1, term) ∷ []) [])
      (sym before.words)

  stopped_word : has_term stopped term ≡ true → Numbers stopped ts all (ns ++ 0 ∷ [])
  stopped_word is = record {
    words = words_from-stopped ts ns
        ∙ sym (append-nil (words_from ts ns))
        ∙ sym (ap (λ k. filter (λ word. not (has_term stopped word.1))
        (enumerate_from 1 (take k all)))
        (length_push ns 0)
        ∙ all_words
        ∙ ap (λ b. words_from ts ns ++ cond (not b) ((length ns + 1, term) ∷ []) []) is);
    members = λ q.
        before.members q ∙ ap (λ ws. has_term (word_terms ws) q) (sym (words_from-stopped ts ns));
    within = All-push (λ n. n ≤ length ts) ns 0 before.within (omega arith);
    counted = before.counted;
    few = omega (arith, before.few, length_push ns 0);
  }

  counted_word : (us ws : List (List ℕ)) (n : ℕ) → has_term stopped term ≡ false
      → 0 < n → slice_get us (n - 1) ≡ Some term → us ≡ ts ++ ws → length ws ≤ 1
      → All (λ t. has_term stopped t ≡ false) us
      → ((q : List ℕ) → has_term us q ≡ (has_term ts q || bytes_eq q term))
      → Numbers stopped us all (ns ++ n ∷ [])
  counted_word us ws n is some at more few counted members =
      let here : n - 1 < length us = slice_get_within us (n - 1) term at in
      let longer : length us ≡ length ts + length ws = ap length more ∙ length-append ts ws in
      let old : words_from us ns ≡ words_from ts ns =
      ap (λ xs. words_from xs ns) more ∙ words_from-more ts ws ns before.within in
      let new : words_from us (ns ++ n ∷ []) ≡ words_from ts ns ++ (length ns + 1, term) ∷ [] =
      words_from-counted us ns n some
      ∙ ap₂ (λ vs t. vs ++ (1 + length ns, t) ∷ []) old
      (get_or_from_slice_get us (n - 1) term [] at)
      ∙ ap (λ k. words_from ts ns ++ (k, term) ∷ []) (omega arith) in
      record {
        words = new
            ∙ sym (ap (λ k. filter (λ word. not (has_term stopped word.1))
            (enumerate_from 1 (take k all))) (length_push ns n)
            ∙ all_words
            ∙ ap (λ b. words_from ts ns ++ cond (not b) ((length ns + 1, term) ∷ []) []) is);
        members = λ q.
            members q
            ∙ ap₂ (λ a b. a || b) (before.members q) (sym (either_false (bytes_eq q term)))
            ∙ sym (list_any-append (bytes_eq q) (word_terms (words_from ts ns)) (term ∷ []))
            ∙ ap (λ us. has_term us q) (sym (map-append (λ (word : Word). word.1)
            (words_from ts ns) ((length ns + 1, term) ∷ [])))
            ∙ ap (λ ws. has_term (word_terms ws) q) (sym new);
        within = All-push (λ m. m ≤ length us) ns n
            (λ i d below. let old = before.within i d below in omega (arith, old, longer))
            (omega (arith, here));
        counted = counted;
        few = omega (arith, before.few, length_push ns n, longer, few);
      }

  pub Numbers-more : (us : List (List ℕ)) (n : ℕ) → NumbersWord stopped ts term us n
      → Numbers stopped us all (ns ++ n ∷ [])
  Numbers-more us n numbers =
      elim (has_term stopped term) as (λ b. has_term stopped term ≡ b
      → MatchBool b ((n ≡ 0) × (us ≡ ts))
      ((0 < n) × (slice_get us (n - 1) ≡ Some term) × (us ≡ with_text ts term))
      → Numbers stopped us all (ns ++ n ∷ [])) [
        | true ↦ λ is w.
            subst (λ m. Numbers stopped us all (ns ++ m ∷ [])) (sym w.0)
            (subst (λ xs. Numbers stopped xs all (ns ++ 0 ∷ [])) (sym w.1) (stopped_word is))
        | false ↦ λ is w.
            elim (number_of ts term) as (λ o. number_of ts term ≡ o
            → Numbers stopped us all (ns ++ n ∷ [])) [
              | None ↦ λ none.
                  let new = w.2 ∙ with_text-new ts term none in
                  counted_word us (term ∷ []) n is w.0 w.1 new (omega arith)
                  (subst (All (λ t. has_term stopped t ≡ false)) (sym new)
                  (All-push (λ t. has_term stopped t ≡ false) ts term before.counted is))
                  (λ q. ap (λ xs. has_term xs q) new
                  ∙ list_any-append (bytes_eq q) ts (term ∷ [])
                  ∙ ap (λ b. has_term ts q || b) (either_false (bytes_eq q term)))
              | Some k ↦ λ known.
                  let same = w.2 ∙ with_text-known ts term k known in
                  let at = slice_get-number ts term k known in
                  counted_word us [] n is w.0 w.1 (same ∙ sym (append-nil ts)) (omega arith)
                  (subst (All (λ t. has_term stopped t ≡ false)) (sym same) before.counted)
                  (λ q. ap (λ xs. has_term xs q) same
                  ∙ absorbed (has_term ts q) (bytes_eq q term) (λ equal.
                  list_any_at (bytes_eq q) ts k term (slice_get_within ts k term at)
                  (ap (bytes_eq q) (get_or_from_slice_get ts k term term at) ∙ equal)))
            ] refl
      ] refl numbers
