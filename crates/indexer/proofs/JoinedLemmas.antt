-- What the totals of several documents come to together.
use Rattle.std.proofs.Common.{◌≡◌, ℕ, suc, ◌+◌, ◌<◌, ◌≤◌, List, [], ◌∷◌, ◌++◌, length}
use Rattle.std.proofs.Common.{Bool, true, false, cond, Option, Some, None, map, filter}
use Rattle.std.proofs.Common.{refl, sym, ap, ap₂, ◌∙◌, arith, append-nil, length-append}
use Rattle.std.specs.Prelude.{◌||◌, ◌%◌, ◌^◌}
use Rattle.std.specs.FinMap as finite
use Rattle.std.specs.FinMap.{find}
use Rattle.std.specs.List.{list_any}
use Rattle.std.specs.Option.{unwrap_or}
use Rattle.std.specs.Str.{bytes_eq}
use Rattle.std.proofs.lemmas.List.{map-append}
use Rattle.std.proofs.lemmas.List.Elements.{filter-append}
use Rattle.std.proofs.lemmas.List.Folds.{list_any-append}
use Rattle.class_laws.specs.Counts.{text_order, count_of, counts_join}
use Rattle.class_laws.specs.Laws.Counts.{text_order_total, same_counts}
use Rattle.class_laws.specs.Laws.Counts.{count_after_join, get-counts_join}
use Rattle.class_laws.specs.Numbers.{wrap_sum, maximum}
use Rattle.class_laws.specs.Pairs.{both_of}
use Rattle.index_definitions.specs.Words.{Word, word_terms, positions_of}
use Rattle.index_definitions.specs.Terms.{longest_of}
use Rattle.indexer.specs.Totals.{no_totals, totals_join, counts_in, totals_of}
use Rattle.index_definitions.proofs.TermsLemmas.{longest_of-append}
use Rattle.shard.proofs.FindLemmas.{find_keyed}
use Rattle.indexer.proofs.TotalsLemmas.{size_in}

-- ---- the count of a term

-- a word has this term
abbrev has_word : List ℕ → List Word → Bool
has_word q ws = list_any (λ w. bytes_eq q w.1) ws

-- the count of a term, none where no word has it
abbrev counted : Bool → ℕ → Option ℕ
counted any size = cond any (Some (size % (2 ^ 64))) None

pub get-counts_in :
    (ws : List Word) (q : List ℕ)
    → finite.get (counts_in ws) q ≡ counted (has_word q ws) (size_in ws q)
get-counts_in ws q =
    let by_words = map (λ (w : Word). (w.1, size_in ws w.1 % (2 ^ 64))) ws in
    finite.get-from_entries text_order_total by_words q
    ∙ ap (find text_order q) (sym (append-nil by_words))
    ∙ find_keyed (λ (w : Word). w.1) (λ t. size_in ws t % (2 ^ 64)) q ws []

none_pass :
    {A B : Type 0} (f : A → B) (p : A → Bool) (xs : List A)
    → list_any p xs ≡ false → length (map f (filter p xs)) ≡ 0
none_pass f p [] none = refl
none_pass f p (x ∷ xs) none =
    elim (p x) as (λ b. (b || list_any p xs) ≡ false
    → length (map f (cond b (x ∷ filter p xs) (filter p xs))) ≡ 0) [
      | true ↦ λ some. cc
      | false ↦ λ rest. none_pass f p xs rest
    ] none

-- a term of no word has no positions
size-none : (ws : List Word) (q : List ℕ) → has_word q ws ≡ false → size_in ws q ≡ 0
size-none ws q none = none_pass (λ (w : Word). w.0) (λ (w : Word). bytes_eq q w.1) ws none

size-append :
    (a b : List Word) (q : List ℕ) → size_in (a ++ b) q ≡ size_in a q + size_in b q
size-append a b q =
    let is = λ (w : Word). bytes_eq q w.1 in
    let position = λ (w : Word). w.0 in
    ap (λ ws. length (map position ws)) (filter-append is a b)
    ∙ ap length (map-append position (filter is a) (filter is b))
    ∙ length-append (map position (filter is a)) (map position (filter is b))

counted-join :
    (x y : Bool) (m n : ℕ) → (x ≡ false → m ≡ 0) → (y ≡ false → n ≡ 0)
    → count_after_join (counted x m) (counted y n) ≡ counted (x || y) (m + n)
counted-join false false m n no_first no_second = refl
counted-join false true m n no_first no_second =
    let first = no_first refl in ap Some (omega arith)
counted-join true false m n no_first no_second =
    let second = no_second refl in ap Some (omega arith)
counted-join true true m n no_first no_second = ap Some (omega arith)

counts_in-append :
    (a b : List Word) → counts_join (counts_in a) (counts_in b) ≡ counts_in (a ++ b)
counts_in-append a b = same_counts _ _ (λ q.
    let is = λ (w : Word). bytes_eq q w.1 in
    get-counts_join (counts_in a) (counts_in b) q
    ∙ ap₂ count_after_join (get-counts_in a q) (get-counts_in b q)
    ∙ counted-join (has_word q a) (has_word q b) (size_in a q) (size_in b q)
    (size-none a q) (size-none b q)
    ∙ ap₂ counted (sym (list_any-append is a b)) (sym (size-append a b q))
    ∙ sym (get-counts_in (a ++ b) q))

-- ---- totals

both-equal : {A B : Type 0} {a c : A} {b d : B} → a ≡ c → b ≡ d → both_of a b ≡ both_of c d
both-equal p q = cc

-- the totals of words are those of their parts together
pub totals_of-append :
    (a b : List Word) → totals_join (totals_of a) (totals_of b) ≡ totals_of (a ++ b)
totals_of-append a b =
    let more = length-append a b in
    both-equal
    (both-equal (ap wrap_sum (omega arith))
    (ap maximum (longest_of-append (word_terms a) (word_terms b)
    ∙ ap longest_of (sym (map-append (λ (w : Word). w.1) a b)))))
    (counts_in-append a b)

-- no words come to nothing
pub totals_of-none : totals_of [] ≡ no_totals
totals_of-none =
    both-equal (both-equal (ap wrap_sum (omega arith)) refl) (same_counts _ _ (λ q.
    get-counts_in [] q ∙ sym (finite.get-empty text_order q)))

-- to join nothing to totals changes nothing
pub totals_of-nothing_more : (a : List Word) → totals_join (totals_of a) no_totals ≡ totals_of a
totals_of-nothing_more a =
    ap (totals_join (totals_of a)) (sym totals_of-none)
    ∙ totals_of-append a []
    ∙ ap totals_of (append-nil a)

-- nor does to join totals to nothing
pub totals_of-nothing_before : (a : List Word) → totals_join no_totals (totals_of a) ≡ totals_of a
totals_of-nothing_before a =
    ap (λ n. totals_join n (totals_of a)) (sym totals_of-none) ∙ totals_of-append [] a

-- ---- the counts of totals

count_of-counted :
    (any : Bool) (size : ℕ) → (any ≡ false → size ≡ 0)
    → unwrap_or (counted any size) 0 ≡ size % (2 ^ 64)
count_of-counted true size none = refl
count_of-counted false size none = let is = none refl in omega arith

-- a term's count is the number of its words, modulo 2^64
pub count_in-totals :
    (a : List Word) (t : List ℕ)
    → count_of (totals_of a).1 t ≡ length (positions_of t a) % (2 ^ 64)
count_in-totals a t =
    ap (λ x. unwrap_or x 0) (get-counts_in a t)
    ∙ count_of-counted (has_word t a) (size_in a t) (size-none a t)

few_pass :
    {A B : Type 0} (f : A → B) (p : A → Bool) (xs : List A)
    → length (map f (filter p xs)) ≤ length xs
few_pass f p [] = omega arith
few_pass f p (x ∷ xs) =
    let rest = few_pass f p xs in
    elim (p x) as (λ b. length (map f (cond b (x ∷ filter p xs) (filter p xs)))
    ≤ suc (length xs)) [
      | true ↦ omega arith
      | false ↦ omega arith
    ]

-- of fewer than 2^64 words it is that number
pub count_in-few :
    (a : List Word) (t : List ℕ) → length a < 2 ^ 64
    → count_of (totals_of a).1 t ≡ length (positions_of t a)
count_in-few a t few =
    let less = few_pass (λ (w : Word). w.0) (λ (w : Word). bytes_eq t w.1) a in
    let small : size_in a t % (2 ^ 64) ≡ size_in a t = omega arith in
    count_in-totals a t ∙ small
