-- None of the calls of `build` is refused.
use Rattle.std.proofs.Common.{◌≡◌, ℕ, zero, suc, ◌+◌, ◌*◌, ◌^◌, ◌<◌, ◌≤◌, inr, List, [], ◌∷◌, ◌++◌}
use Rattle.std.proofs.Common.{length, map, get_or, refl, sym, ap, ap₂, ◌∙◌, subst, arith}
use Rattle.std.proofs.Common.{length-append}
use Rattle.std.specs.List.{All, AllByRecursion, flat_map, range_with_len}
use Rattle.std.proofs.lemmas.List.{length-map, map-append}
use Rattle.std.proofs.lemmas.List.Concat.{length-flat_map}
use Rattle.std.proofs.lemmas.List.FromFn.{length-range_with_len, length-map-range_with_len}
use Rattle.std.proofs.lemmas.List.Sums.{sum_by-le}
use Rattle.execution_definitions.specs.declared.serializer.By.TheVariants.{Object, Sequence}
use Rattle.execution_definitions.specs.Shapes.{Shape, make_fixed, begin, end}
use Rattle.execution_definitions.specs.Soundness.{IsSound}
use Rattle.execution_definitions.specs.declared.call.Call.TheVariants as call
use Rattle.execution_definitions.proofs.shapes.SoundnessLemmas.{IsSound-push}
use Rattle.indexer.specs.BuildCalls.{ItemCall, shard_numbers, make_document, make_shard}
use Rattle.indexer.specs.BuildCalls.{make_calls, split_call, split_calls, gather_call}
use Rattle.indexer.specs.BuildCalls.{gather_document_calls, gather_calls, get_call, get_calls}
use Rattle.indexer.specs.BuildCalls.{BuildIsSound}
use Rattle.indexer.proofs.PartsLemmas.{shape}
use Rattle.indexer.proofs.RangeLemmas.{length-shard_numbers}
use Rattle.execution_definitions.proofs.shapes.PreparedLemmas.{IsPrepared, IsApart, prepared-made, prepared-looked}
use Rattle.execution_definitions.proofs.shapes.PreparedLemmas.{prepared-total, prepared-epoch, each-kept}

-- ---- what holds of each item

all-map : {A B : Type 0} (P : B → Type 0) (f : A → B) (xs : List A)
    → AllByRecursion (λ x. P (f x)) xs → AllByRecursion P (map f xs)
all-map P f [] all = tt
all-map P f (x ∷ xs) all = (all.0, all-map P f xs all.1)

all-append : {A : Type 0} (P : A → Type 0) (xs ys : List A)
    → AllByRecursion P xs → AllByRecursion P ys → AllByRecursion P (xs ++ ys)
all-append P [] ys first second = second
all-append P (x ∷ xs) ys first second = (first.0, all-append P xs ys first.1 second)

all-flat : {A B : Type 0} (P : B → Type 0) (f : A → List B) (xs : List A)
    → AllByRecursion (λ x. AllByRecursion P (f x)) xs → AllByRecursion P (flat_map f xs)
all-flat P f [] all = tt
all-flat P f (x ∷ xs) all = all-append P (f x) (flat_map f xs) all.0 (all-flat P f xs all.1)

all-range : (P : ℕ → Type 0) (a n : ℕ)
    → ((k : ℕ) → a ≤ k → k < a + n → P k) → AllByRecursion P (range_with_len a n)
all-range P a zero each = tt
all-range P a (suc n) each = (
  each a (omega arith) (omega arith),
  all-range P (a + 1) n (λ k from to. each k (omega arith) (omega arith)),
)

all-any : {A : Type 0} (P : A → Type 0) (xs : List A) → ((x : A) → P x) → AllByRecursion P xs
all-any P [] each = tt
all-any P (x ∷ xs) each = (each x, all-any P xs each)

all-numbers : (P : ℕ → Type 0) → ((k : ℕ) → k < 16 → P k) → AllByRecursion P shard_numbers
unfolding shard_numbers
all-numbers P each = all-range P 0 16 (λ k from to. each k (omega arith))

-- ---- the calls as shapes

abbrev shapes : List ItemCall → List Shape
shapes calls = map shape calls

-- a list in five parts
shapes-parts : (a b c d e : List ItemCall)
    → shapes (a ++ b ++ c ++ d ++ e) ≡ shapes a ++ shapes b ++ shapes c ++ shapes d ++ shapes e
shapes-parts a b c d e =
    map-append shape (a ++ b ++ c ++ d) e
    ∙ ap (λ front. front ++ shapes e) (map-append shape (a ++ b ++ c) d
    ∙ ap (λ front. front ++ shapes d) (map-append shape (a ++ b) c
    ∙ ap (λ front. front ++ shapes c) (map-append shape a b)))

-- the calls of an epoch
shapes-epoch : (more : List ItemCall)
    → shapes (call.Begin ∷ more ++ call.End ∷ []) ≡ begin ∷ shapes more ++ end ∷ []
shapes-epoch more = ap (λ rest. begin ∷ rest) (map-append shape more (call.End ∷ []))

-- ---- the parts

-- the first call
prepared-first : IsPrepared 1 (make_fixed ∷ []) 1
prepared-first = record {
  sound = IsSound-push [] make_fixed refl refl;
  closed = refl;
  count = refl;
  few = omega arith;
  writable = λ o some below. absurd (omega arith);
}

module _ (documents stopped : List (List ℕ)) (few : length documents ≤ 65536) where
  abbrev n : ℕ
  n = length documents

  made : IsPrepared (17 + n) (shapes (make_calls documents stopped)) (17 + n)
  made =
      let P = λ (list : List Shape) (k : ℕ). IsPrepared k list k in
      let more = map make_document documents ++ map make_shard shard_numbers in
      let long : length (shapes more) ≡ n + 16 =
      length-map more shape
      ∙ length-append (map make_document documents) (map make_shard shard_numbers)
      ∙ ap₂ (λ j k. j + k) (length-map documents make_document)
      (length-map shard_numbers make_shard ∙ length-shard_numbers) in
      let same : 1 + length (shapes more) ≡ 17 + n = omega arith in
      subst (P (make_fixed ∷ shapes more)) same
      (each-kept P 1048576 (shapes more) (make_fixed ∷ []) 1
      (all-map _ shape more (all-append _ (map make_document documents)
      (map make_shard shard_numbers)
      (all-map _ make_document documents (all-any _ documents (λ document list k below is.
      prepared-made k k list (omega arith) Object below is)))
      (all-map _ make_shard shard_numbers (all-any _ shard_numbers (λ number list k below is.
      prepared-made k k list (omega arith) Sequence below is)))))
      (omega arith) prepared-first)

  -- a delegation of the first epoch, and one of the second
  split-apart : (place : ℕ) → place < n → IsApart 1 (1 + n) 0 1 (shape (split_call place))
  split-apart place within = record {
    object = 1 + place;
    read = 0;
    is = refl;
    from = omega arith;
    to = omega arith;
    from_read = omega arith;
    to_read = omega arith;
  }

  gather-apart : (place number : ℕ) → place < n → number < 16
      → IsApart (1 + n) (17 + n) 1 (1 + n) (shape (gather_call n place number))
  gather-apart place number within below = record {
    object = 1 + n + number;
    read = 1 + place;
    is = refl;
    from = omega arith;
    to = omega arith;
    from_read = omega arith;
    to_read = omega arith;
  }

  splits : (calls : List Shape) (most : ℕ) → most ≤ 65553 → IsPrepared (17 + n) calls most
      → IsPrepared (17 + n) (calls ++ shapes (split_calls n)) (most + n + 2)
  splits calls most small is =
      let more = map split_call (range_with_len 0 n) in
      let long : length (shapes more) ≡ n =
      length-map more shape ∙ length-map-range_with_len split_call 0 n in
      let same : most + length (shapes more) + 2 ≡ most + n + 2 = omega arith in
      subst (λ rest. IsPrepared (17 + n) (calls ++ rest) (most + n + 2)) (sym (shapes-epoch more))
      (subst (IsPrepared (17 + n) (calls ++ (begin ∷ shapes more ++ end ∷ []))) same
      (prepared-epoch (17 + n) 1 (1 + n) 0 1 (omega arith) (omega arith) (omega arith)
      (inr (omega arith)) calls (shapes more) most (omega arith)
      (all-map _ shape more (all-map _ split_call (range_with_len 0 n)
      (all-range _ 0 n (λ place from to. split-apart place (omega arith))))) is))

  -- how many calls gather
  few_gathers : length (shapes (flat_map (gather_document_calls n) (range_with_len 0 n))) ≤ 16 * n
  few_gathers =
      let more = flat_map (gather_document_calls n) (range_with_len 0 n) in
      let each : All (λ place. length (gather_document_calls n place) ≤ 16) (range_with_len 0 n) =
      λ i d within. omega (
        arith,
        length-shard_numbers,
        length-map shard_numbers (gather_call n (get_or (range_with_len 0 n) i d)),
      ) in
      omega (
        arith,
        length-map more shape,
        length-flat_map (gather_document_calls n) (range_with_len 0 n),
        sum_by-le (λ place. length (gather_document_calls n place)) 16 (range_with_len 0 n) each,
        length-range_with_len 0 n,
      )

  gathers : (calls : List Shape) (most : ℕ) → most ≤ 131091 → IsPrepared (17 + n) calls most
      → IsPrepared (17 + n) (calls ++ shapes (gather_calls n))
      (most + length (shapes (flat_map (gather_document_calls n) (range_with_len 0 n))) + 2)
  gathers calls most small is =
      let more = flat_map (gather_document_calls n) (range_with_len 0 n) in
      let long = few_gathers in
      subst (λ rest. IsPrepared (17 + n) (calls ++ rest) (most + length (shapes more) + 2))
      (sym (shapes-epoch more))
      (prepared-epoch (17 + n) (1 + n) (17 + n) 1 (1 + n) (omega arith) (omega arith) (omega arith)
      (inr (omega arith)) calls (shapes more) most (omega arith)
      (all-map _ shape more (all-flat _ (gather_document_calls n) (range_with_len 0 n)
      (all-range _ 0 n (λ place from to.
      all-map _ (gather_call n place) shard_numbers (all-numbers _ (λ number below.
      gather-apart place number (omega arith) below)))))) is)

  looks : (calls : List Shape) (most : ℕ) → most ≤ 2097152 → IsPrepared (17 + n) calls most
      → IsPrepared (17 + n) (calls ++ shapes (get_calls n)) (most + length (shapes (get_calls n)))
  looks calls most small is =
      let long : length (shapes (get_calls n)) ≡ 16 =
      length-map (get_calls n) shape ∙ length-map shard_numbers (get_call n) ∙ length-shard_numbers in
      each-kept (IsPrepared (17 + n)) (2 ^ 60) (shapes (get_calls n)) calls most
      (all-map _ shape (get_calls n) (all-map _ (get_call n) shard_numbers
      (all-numbers _ (λ number inside list k below now.
      prepared-looked (17 + n) k list below (1 + n + number) (omega arith) now))))
      (omega arith) is

pub build_sound : BuildIsSound
build_sound documents stopped few =
    let count = length documents in
    let M = shapes (make_calls documents stopped) in
    let S = shapes (split_calls count) in
    let G = shapes (gather_calls count) in
    let L = shapes (get_calls count) in
    let divided = splits documents stopped few M (17 + count) (omega arith)
    (made documents stopped few) in
    let long = few_gathers documents stopped few in
    let gathered = gathers documents stopped few (M ++ S) _ (omega arith) divided in
    let looked = looks documents stopped few ((M ++ S) ++ G) _ (omega arith) gathered in
    let short : length L ≡ 16 =
    length-map (get_calls count) shape ∙ length-map shard_numbers (get_call count)
    ∙ length-shard_numbers in
    subst IsSound (sym (shapes-parts (make_calls documents stopped) (split_calls count)
    (gather_calls count) (get_calls count) (call.Total ∷ [])))
    (prepared-total (17 + count) _ (((M ++ S) ++ G) ++ L) (omega arith) looked)
