-- The calls that count bases: none is refused, and what they contribute is the count of the whole text.
use Rattle.std.proofs.Common.{◌≡◌, ℕ, zero, suc, ◌+◌, ◌%◌, ◌^◌, ◌<◌, ◌≤◌, List, [], ◌∷◌, ◌++◌, length}
use Rattle.std.proofs.Common.{map, refl}
use Rattle.std.proofs.Common.{sym, ap, ap₂, ◌∙◌, subst, arith, append-nil, append_assoc, length-append}
use Rattle.std.specs.Prelude.{fold}
use Rattle.std.specs.List.{AllByRecursion, flat_map, range_with_len}
use Rattle.std.proofs.lemmas.List.{length-map, map-append}
use Rattle.std.proofs.lemmas.List.FromFn.{length-map-range_with_len}
use Rattle.std.proofs.lemmas.List.Sums.{fold-append, sum_by-append}
use Rattle.class_laws.specs.Numbers.{wrap_sum}
use Rattle.class_laws.specs.Pairs.{both_of}
use Rattle.execution_definitions.specs.declared.call.Call.TheVariants as call
use Rattle.execution_definitions.specs.declared.serializer.By.TheVariants.{Object}
use Rattle.execution_definitions.specs.Meanings.{shape_of, shapes_of}
use Rattle.execution_definitions.specs.Sequential.{state_after, sequential_state}
use Rattle.execution_definitions.specs.Soundness.{IsSound}
use Rattle.execution_definitions.proofs.shapes.PreparedLemmas.{IsApart}
use Rattle.examples.specs.declared.bases.Spelling.{Spelling}
use Rattle.examples.specs.declared.bases.Part.{Part}
use Rattle.examples.specs.declared.bases.Part.TheVariants as part
use Rattle.examples.specs.Histograms.{count_of, tally_in, no_tally, tally_join, part_meaning}
use Rattle.examples.specs.HistogramCalls.{make_block, count_call, count_calls, histogram_calls}
use Rattle.examples.proofs.RangeLemmas.{all-map, all-any, value_at, put_at, state_of, left-made}
use Rattle.examples.proofs.EpochLemmas.{IsMake, one_epoch-sound}

-- ---- none is refused

counts-apart : (n place count : ℕ) → place + count ≤ n
    → AllByRecursion (IsApart 1 (1 + n) 0 1)
    (map (shape_of part_meaning.own) (map count_call (range_with_len place count)))
counts-apart n place zero within = tt
counts-apart n place (suc count) within = (
  record {
    object = 1 + place;
    read = 0;
    is = refl;
    from = omega arith;
    to = omega arith;
    from_read = omega arith;
    to_read = omega arith;
  },
  counts-apart n (place + 1) count (omega arith),
)

pub histogram-sound : (spelling : Spelling) (blocks : List (List ℕ)) → length blocks < 1048576
    → IsSound (shapes_of part_meaning (histogram_calls spelling blocks))
histogram-sound spelling blocks few =
    let n = length blocks in
    let shape = shape_of part_meaning.own in
    let made = map shape (map make_block blocks) in
    let more = map shape (count_calls n) in
    let long : length made ≡ n = length-map (map make_block blocks) shape ∙ length-map blocks make_block in
    let short : length more ≡ n =
    length-map (count_calls n) shape ∙ length-map-range_with_len count_call 0 n in
    let parts : shapes_of part_meaning (histogram_calls spelling blocks)
    ≡ shape (call.MakeFixed (part.Spelling spelling)) ∷ made
    ++ (shape call.Begin ∷ more ++ shape call.End ∷ []) =
    ap (λ rest. shape (call.MakeFixed (part.Spelling spelling)) ∷ rest)
    (map-append shape (map make_block blocks) (call.Begin ∷ count_calls n ++ call.End ∷ [])
    ∙ ap (λ rest. made ++ (shape call.Begin ∷ rest)) (map-append shape (count_calls n) (call.End ∷ []))) in
    subst IsSound (sym parts)
    (one_epoch-sound n made more long few (omega (arith, short, few))
    (all-map IsMake shape (map make_block blocks) (all-map _ make_block blocks
    (all-any _ blocks (λ block. record { by = Object; is = refl }))))
    (counts-apart n 0 n (omega arith)))

-- ---- what they contribute

sum_in : (a b : ℕ) → (a % 2 ^ 64 + b % 2 ^ 64) % 2 ^ 64 ≡ (a + b) % 2 ^ 64
sum_in a b = omega arith

count-append : (byte : ℕ) (first second : List ℕ)
    → wrap_sum ((count_of byte first % 2 ^ 64 + count_of byte second % 2 ^ 64) % 2 ^ 64)
    ≡ wrap_sum (count_of byte (first ++ second) % 2 ^ 64)
count-append byte first second =
    ap wrap_sum (sum_in (count_of byte first) (count_of byte second)
    ∙ ap (λ n. n % 2 ^ 64) (sym (sum_by-append _ first second)))

tally-append : (spelling : Spelling) (first second : List ℕ)
    → tally_join (tally_in spelling first) (tally_in spelling second)
    ≡ tally_in spelling (first ++ second)
tally-append spelling first second =
    ap₂ both_of
    (ap₂ both_of (count-append spelling.a first second) (count-append spelling.c first second))
    (ap₂ both_of (count-append spelling.g first second) (count-append spelling.t first second))

module _ (spelling : Spelling) where
  -- one block, behind some others
  left-counted : (done later : List Part) (block text : List ℕ) (place : ℕ)
      → length done ≡ place
      → state_after part_meaning
      (state_of (part.Spelling spelling ∷ done ++ part.Block block ∷ later) (tally_in spelling text))
      (count_call place)
      ≡ state_of (part.Spelling spelling ∷ done ++ part.Block block ∷ later)
      (tally_in spelling (text ++ block))
  left-counted done later block text place here =
      let before = part.Spelling spelling ∷ done in
      let at : length before ≡ 1 + place = omega (arith, here) in
      let there = value_at before later (1 + place) at (part.Block block) in
      let put = put_at before later (1 + place) at (part.Block block) (part.Block block) in
      rw there (ap₂ state_of put (tally-append spelling text block))

  left-counts : (blocks : List (List ℕ)) (done : List Part) (text : List ℕ) (place : ℕ)
      → length done ≡ place
      → fold (state_after part_meaning)
      (state_of (part.Spelling spelling ∷ done ++ map part.Block blocks) (tally_in spelling text))
      (map count_call (range_with_len place (length blocks)))
      ≡ state_of (part.Spelling spelling ∷ done ++ map part.Block blocks)
      (tally_in spelling (text ++ flat_map (λ block. block) blocks))
  left-counts [] done text place here =
      ap (λ t. state_of (part.Spelling spelling ∷ done ++ []) (tally_in spelling t))
      (sym (append-nil text))
  left-counts (b ∷ bs) done text place here =
      let rest = map count_call (range_with_len (place + 1) (length bs)) in
      let more = done ++ part.Block b ∷ [] in
      let next : length more ≡ place + 1 =
      length-append done (part.Block b ∷ []) ∙ ap (λ k. k + 1) here in
      ap (λ state. fold (state_after part_meaning) state rest)
      (left-counted done (map part.Block bs) b text place here
      ∙ ap (λ vs. state_of (part.Spelling spelling ∷ vs) (tally_in spelling (text ++ b)))
      (sym (append_assoc done (part.Block b ∷ []) (map part.Block bs))))
      ∙ left-counts bs more (text ++ b) (place + 1) next
      ∙ ap₂ (λ vs t. state_of (part.Spelling spelling ∷ vs) (tally_in spelling t))
      (append_assoc done (part.Block b ∷ []) (map part.Block bs))
      (append_assoc text b (flat_map (λ block. block) bs))

  pub histogram-left : (blocks : List (List ℕ))
      → sequential_state part_meaning (histogram_calls spelling blocks)
      ≡ state_of (part.Spelling spelling ∷ map part.Block blocks)
      (tally_in spelling (flat_map (λ block. block) blocks))
  histogram-left blocks =
      let run = fold (state_after part_meaning) in
      let counts = count_calls (length blocks) in
      let start = state_of (part.Spelling spelling ∷ []) no_tally in
      let full = state_of (part.Spelling spelling ∷ map part.Block blocks) no_tally in
      fold-append (state_after part_meaning) start (map make_block blocks)
      (call.Begin ∷ counts ++ call.End ∷ [])
      ∙ ap (λ state. run state (call.Begin ∷ counts ++ call.End ∷ []))
      (left-made part_meaning part.Block Object blocks (part.Spelling spelling ∷ []) no_tally)
      ∙ fold-append (state_after part_meaning) full counts (call.End ∷ [])
      ∙ left-counts blocks [] [] 0 refl
