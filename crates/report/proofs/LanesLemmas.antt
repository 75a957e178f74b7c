-- Lanes that ran what was sent to them have the runs of each set as the program has them.
use Rattle.std.proofs.Common.{◌≡◌, ◌≢◌, ℕ, zero, suc, ◌+◌, ◌<◌, ◌≤◌, Bool, true, false, cond}
use Rattle.std.proofs.Common.{List, [], ◌∷◌, ◌++◌, map}
use Rattle.std.proofs.Common.{refl, ap, ◌∙◌, append-nil, arith}
use Rattle.std.specs.Prelude.{◌==◌}
use Rattle.std.specs.List.{filter, flat_map, range_with_len}
use Rattle.std.proofs.lemmas.Bool.{eqb-true, eqb-false, true≢false, false≢true}
use Rattle.std.proofs.lemmas.List.Elements.{filter-append}
use Rattle.std.proofs.lemmas.List.Folds.{flat_map-map}
use Rattle.ss_base.specs.declared.ids.Run.{Run}
use Rattle.execution_definitions.specs.Shapes.{Shape}
use Rattle.execution_definitions.specs.Sets.{lane_of_set}
use Rattle.execution_definitions.specs.Runs.{runs, is_in_lane, sent, is_of_set}
use Rattle.report.specs.Traces.{EpochSet, epoch_set, runs_in, trace_text}
use Rattle.report.proofs.EpochSetsLemmas.{same-is}
use Rattle.report.proofs.TraceLemmas.{trace_text-kept}

-- ---- the runs of a set in one lane: all of them, or none

-- f of a run is `one`, and of those behind it `all`, or nothing where the set has another lane
in_lane-more :
    (of_set in_lane is_lane : Bool) (run : Run) (all kept : List Run)
    → (of_set ≡ true → in_lane ≡ is_lane) → kept ≡ cond is_lane all []
    → cond in_lane (cond of_set (run ∷ kept) kept) kept ≡ cond is_lane (cond of_set (run ∷ all) all) []
in_lane-more false true is_lane run all kept same so_far = so_far
in_lane-more false false is_lane run all kept same so_far = so_far
in_lane-more true true true run all kept same so_far = ap (λ rest. run ∷ rest) so_far
in_lane-more true true false run all kept same so_far = absurd (true≢false (same refl))
in_lane-more true false true run all kept same so_far = absurd (false≢true (same refl))
in_lane-more true false false run all kept same so_far = so_far

filter-cond :
    (p : Run → Bool) (b : Bool) (run : Run) (rest : List Run)
    → filter p (cond b (run ∷ rest) rest)
    ≡ cond b (cond (p run) (run ∷ filter p rest) (filter p rest)) (filter p rest)
filter-cond p true run rest = refl
filter-cond p false run rest = refl

nothing : (b : Bool) → ◌≡◌ {A = List Run} [] (cond b [] [])
nothing true = refl
nothing false = refl

in_lane :
    (n lane : ℕ) (at : EpochSet) (rs : List Run)
    → filter (is_of_set at.0 at.1) (filter (is_in_lane n lane) rs)
    ≡ cond (lane_of_set at.1 n == lane) (filter (is_of_set at.0 at.1) rs) []
in_lane n lane at [] = nothing (lane_of_set at.1 n == lane)
in_lane n lane at (run ∷ rs) =
    filter-cond (is_of_set at.0 at.1) (is_in_lane n lane run) run (filter (is_in_lane n lane) rs)
    ∙ in_lane-more (is_of_set at.0 at.1 run) (is_in_lane n lane run) (lane_of_set at.1 n == lane)
    run (filter (is_of_set at.0 at.1) rs)
    (filter (is_of_set at.0 at.1) (filter (is_in_lane n lane) rs))
    (λ is. ap (λ one. lane_of_set one.1 n == lane) (same-is (epoch_set run) at is))
    (in_lane n lane at rs)

-- ---- of all lanes, one has them

filter-flat_map :
    (p : Run → Bool) (f : ℕ → List Run) (lanes : List ℕ)
    → filter p (flat_map f lanes) ≡ flat_map (λ lane. filter p (f lane)) lanes
filter-flat_map p f [] = refl
filter-flat_map p f (lane ∷ lanes) =
    filter-append p (f lane) (flat_map f lanes)
    ∙ ap (λ rest. filter p (f lane) ++ rest) (filter-flat_map p f lanes)

-- what one lane has, where it is among k lanes from a on
abbrev has : ℕ → List Run → ℕ → List Run
has one all lane = cond (one == lane) all []

past_it :
    (a k one : ℕ) (all : List Run) → one < a → flat_map (has one all) (range_with_len a k) ≡ []
past_it a zero one all before = refl
past_it a (suc k) one all before =
    let apart : (one == a) ≡ false = grind arith in
    ap (λ b. cond b all [] ++ flat_map (has one all) (range_with_len (a + 1) k)) apart
    ∙ past_it (a + 1) k one all (omega arith)

among_them :
    (a k one : ℕ) (all : List Run) → a ≤ one → one < a + k
    → flat_map (has one all) (range_with_len a k) ≡ all
among_them a zero one all from to = absurd (omega arith)
among_them a (suc k) one all from to =
    elim (one == a) as (λ b. (one == a) ≡ b
    → cond b all [] ++ flat_map (has one all) (range_with_len (a + 1) k) ≡ all) [
      | true ↦ λ is.
          let here : one ≡ a = eqb-true one a is in
          ap (λ rest. all ++ rest) (past_it (a + 1) k one all (omega arith)) ∙ append-nil all
      | false ↦ λ is.
          let apart : one ≢ a = eqb-false one a is in
          among_them (a + 1) k one all (omega arith) (omega arith)
    ] refl

lanes-kept :
    (calls : List Shape) (n lanes : ℕ) → ((set : ℕ) → lane_of_set set n < lanes) → (at : EpochSet)
    → filter (is_of_set at.0 at.1) (runs_in (map (sent calls n) (range_with_len 0 lanes)))
    ≡ filter (is_of_set at.0 at.1) (runs calls)
lanes-kept calls n lanes fits at =
    let within : lane_of_set at.1 n < 0 + lanes = omega (arith, fits at.1) in
    ap (filter (is_of_set at.0 at.1))
    (flat_map-map (λ log. log) (sent calls n) (range_with_len 0 lanes))
    ∙ filter-flat_map (is_of_set at.0 at.1) (sent calls n) (range_with_len 0 lanes)
    ∙ ap (λ f. flat_map f (range_with_len 0 lanes)) (λ i lane. in_lane n lane at (runs calls) i)
    ∙ among_them 0 lanes (lane_of_set at.1 n) (filter (is_of_set at.0 at.1) (runs calls))
    (omega arith) within

pub trace_text-lanes :
    (calls : List Shape) (n lanes : ℕ) → ((set : ℕ) → lane_of_set set n < lanes)
    → trace_text (runs_in (map (sent calls n) (range_with_len 0 lanes))) ≡ trace_text (runs calls)
trace_text-lanes calls n lanes fits =
    trace_text-kept (runs calls) (runs_in (map (sent calls n) (range_with_len 0 lanes)))
    (lanes-kept calls n lanes fits)
