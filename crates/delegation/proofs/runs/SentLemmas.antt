-- What is sent to the lanes, one call more at a time.
use Rattle.std.proofs.Common.{◌≡◌, ℕ, zero, suc, ◌+◌, ◌<◌, ◌≤◌, ◌==◌, Option, Some, None, List, [], ◌∷◌, ◌++◌, map, replicate, refl, sym, ap, ◌∙◌, subst, arith, append-nil, mod-lt, zero-lt-suc}
use Rattle.std.specs.Prelude.{if◌then◌else◌, filter, option_to_list}
use Rattle.std.specs.List.{range_with_len}
use Rattle.std.proofs.lemmas.Grind.{common_steps}
use Rattle.ss_base.specs.declared.ids.Run.{Run}
use Rattle.execution_definitions.specs.Shapes.{Shape}
use Rattle.execution_definitions.specs.Sets.{lane_of_set}
use Rattle.execution_definitions.specs.Runs.{run_of, sent, is_in_lane}
use Rattle.execution_definitions.proofs.lists.ListLemmas.{map_range-pointwise}
use Rattle.execution_definitions.proofs.shapes.RunsLemmas.{sent-push}
use Rattle.delegation.specs.Runtimes.{lane_count, sent_to_lanes}
use Rattle.delegation.specs.Answers.{with_run, sent_with}

-- a run where the test holds
abbrev run_if : Run → ℕ → ℕ → List Run
run_if run lane l = if lane == l then (run ∷ []) else []

run_if-here : (run : Run) (lane l : ℕ) → lane ≡ l → run_if run lane l ≡ run ∷ []
run_if-here run lane l same = grind (arith, common_steps)

below_nothing : (run : Run) (lane l : ℕ) (runs : List Run) → lane < l →
    runs ≡ runs ++ run_if run lane l
below_nothing run lane l runs below = grind (arith, common_steps)

above_nothing : (run : Run) (lane l : ℕ) (runs : List Run) → l < lane →
    runs ≡ runs ++ run_if run lane l
above_nothing run lane l runs above = grind (arith, common_steps)

-- one lane of a range gets a run more
with_run-range : (f : ℕ → List Run) (run : Run) (start count lane : ℕ) → lane < count →
    with_run lane run (map f (range_with_len start count))
    ≡ map (λ l. f l ++ run_if run (start + lane) l) (range_with_len start count)
with_run-range f run start zero lane below = absurd (omega arith)
with_run-range f run start (suc n) zero below =
    rw (run_if-here run (start + 0) start (omega arith))
    (ap (λ lists. (f start ++ run ∷ []) ∷ lists)
    (map_range-pointwise f _ (start + 1) n
    (λ i above. below_nothing run (start + 0) i (f i) (omega arith))))
with_run-range f run start (suc n) (suc lane) below =
    let place : start + 1 + lane ≡ start + suc lane = omega arith in
    rw (sym (above_nothing run (start + suc lane) start (f start) (omega arith)))
    (ap (λ lists. f start ∷ lists)
    (subst (λ l. with_run lane run (map f (range_with_len (start + 1) n))
    ≡ map (λ i. f i ++ run_if run l i) (range_with_len (start + 1) n)) place
    (with_run-range f run (start + 1) n lane (omega arith))))

-- a set has one of the lanes
pub lane_of_set-below : (set n : ℕ) → lane_of_set set n < lane_count n
lane_of_set-below set zero = omega arith
lane_of_set-below set (suc n) = mod-lt set (zero-lt-suc n)

-- a run more in the lane of its set, told of each lane
sent_with-range : (f : ℕ → List Run) (n : ℕ) (found : Option Run) →
    sent_with n (map f (range_with_len 0 (lane_count n))) found
    ≡ map (λ lane. f lane ++ filter (is_in_lane n lane) (option_to_list found))
    (range_with_len 0 (lane_count n))
sent_with-range f n None =
    map_range-pointwise f _ 0 (lane_count n) (λ i above. sym (append-nil (f i)))
sent_with-range f n (Some run) =
    let lane = lane_of_set run.set.0 n in
    let first : 0 + lane ≡ lane = omega arith in
    subst (λ l. with_run lane run (map f (range_with_len 0 (lane_count n)))
    ≡ map (λ i. f i ++ run_if run l i) (range_with_len 0 (lane_count n))) first
    (with_run-range f run 0 (lane_count n) lane (lane_of_set-below run.set.0 n))

-- one call more is sent to the lane of its set
pub sent_to_lanes-push : (calls : List Shape) (n : ℕ) (call : Shape) →
    sent_with n (sent_to_lanes calls n) (run_of calls call)
    ≡ sent_to_lanes (calls ++ call ∷ []) n
sent_to_lanes-push calls n call =
    sent_with-range (sent calls n) n (run_of calls call)
    ∙ sym (map_range-pointwise _ _ 0 (lane_count n) (λ lane above. sent-push calls n lane call))

-- where there are delegates, it is one of theirs
pub lane_within : (set n : ℕ) → 1 ≤ n → lane_of_set set n < n
lane_within set zero some = absurd (omega arith)
lane_within set (suc n) some = lane_of_set-below set (suc n)

-- nothing was sent before the first call
none_sent : (n start count : ℕ) →
    map (sent [] n) (range_with_len start count) ≡ replicate count []
none_sent n start zero = refl
none_sent n start (suc count) = ap (λ rest. [] ∷ rest) (none_sent n (start + 1) count)

pub none_sent_to_lanes : (n : ℕ) → 1 ≤ n → replicate n [] ≡ sent_to_lanes [] n
none_sent_to_lanes zero some = absurd (omega arith)
none_sent_to_lanes (suc n) some = sym (none_sent (suc n) 0 (suc n))
