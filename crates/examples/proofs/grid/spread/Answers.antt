use Rattle.std.proofs.Common.{◌≡◌, ◌+◌, ◌*◌, ◌≤◌, ℕ, List, length, take, drop, subst, sym, ap, ◌∙◌, arith}
use Rattle.std.specs.Prelude.{IfOk}
use Rattle.execution_definitions.specs.Meanings.{shapes_of}
use Rattle.execution_definitions.specs.Sequential.{sequential_state}
use Rattle.execution_definitions.specs.Soundness.{IsSound}
use Rattle.examples.specs.Grids.{row_meaning}
use Rattle.examples.specs.GridCalls.{half_after, grid_calls}
use Rattle.examples.proofs.GridCallLemmas.{grid-sound}
use Rattle.examples.proofs.GridLemmas.{length-grid, taken-grid, half_after-le}
use Rattle.examples.proofs.grid.spread.Goals as goal

pub outcome_of-requires-clause-sound : goal.outcome_of-requires-clause-sound
outcome_of-requires-clause-sound g c κs within =
    subst (λ calls. IsSound (shapes_of row_meaning calls)) (sym c.in_ok-calls.ensures)
    (grid-sound c.args.rounds c.args.rows.items c.ranges.rounds.fits c.requires.few)

pub rows_at-requires : goal.rows_at-requires
rows_at-requires g c =
    let count = c.len-count.result in
    let long : length c.deref.result.now ≡ 2 * length c.args.rows.items + 4 =
    ap length (c.deref.ensures.value
    ∙ c.in_ok-end.ensures.values
    ∙ ap (λ calls. (sequential_state row_meaning calls).values) c.in_ok-calls.ensures)
    ∙ length-grid c.args.rounds c.args.rows.items in
    let half : half_after c.args.rounds 0 (count + 2) ≤ count + 2 =
    half_after-le c.args.rounds 0 (count + 2) (count + 2) (omega arith) (omega arith) in
    omega (arith, long, half, c.last_half.ensures, c.len-count.ensures)

pub returns : goal.returns
returns g c =
    let rounds = c.args.rounds in
    let rows = c.args.rows.items in
    let count = c.len-count.result in
    let values = (sequential_state row_meaning (grid_calls rounds rows)).values in
    let same : count ≡ length rows = omega (arith, c.len-count.ensures) in
    let all : c.deref.result.now ≡ values =
    c.deref.ensures.value
    ∙ c.in_ok-end.ensures.values
    ∙ ap (λ calls. (sequential_state row_meaning calls).values) c.in_ok-calls.ensures in
    subst (λ list. IfOk c.rows_at.result (λ spread. spread.items ≡ list))
    (ap (λ (all : List (List ℕ)). take count (drop (c.last_half.result + 1) all)) all
    ∙ ap (λ first. take count (drop (first + 1) values)) c.last_half.ensures
    ∙ ap (λ k. take k (drop (half_after rounds 0 (k + 2) + 1) values)) same
    ∙ taken-grid rounds rows)
    c.rows_at.ensures
