use Rattle.std.proofs.Common.{◌<◌, List, Vec, Global, ℕ, length, map, subst, sym, ap, ◌∙◌}
use Rattle.std.proofs.lemmas.List.{length-map}
use Rattle.std.proofs.lemmas.List.Folds.{flat_map-map}
use Rattle.execution_definitions.specs.Meanings.{shapes_of}
use Rattle.execution_definitions.specs.Sequential.{sequential_state}
use Rattle.execution_definitions.specs.Soundness.{IsSound}
use Rattle.examples.specs.Histograms.{tally_in, part_meaning}
use Rattle.examples.proofs.HistogramLemmas.{histogram-sound, histogram-left}
use Rattle.examples.proofs.bases.histogram.Goals as goal

-- blocks as their bytes
abbrev bytes_of : List (Vec ℕ Global) → List (List ℕ)
bytes_of blocks = map (λ block. block.items) blocks

pub outcome_of-requires-clause-sound : goal.outcome_of-requires-clause-sound
outcome_of-requires-clause-sound g c κs within =
    let blocks = bytes_of c.args.blocks.items in
    let few : length blocks < 1048576 =
    rw (length-map c.args.blocks.items (λ (b : Vec ℕ Global). b.items)) c.requires.few in
    subst (λ calls. IsSound (shapes_of part_meaning calls)) (sym c.in_ok-calls.ensures)
    (histogram-sound c.args.spelling blocks few)

pub returns : goal.returns
returns g c =
    let blocks = bytes_of c.args.blocks.items in
    c.in_ok-outcome_of.ensures.total
    ∙ ap (λ calls. (sequential_state part_meaning calls).total) c.in_ok-calls.ensures
    ∙ ap (λ state. state.total) (histogram-left c.args.spelling blocks)
    ∙ ap (tally_in c.args.spelling)
    (flat_map-map (λ block. block) (λ (b : Vec ℕ Global). b.items) c.args.blocks.items)
