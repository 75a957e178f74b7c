use Rattle.std.proofs.Common.{◌≡◌, ℕ, ◌+◌, ◌-◌, ◌<◌, map, length, Some}
use Rattle.ss_base.specs.declared.limits.TheConstants as limits
use Rattle.ss_top.specs.Inputs.{inputs_of}
use Rattle.ss_top.specs.Answers.{bytes_after}
use Rattle.ss_top.specs.Readings.{Reads, IsNeeded}
use Rattle.ss_top.proofs.inputs.read_inputs.Given as goal

-- the inputs so far were needed and were read, and so many bytes are left for the other documents
abbrev pub invariant-loop-which : goal.invariant-loop-which
invariant-loop-which g l =
    record {
      reads :
          Reads g.L.Shelf l.initial.shelf l.shelf (inputs_of l.command)
          (map (λ text. text.items) l.texts.items);
      needed :
          (place : ℕ) → place < length l.texts.items
          → IsNeeded (g.L.Shelf.contents l.initial.shelf) (Some l.command) place;
      left :
          l.left
          + bytes_after 0 (inputs_of l.command) (map (λ text. text.items) l.texts.items)
          ≡ limits.ALL_DOCUMENT_BYTES;
    }

abbrev pub decreases-loop-which : goal.decreases-loop-which
decreases-loop-which g l = length (inputs_of l.command) - length l.texts.items
