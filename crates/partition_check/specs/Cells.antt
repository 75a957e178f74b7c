-- What does the cell of an object say in an epoch?
--
-- A cell keeps the epoch in which something was last delegated to its object, or read it. So a new
-- epoch clears every cell at once, by its number alone.
use Rattle.std.specs.Prelude.{ℕ, ◌≤◌, Bool, ◌&&◌, ◌==◌, Some, None, if◌then◌else◌, is_some}
use Rattle.partition_check.specs.declared.cell.Cell.{Cell}
use Rattle.partition_check.specs.declared.mark.Mark.{Mark}
use Rattle.partition_check.specs.Usages.{holds, was_delegated_to, was_read}
use Rattle.partition_check.specs.MarkedAfter.{serializer_making}

-- the mark that a cell stands for after so many epochs, the last of which is open or not
abbrev pub mark_in : ℕ → Bool → Cell → Mark
mark_in epochs is_open cell =
    let is_stamped = is_open && (cell.epoch == epochs) in record {
      serializer = serializer_making cell.by cell.set.0;
      set = if (is_stamped && was_delegated_to cell.usage) then (Some cell.set) else None;
      is_held = is_stamped && holds cell.usage;
      shared = is_some cell.by && (is_stamped && was_read cell.usage);
    }

-- the cell isn't stamped with an epoch to come
abbrev pub IsStamped : ℕ → Cell → Type 0
IsStamped epochs cell = cell.epoch ≤ epochs
