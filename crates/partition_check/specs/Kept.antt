-- What holds of the parts of marks between calls?
use Rattle.std.specs.Prelude.{◌≡◌, ℕ, ◌≤◌, Bool, true, List, length, All}
use Rattle.ss_base.specs.declared.limits.TheConstants as limits
use Rattle.partition_check.specs.declared.cell.Cell.{Cell}
use Rattle.partition_check.specs.Cells.{IsStamped}

-- the parts of marks fit each other and their types
pub record PartsFit (cells : List Cell) (calls epochs : ℕ) (is_open : Bool)
    (sequence_objects : ℕ) : Type 0 where
  -- no cell is stamped with an epoch to come
  pub stamped : All (IsStamped epochs) cells
  -- an epoch takes a call, and calls are bounded, so the counts fit
  pub begun : epochs ≤ calls
  pub call_limit : calls ≤ limits.CALLS
  -- a new cell, which has the stamp of no epoch, is clear in the one that is open
  pub first : is_open ≡ true → 1 ≤ epochs
  pub object_limit : length cells ≤ limits.OBJECTS
  pub sequences : sequence_objects ≤ length cells
