-- To which shard does a term belong?
use Rattle.std.specs.Prelude.{ℕ, ◌%◌, List, sum}

-- the shard of a term, of sixteen
abbrev pub shard_of : List ℕ → ℕ
shard_of term = sum term % 16
