-- What does a list become when something that is told by its bytes is appended?
use Rattle.std.specs.Prelude.{◌≡◌, ℕ, List, ◌++◌}

-- behind the old bytes stand some of which this holds, and nothing else
abbrev pub Appends : (List ℕ → Type 0) → List ℕ → List ℕ → Type 0
Appends Holds old new = (more : List ℕ) × Holds more × (new ≡ old ++ more)
