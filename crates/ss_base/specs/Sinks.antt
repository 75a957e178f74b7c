-- What does a sink gain?
--
-- A sink that tells its bytes has gained a front part of what was written, in order. One that tells
-- nothing is bound by its count of faults alone, and each word below then holds.
use Rattle.std.specs.Prelude.{ℕ, ◌≤◌, List, length, take, Result, MatchResult}
use Rattle.std.specs.declared.option.Option.{Option}
use Rattle.std.specs.Io.KnownBytes.{Keeps, Appends}

-- a write gains the bytes that it took at Ok, and nothing at Err
abbrev pub Gains : {E : Type 0} → Option (List ℕ) → Option (List ℕ) → Result ℕ E → List ℕ → Type 0
Gains before after result bytes =
    MatchResult result (λ n. Appends before after (take n bytes)) (λ _. Keeps before after)

-- some front part of the bytes was gained
abbrev pub GainsFront : Option (List ℕ) → Option (List ℕ) → List ℕ → Type 0
GainsFront before after bytes = (n : ℕ) × (n ≤ length bytes) × Appends before after (take n bytes)

-- all bytes were gained at Ok, and some front part of them at Err
abbrev pub GainsAll :
    {T E : Type 0} → Option (List ℕ) → Option (List ℕ) → Result T E → List ℕ → Type 0
GainsAll before after result bytes =
    MatchResult result (λ _. Appends before after bytes) (λ _. GainsFront before after bytes)
