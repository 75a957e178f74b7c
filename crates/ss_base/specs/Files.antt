-- What does a shelf in memory hold?
use Rattle.std.specs.Prelude.{ℕ, List, drop, find, slice_get}
use Rattle.std.specs.Global.{Vec}
use Rattle.std.specs.declared.option.Option.{Option}
use Rattle.std.specs.Option.{option_map}
use Rattle.std.specs.Str.{bytes_eq}

-- the bytes of the first file with this name
abbrev pub bytes_of : List (List ℕ × Vec ℕ) → List ℕ → Option (List ℕ)
bytes_of files name = option_map (λ f. f.1.items) (find (λ f. bytes_eq f.0 name) files)

-- what is left of the file at a place, after so many bytes were taken
abbrev pub rest_at : List (List ℕ × Vec ℕ) → ℕ → ℕ → Option (List ℕ)
rest_at files place taken = option_map (λ f. drop taken f.1.items) (slice_get files place)
