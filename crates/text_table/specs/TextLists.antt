-- Which texts do a string and a list of places in it stand for?
use Rattle.std.specs.Prelude.{ℕ, ◌≤◌, ◌<◌, ◌^◌, List, length, slice_range}
use Rattle.std.specs.List.{All}
use Rattle.std.specs.Str.{IsCharBoundary}
use Rattle.text_table.specs.declared.text_list.Span.{Span}

-- the bytes from the start of a place to its end
abbrev pub text_at : List ℕ → Span → List ℕ
text_at bytes span = slice_range bytes span.start span.end

-- a text may be cut out at the place
pub record IsPlace (bytes : List ℕ) (span : Span) : Type 0 where
  pub ordered : span.start ≤ span.end
  pub starts : IsCharBoundary bytes span.start
  pub ends : IsCharBoundary bytes span.end

-- a text stands at each place, and their numbers fit a u32
pub record AreTexts (bytes : List ℕ) (spans : List Span) : Type 0 where
  pub places : All (IsPlace bytes) spans
  pub few : length spans < 2 ^ 32
