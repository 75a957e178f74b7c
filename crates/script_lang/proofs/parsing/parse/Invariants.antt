use Rattle.std.proofs.Common.{◌≡◌, ◌+◌, length, drop}
use Rattle.std.specs.List.{slice_split}
use Rattle.script_lang.specs.Lines.{is_line_end}
use Rattle.script_lang.specs.Listings.{listing_of}
use Rattle.script_lang.specs.Parsing.Reading.{after_lines}
use Rattle.script_lang.proofs.parsing.parse.Given as goal

-- what is left, read after what was read, comes to the whole
abbrev pub invariant-loop-text : goal.invariant-loop-text
invariant-loop-text l = record {
  can_next : (goal.iterator-loop-text).can_next l.text-iterator;
  is_finite : (goal.iterator-loop-text).is_finite l.text-iterator;
  line : l.line ≡ length l.yielded;
  rest : after_lines l.reader (l.line + 1) (drop l.line (slice_split is_line_end l.bytes))
      ≡ listing_of l.bytes;
}
