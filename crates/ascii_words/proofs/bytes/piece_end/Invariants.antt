use Rattle.std.proofs.Common.{◌≡◌, ◌-◌, true, length, slice_index}
use Rattle.unicode_segmentation.proofs.SegmentsLemmas.{IsWalk}
use Rattle.ascii_words.specs.AsciiWords.{is_run, is_ascii_break}
use Rattle.ascii_words.proofs.bytes.piece_end.Given as goal

-- the bytes so far are of one piece, and the last is of a run
abbrev pub invariant-loop-end : goal.invariant-loop-end
invariant-loop-end l =
    record {
      walk : IsWalk is_ascii_break l.fn.text l.fn.start (length l.fn.text) l.end;
      run : is_run (slice_index l.fn.text (l.end - 1)) ≡ true;
    }

abbrev pub decreases-loop-end : goal.decreases-loop-end
decreases-loop-end l = length l.fn.text - l.end
