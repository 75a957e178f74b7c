use Rattle.std.proofs.Common.{◌≡◌, ◌-◌, length}
use Rattle.ascii_words.specs.Places.{words_left, IsCutAt}
use Rattle.ascii_words.proofs.words.next_word.Given as goal

-- no word has been passed
abbrev pub invariant-loop-start : goal.invariant-loop-start
invariant-loop-start l =
    record {
      cut : IsCutAt l.fn.text l.start;
      left : words_left l.fn.text l.fn.from ≡ words_left l.fn.text l.start;
    }

abbrev pub decreases-loop-start : goal.decreases-loop-start
decreases-loop-start l = length l.fn.text - l.start
