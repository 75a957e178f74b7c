use Rattle.std.proofs.Common.{◌≡◌, map, take, drop, length}
use Rattle.std.specs.List.{enumerate_from}
use Rattle.index_definitions.specs.Words.{terms_in}
use Rattle.doc_words.proofs.words.words_of.Given as goal

-- the terms so far are numbered from 1, and the others are left
abbrev pub invariant-loop-term : goal.invariant-loop-term
invariant-loop-term l =
    record {
      left : l.terms ≡ drop l.position (terms_in l.fn.bytes);
      numbered :
          map (λ word. (word.position, word.term)) l.words.items
          ≡ enumerate_from 1 (take l.position (terms_in l.fn.bytes));
    }

abbrev pub decreases-loop-term : goal.decreases-loop-term
decreases-loop-term l = length l.terms
