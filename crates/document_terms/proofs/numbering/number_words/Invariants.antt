use Rattle.std.proofs.Common.{◌≡◌, ◌≤◌, drop, length}
use Rattle.index_definitions.specs.Words.{terms_in}
use Rattle.document_terms.specs.kept.Numbers.{most_words}
use Rattle.document_terms.proofs.NumberingLemmas.{Numbers}
use Rattle.document_terms.proofs.numbering.number_words.Given as goal

-- the words so far are numbered, and the others are left
abbrev pub invariant-loop-numbers : goal.invariant-loop-numbers
invariant-loop-numbers l =
    record {
      numbers : Numbers l.stop l.terms (terms_in l.fn.bytes) l.numbers.items;
      left : l.left ≡ drop (length l.numbers.items) (terms_in l.fn.bytes);
      taken : length l.numbers.items ≤ length (terms_in l.fn.bytes);
      total : length (terms_in l.fn.bytes) ≤ most_words;
    }

abbrev pub decreases-loop-numbers : goal.decreases-loop-numbers
decreases-loop-numbers l = length l.left
