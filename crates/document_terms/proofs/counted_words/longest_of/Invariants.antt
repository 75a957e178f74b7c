use Rattle.std.proofs.Common.{◌≡◌, take}
use Rattle.index_definitions.proofs.GreatestLemmas.{greatest}
use Rattle.index_definitions.proofs.TermsLemmas.{characters}
use Rattle.document_terms.proofs.counted_words.longest_of.Given as goal

-- the most characters so far
abbrev pub invariant-loop-number : goal.invariant-loop-number
invariant-loop-number l = l.longest ≡ greatest characters 0 (take l.number l.terms)
