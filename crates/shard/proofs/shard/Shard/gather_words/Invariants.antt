use Rattle.std.proofs.Common.{◌≡◌, filter, take}
use Rattle.shard.specs.Shards.{with_terms}
use Rattle.shard.proofs.GatherLemmas.{belongs}
use Rattle.shard.proofs.shard.Shard.gather_words.Given as goal

-- the document was appended to the terms so far
abbrev pub invariant-loop-number : goal.invariant-loop-number
invariant-loop-number l =
    record {
      number_is : l.self.number ≡ l.fn.self.number;
      lists :
          l.self.lists
          ≡ with_terms l.fn.self.lists l.doc l.words.words
          (filter (belongs l.fn.self.number) (take l.number l.words.terms));
    }
