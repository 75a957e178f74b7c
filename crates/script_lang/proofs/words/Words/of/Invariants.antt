use Rattle.std.proofs.Common.{◌≡◌, map, take, length}
use Rattle.script_lang.proofs.words.Words.of.Given as goal

abbrev pub invariant-loop-word : goal.invariant-loop-word
invariant-loop-word l = record {
  can_next : (goal.iterator-loop-word).can_next l.word-iterator;
  is_finite : (goal.iterator-loop-word).is_finite l.word-iterator;
  count : l.count ≡ length l.yielded;
  room : length l.words ≡ 7;
  kept : map (λ word. word.now) (take l.count l.words) ≡ map (λ word. word.now) l.yielded;
}
