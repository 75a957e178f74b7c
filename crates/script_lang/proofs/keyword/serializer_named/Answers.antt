use Rattle.std.proofs.Common.{codes, sym, ap, arith, rules}
use Rattle.script_lang.specs.Keywords.{serializer_named}
use Rattle.script_lang.proofs.spellings.SpellingLemmas.{spelt}
use Rattle.script_lang.proofs.keyword.serializer_named.Goals as goal

pub returns-in-object : goal.returns-in-object
unfolding serializer_named
returns-in-object c =
    sym (ap serializer_named (spelt c.args.word.now (codes "object") (omega arith) (search rules)))

pub returns-in-sequence : goal.returns-in-sequence
unfolding serializer_named
returns-in-sequence c =
    sym (ap serializer_named (spelt c.args.word.now (codes "sequence") (omega arith) (search rules)))
