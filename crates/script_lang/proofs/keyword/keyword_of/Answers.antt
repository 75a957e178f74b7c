use Rattle.std.proofs.Common.{codes, sym, ap, arith, rules}
use Rattle.script_lang.specs.Keywords.{keyword_of}
use Rattle.script_lang.proofs.spellings.SpellingLemmas.{spelt}
use Rattle.script_lang.proofs.keyword.keyword_of.Goals as goal

pub returns-in-object : goal.returns-in-object
unfolding keyword_of
returns-in-object c =
    sym (ap keyword_of (spelt c.args.word.now (codes "object") (omega arith) (search rules)))

pub returns-in-fixed : goal.returns-in-fixed
unfolding keyword_of
returns-in-fixed c =
    sym (ap keyword_of (spelt c.args.word.now (codes "fixed") (omega arith) (search rules)))

pub returns-in-isolate : goal.returns-in-isolate
unfolding keyword_of
returns-in-isolate c =
    sym (ap keyword_of (spelt c.args.word.now (codes "isolate") (omega arith) (search rules)))

pub returns-in-join : goal.returns-in-join
unfolding keyword_of
returns-in-join c =
    sym (ap keyword_of (spelt c.args.word.now (codes "join") (omega arith) (search rules)))

pub returns-in-write : goal.returns-in-write
unfolding keyword_of
returns-in-write c =
    sym (ap keyword_of (spelt c.args.word.now (codes "write") (omega arith) (search rules)))

pub returns-in-show : goal.returns-in-show
unfolding keyword_of
returns-in-show c =
    sym (ap keyword_of (spelt c.args.word.now (codes "show") (omega arith) (search rules)))

pub returns-in-total : goal.returns-in-total
unfolding keyword_of
returns-in-total c =
    sym (ap keyword_of (spelt c.args.word.now (codes "total") (omega arith) (search rules)))
