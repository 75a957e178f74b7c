use Rattle.std.proofs.Common.{Some, arith}
use Rattle.std.proofs.lemmas.Str.Pattern.{split_parts}
use Rattle.doc_words.proofs.LineLemmas.{words-first_line, words-last_line}
use Rattle.doc_words.proofs.lines.first_line.Goals as goal

pub returns-in-Some-clause-words : goal.returns-in-Some-clause-words
returns-in-Some-clause-words c =
    let text = c.args.text.now in
    let parts = c.in-Some.parts in
    let split = split_parts 0xA text (Some parts) c.in-Some.ensures.cases (omega arith) in
    words-first_line text parts.0.now parts.1.now c.utf8.text split.0

pub returns-in-None-clause-words : goal.returns-in-None-clause-words
returns-in-None-clause-words c = words-last_line c.args.text.now
