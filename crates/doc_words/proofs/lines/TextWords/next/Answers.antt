use Rattle.std.proofs.Common.{eqb-true, length, sym}
use Rattle.std.proofs.lemmas.List.{nil_from_length}
use Rattle.doc_words.specs.LineWords.{line_words}
use Rattle.doc_words.proofs.LineLemmas.{YieldsFirstRef-last_line}
use Rattle.doc_words.proofs.lines.TextWords.next.Goals as goal

pub returns-else-not-is_empty : goal.returns-else-not-is_empty
returns-else-not-is_empty c =
    let left = c.loop-word.self-inside in
    let rest = left.rest.now in
    YieldsFirstRef-last_line c.args.self.now c.loop-word.word (line_words left.line) rest
    (nil_from_length rest (eqb-true (length rest) 0 (sym c.if-not-is_empty.ensures)))
    c.loop-word.invariant
