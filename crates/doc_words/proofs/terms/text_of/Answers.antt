use Rattle.std.proofs.Common.{sym, ◌∙◌}
use Rattle.std.proofs.lemmas.Str.{utf8_lossy-IsUtf8}
use Rattle.doc_words.proofs.LossyLemmas.{length-utf8_lossy}
use Rattle.doc_words.proofs.terms.text_of.Goals as goal

pub returns-clause-len : goal.returns-clause-len
returns-clause-len c =
    rw c.in_ok-from_utf8_lossy.ensures.lossy (length-utf8_lossy c.args.bytes.now)

pub returns-in-Ok-clause-text : goal.returns-in-Ok-clause-text
returns-in-Ok-clause-text c =
    let text = c.in-Ok.ensures.cases in
    text.0 ∙ sym (utf8_lossy-IsUtf8 c.args.bytes.now text.1)
