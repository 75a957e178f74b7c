use Rattle.ss_top.specs.Texts.{document_limit_text}
use Rattle.ss_top.proofs.tell.tell_document.Goals as goal

pub returns-in-None : goal.returns-in-None
unfolding document_limit_text
returns-in-None g c = rw (c.in-None.is, ← c.from.ensures) c.tell_number.ensures
