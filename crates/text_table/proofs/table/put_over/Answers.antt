use Rattle.std.proofs.Common.{arith}
use Rattle.std.proofs.lemmas.Map.Text.{text_keys}
use Rattle.text_table.proofs.table.put_over.Goals as goal

pub returns-clause-put : goal.returns-clause-put
returns-clause-put c = λ key. grind (arith, text_keys)
