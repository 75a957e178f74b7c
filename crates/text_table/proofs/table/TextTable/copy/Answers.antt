use Rattle.std.proofs.Common.{rules}
use Rattle.text_table.proofs.LookupsLemmas.{FindsTexts-alike, get_by_text-clone}
use Rattle.text_table.proofs.table.TextTable.copy.Goals as goal

pub invariant_of-result : goal.invariant_of-result
invariant_of-result c =
    let overflow = c.self.inside.overflow in
    rw (c.in_ok-copy.ensures, c.in_ok-copy-2.ensures)
    (FindsTexts-alike c.self.inside.texts c.self.inside.buckets overflow c.in_ok-clone.field-0
    (get_by_text-clone overflow c.in_ok-clone.field-0 (λ n m same. search rules)
    c.in_ok-clone.ensures.cases)
    c.self.invariant)
