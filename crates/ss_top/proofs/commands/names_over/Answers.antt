use Rattle.ss_top.proofs.InputsLemmas.{few_inputs}
use Rattle.ss_top.proofs.commands.names_over.Goals as goal

pub returns-else-count-gt-NAMES : goal.returns-else-count-gt-NAMES
returns-else-count-gt-NAMES c =
    let few = c.if-count-gt-NAMES.false in
    let same = c.as_slice-count.ensures in
    rw c.in-Index.is (few_inputs _ _ (rw same at few))
