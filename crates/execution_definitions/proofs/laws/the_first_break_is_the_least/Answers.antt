use Rattle.execution_definitions.proofs.shapes.LawsLemmas.{first_break_is_least}
use Rattle.execution_definitions.proofs.laws.the_first_break_is_the_least.Goals as goal

pub returns : goal.returns
returns c = first_break_is_least
