use Rattle.execution_definitions.proofs.shapes.LastDelegationLemmas.{held_from_its_last_delegation}
use Rattle.execution_definitions.proofs.laws.an_object_is_held_from_its_last_delegation.Goals as goal

pub returns : goal.returns
returns c = held_from_its_last_delegation
