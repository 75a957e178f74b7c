use Rattle.execution_definitions.specs.declared.call.Reply.TheVariants as reply
use Rattle.delegation.proofs.views.FollowLemmas.{follows}
use Rattle.delegation.proofs.delegation.Delegation.begin.Goals as goal

pub returns-clause-follows : goal.returns-clause-follows
returns-clause-follows g c = follows _ (λ _. reply.Done) _ _ _ _ c.do_begin.ensures.answered
