use Rattle.execution_definitions.specs.declared.call.Reply.TheVariants as reply
use Rattle.delegation.proofs.views.FollowLemmas.{follows}
use Rattle.delegation.proofs.delegation.Delegation.delegate.Goals as goal

pub returns-clause-follows : goal.returns-clause-follows
returns-clause-follows g c = follows _ reply.Sent _ _ _ _ c.do_delegate.ensures.answered
