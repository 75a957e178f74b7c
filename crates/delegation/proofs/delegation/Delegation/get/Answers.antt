use Rattle.std.proofs.Common.{refl}
use Rattle.execution_definitions.specs.declared.call.Reply.TheVariants as reply
use Rattle.delegation.proofs.views.FollowLemmas.{follows}
use Rattle.delegation.proofs.delegation.Delegation.get.Goals as goal

pub returns : goal.returns
returns g c =
    let hook = c.do_get.follows.holds-at-none in (
      (
        refl,
        (λ w. tt),
        (hook.0, follows _ (λ lent. reply.Value lent.now) _ _ _ _ hook.0, hook.1),
      ),
      record { after = tt; value = c.do_get.ensures.value },
    )
