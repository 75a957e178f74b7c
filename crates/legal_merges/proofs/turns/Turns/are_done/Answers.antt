use Rattle.std.proofs.Common.{rules, subst}
use Rattle.std.specs.Bool.{OnTrue, OnFalse}
use Rattle.legal_merges.specs.kept.Judging.{AreDone}
use Rattle.legal_merges.proofs.TakeLemmas.{are_all_done}
use Rattle.legal_merges.proofs.turns.Turns.are_done.Goals as goal

pub returns : goal.returns
returns c = λ n calls done way.
    are_all_done n calls done c.args.self.now way c.len.result (search rules)
    c.are_done.result
    (subst (λ l. OnTrue c.are_done.result (AreDone l c.len.result)) c.deref.ensures.value
    c.are_done.ensures.yes)
    (subst (λ l. OnFalse c.are_done.result (AreDone l c.len.result → ⊥)) c.deref.ensures.value
    c.are_done.ensures.no)
