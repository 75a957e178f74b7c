use Rattle.std.proofs.Common.{rules, ◌≡◌, [], ◌∷◌, ◌++◌, append-nil, append_assoc, ◌∙◌, sym, refl}
use Rattle.std.proofs.lemmas.List.{nil_from_length}
use Rattle.delegation.proofs.views.ProgramLemmas.{starts, goes, stops, ends}
use Rattle.delegation.proofs.program.run_calls.Goals as goal

pub loop-call-init : goal.loop-call-init
loop-call-init g c =
    rw c.in_ok-replies.ensures.items (starts _ _ c.requires, search rules)

pub loop-call-preserved : goal.loop-call-preserved
loop-call-preserved g c =
    let way = c.loop-call.invariant.0 in
    let accepted = c.in-Ok.ensures.follows c.loop-call.yielded way.after in
    let pushed : c.push.new.self.items ≡ c.loop-call.replies.items ++ c.in-Ok.reply ∷ [] =
    c.in_ok-push-in-Ok.ensures.items in
    let steps = c.in-Some.ensures.steps in (
      rw pushed (goes _ _ _ _ _ _ way c.in-Ok.reply accepted.1 c.in-Ok.ensures.made.1),
      rw (c.loop-call.invariant.1, steps.0, append_assoc) refl,
    )

pub returns-in-Err-Refused : goal.returns-in-Err-Refused
returns-in-Err-Refused g c =
    let way = c.loop-call.invariant.0 in
    let refused = c.in-Err-Refused.ensures.follows c.loop-call.yielded way.after in
    let stopped = stops _ _ _ _ _ _ way c.in-Err-Refused.field-0 c.in-Err-Refused.refusal
    c.next.new.self.rest.items c.in-Err-Refused.field-0-is refused in
    let steps = c.in-Some.ensures.steps in
    rw (
      c.answered.ensures.replies,
      c.answered.ensures.stopped,
      c.loop-call.invariant.1,
      steps.0,
      c.in-Err-Refused.field-0-is,
    ) stopped

pub returns : goal.returns
returns g c =
    let ended = ends _ _ _ _ c.loop-call.invariant.0 in
    let steps = c.in-None.ensures.steps in
    let rest = c.loop-call.call-iterator.rest.ok in
    let none : c.loop-call.call-iterator.rest.items ≡ [] =
    nil_from_length _ (sym rest.0 ∙ steps.0) in
    rw (
      c.answered-2.ensures.replies,
      c.answered-2.ensures.stopped,
      c.loop-call.invariant.1,
      none,
      append-nil,
    ) ended
