use Rattle.std.proofs.Common.{Some, map, take, refl, sym, ap, ◌∙◌, subst}
use Rattle.std.specs.Prelude.{Err}
use Rattle.std.proofs.lemmas.List.{map_push}
use Rattle.ss_base.specs.declared.ids.CallNo.{CallNo}
use Rattle.execution_definitions.specs.declared.call.Reply.{Reply}
use Rattle.execution_definitions.specs.Meanings.{shapes_of}
use Rattle.execution_definitions.specs.Sequential.{reply_of}
use Rattle.interleavings.specs.Machines.{effect_of}
use Rattle.partition_check.specs.Represents.{Represents}
use Rattle.schedule_core.specs.Stores.{core_of, StaysFit, AnswersAfter}
use Rattle.schedule_core.specs.Kept.{program_of, machine_of}
use Rattle.schedule_core.proofs.PlaceLemmas.{next_at}
use Rattle.schedule_core.proofs.KeptLemmas.{taken_count, count_more, stands_more, left_more}
use Rattle.schedule_core.proofs.EventLemmas.{machine_same, order_with, running, refused_event, accepted_event}
use Rattle.schedule_core.proofs.events.take_call.Goals as goal

pub returns-in_ok-keep_reply-in-Ok-clause-kept : goal.returns-in_ok-keep_reply-in-Ok-clause-kept
returns-in_ok-keep_reply-in-Ok-clause-kept g c =
    let m = g.C.LocalClass.local_meaning in
    let parts = c.args.parts.now in
    let calls = program_of parts in
    let old = parts.store.marks in
    let new = c.answer.new.store.marks in
    let one = c.in-Some.call in
    let rest = c.pop_front.new.self.items in
    let enabled = sym c.may_take_next.ensures ∙ c.if-not-may_take_next.false in
    let stop = running m calls (machine_of parts) enabled in
    let next = next_at calls old.calls one rest
    (sym (c.requires.left stop) ∙ c.in-Some.ensures.items) in
    let accepts = c.in-Ok.ensures.answers (take old.calls calls) c.requires.marks in
    record {
      fit = c.in-Ok.ensures.fit;
      marks = stands_more m calls old new one c.requires.marks accepts.marks next.here;
      left = λ none. left_more m calls old new one c.requires.marks accepts.marks rest next;
    }

pub returns-in_ok-keep_reply-in-Ok-clause-state :
    goal.returns-in_ok-keep_reply-in-Ok-clause-state
returns-in_ok-keep_reply-in-Ok-clause-state g c =
    let m = g.C.LocalClass.local_meaning in
    let parts = c.args.parts.now in
    let calls = program_of parts in
    let machine = machine_of parts in
    let old = parts.store.marks in
    let new = c.answer.new.store.marks in
    let one = c.in-Some.call in
    let rest = c.pop_front.new.self.items in
    let enabled = sym c.may_take_next.ensures ∙ c.if-not-may_take_next.false in
    let stop = running m calls machine enabled in
    let next = next_at calls old.calls one rest
    (sym (c.requires.left stop) ∙ c.in-Some.ensures.items) in
    let accepts = c.in-Ok.ensures.answers (take old.calls calls) c.requires.marks in
    let told = accepts.reply
    ∙ ap (λ n. reply_of m machine.core.state n one) (sym (taken_count m calls old c.requires.marks))
    in
    machine_same _ _ (count_more m calls old new one c.requires.marks accepts.marks) refl
    (ap (map Some) c.in_ok-keep_reply-in-Ok.ensures.replies ∙ map_push Some parts.replies.items c.in-Ok.reply)
    stop
    (ap (map (λ (number : CallNo). number.0)) c.in_ok-keep_reply-in-Ok.ensures.order
    ∙ order_with parts.order.items (record { 0 = c.calls.result }) old.calls
    c.takes_effect-has_effect.result (effect_of m old.calls one) c.calls.ensures
    (c.takes_effect-has_effect.ensures old.calls))
    ∙ sym (accepted_event m calls machine one enabled next.here (core_of c.answer.new.store)
    c.in-Ok.reply accepts.allowed accepts.core told)

pub returns-in_ok-keep_reply-in-Ok-clause-answered :
    goal.returns-in_ok-keep_reply-in-Ok-clause-answered
returns-in_ok-keep_reply-in-Ok-clause-answered g c =
    let m = g.C.LocalClass.local_meaning in
    let parts = c.args.parts.now in
    let calls = program_of parts in
    let machine = machine_of parts in
    let old = parts.store.marks in
    let one = c.in-Some.call in
    let rest = c.pop_front.new.self.items in
    let enabled = sym c.may_take_next.ensures ∙ c.if-not-may_take_next.false in
    let stop = running m calls machine enabled in
    let next = next_at calls old.calls one rest
    (sym (c.requires.left stop) ∙ c.in-Some.ensures.items) in
    let accepts = c.in-Ok.ensures.answers (take old.calls calls) c.requires.marks in
    let told = accepts.reply
    ∙ ap (λ n. reply_of m machine.core.state n one) (sym (taken_count m calls old c.requires.marks))
    in (
      enabled,
      ap (λ x. x.stop) (accepted_event m calls machine one enabled next.here
          (core_of c.answer.new.store) c.in-Ok.reply accepts.allowed accepts.core told) ∙ sym stop,
    )

pub returns-in-Err-Refused-clause-kept : goal.returns-in-Err-Refused-clause-kept
returns-in-Err-Refused-clause-kept g c =
    let m = g.C.LocalClass.local_meaning in
    let parts = c.args.parts.now in
    let calls = program_of parts in
    let store = c.answer.new.store in
    let one = c.in-Some.call in
    let before = take parts.store.marks.calls calls in
    let refuses = subst (λ fault. AnswersAfter m before parts.store store one (Err fault))
    c.in-Err-Refused.field-0-is (c.in-Err-Refused.ensures.answers before c.requires.marks) in
    record {
      fit = subst (λ fault. StaysFit {T = Reply g.row.C.Denot g.row.C-LocalRed.Denot} store (Err fault)) c.in-Err-Refused.field-0-is
          c.in-Err-Refused.ensures.fit;
      marks = subst (λ marks. Represents marks (shapes_of m (take marks.calls calls)))
          (sym refuses.marks) c.requires.marks;
      left = λ none. absurd cc;
    }

pub returns-in-Err-Refused-clause-state : goal.returns-in-Err-Refused-clause-state
returns-in-Err-Refused-clause-state g c =
    let m = g.C.LocalClass.local_meaning in
    let parts = c.args.parts.now in
    let calls = program_of parts in
    let machine = machine_of parts in
    let store = c.answer.new.store in
    let one = c.in-Some.call in
    let before = take parts.store.marks.calls calls in
    let rest = c.pop_front.new.self.items in
    let enabled = sym c.may_take_next.ensures ∙ c.if-not-may_take_next.false in
    let stop = running m calls machine enabled in
    let next = next_at calls parts.store.marks.calls one rest
    (sym (c.requires.left stop) ∙ c.in-Some.ensures.items) in
    let refuses = subst (λ fault. AnswersAfter m before parts.store store one (Err fault))
    c.in-Err-Refused.field-0-is (c.in-Err-Refused.ensures.answers before c.requires.marks) in
    rw c.in-Err-Refused.field-0-is
    (machine_same _ _ (ap (λ marks. marks.calls) refuses.marks) refuses.core refl refl refl
    ∙ sym (refused_event m calls machine one enabled next.here c.in-Err-Refused.refusal refuses.why))

pub returns-in-Err-Refused-clause-answered : goal.returns-in-Err-Refused-clause-answered
returns-in-Err-Refused-clause-answered g c =
    let m = g.C.LocalClass.local_meaning in
    let parts = c.args.parts.now in
    let calls = program_of parts in
    let machine = machine_of parts in
    let store = c.answer.new.store in
    let one = c.in-Some.call in
    let before = take parts.store.marks.calls calls in
    let rest = c.pop_front.new.self.items in
    let enabled = sym c.may_take_next.ensures ∙ c.if-not-may_take_next.false in
    let stop = running m calls machine enabled in
    let next = next_at calls parts.store.marks.calls one rest
    (sym (c.requires.left stop) ∙ c.in-Some.ensures.items) in
    let refuses = subst (λ fault. AnswersAfter m before parts.store store one (Err fault))
    c.in-Err-Refused.field-0-is (c.in-Err-Refused.ensures.answers before c.requires.marks) in
    rw c.in-Err-Refused.field-0-is (
      enabled,
      stop,
      ap (λ x. x.stop) (refused_event m calls machine one enabled next.here
          c.in-Err-Refused.refusal refuses.why),
    )
