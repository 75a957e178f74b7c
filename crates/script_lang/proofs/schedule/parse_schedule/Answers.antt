use Rattle.std.proofs.Common.{◌≡◌, ◌+◌, Err, sym, ap, ◌∙◌, arith, rules, tests, of_calls, refl}
use Rattle.std.proofs.lemmas.Iterator.Consumers.{YieldsList-at, YieldsList-from_filter}
use Rattle.std.proofs.lemmas.Iterator.Splits.{YieldsList-from_slice_split}
use Rattle.std.proofs.lemmas.List.{length_push}
use Rattle.script_lang.specs.Lines.{is_some_word}
use Rattle.script_lang.specs.Schedules.{is_gap, schedule_words}
use Rattle.script_lang.specs.Parsing.Schedule.{after_words}
use Rattle.script_lang.proofs.schedules.SchedulesLemmas.{after_all, next_word, bad_word, no_word, few_words}
use Rattle.script_lang.proofs.shown.YieldsLemmas.{yielded_all, yielded_next}
use Rattle.script_lang.proofs.schedule.parse_schedule.Goals as goal

pub loop-word-init : goal.loop-word-init
loop-word-init c = record {
  can_next = search of_calls;
  is_finite = search of_calls;
  number = refl;
  rest = ap (λ events. after_words events 1 (schedule_words c.args.bytes.now))
      c.new-events.ensures.items
      ∙ after_all c.args.bytes.now;
}

pub overflow_add-number : goal.overflow_add-number
overflow_add-number c =
    let words = schedule_words c.args.bytes.now in
    let place = yielded_next (λ part. part.now) words c.loop-word.yielded
    c.loop-word.word-iterator c.loop-word.yielded_by _ _ c.in-Some.word c.in-Some.is
    c.next.ensures.steps
    (YieldsList-at c.into_iter-word-iterator.ensures.into_iter_gives
    (YieldsList-from_filter _ is_some_word
    (YieldsList-at c.filter-word-items.ensures.source
    (YieldsList-from_slice_split _ is_gap c.args.bytes.now c.split-parts.ensures.rest
    c.split-parts.ensures.done c.split-parts.ensures.closure (λ x b q k. search (rules, tests))))
    c.filter-word-items.ensures.closure (λ x b q k. search (rules, tests)))) in
    omega (arith, place.0, few_words c.args.bytes.now, c.loop-word.invariant.number, c.requires)

pub loop-word-preserved : goal.loop-word-preserved
loop-word-preserved c =
    let words = schedule_words c.args.bytes.now in
    let place = yielded_next (λ part. part.now) words c.loop-word.yielded
    c.loop-word.word-iterator c.loop-word.yielded_by _ _ c.in-Some.word c.in-Some.is
    c.next.ensures.steps
    (YieldsList-at c.into_iter-word-iterator.ensures.into_iter_gives
    (YieldsList-from_filter _ is_some_word
    (YieldsList-at c.filter-word-items.ensures.source
    (YieldsList-from_slice_split _ is_gap c.args.bytes.now c.split-parts.ensures.rest
    c.split-parts.ensures.done c.split-parts.ensures.closure (λ x b q k. search (rules, tests))))
    c.filter-word-items.ensures.closure (λ x b q k. search (rules, tests)))) in
    let here = rw (sym c.loop-word.invariant.number) at place in
    let events = c.loop-word.events.items in
    let number = c.loop-word.number in
    record {
      can_next = search of_calls;
      is_finite = search of_calls;
      number = omega (
        arith,
        length_push c.loop-word.yielded c.in-Some.word,
        c.loop-word.invariant.number,
      );
      rest = next_word events number c.in-Some.word.now words here.0 here.1 c.in-Some-event_of.event
          (sym c.in-Some-event_of.ensures) c.push_event.new.events.items
          c.in_ok-push_event-in-Some-event_of.ensures
          ∙ c.loop-word.invariant.rest;
    }

pub returns-in-None-event_of-clause-word : goal.returns-in-None-event_of-clause-word
returns-in-None-event_of-clause-word c number e =
    let words = schedule_words c.args.bytes.now in
    let place = yielded_next (λ part. part.now) words c.loop-word.yielded
    c.loop-word.word-iterator c.loop-word.yielded_by _ _ c.in-Some.word c.in-Some.is
    c.next.ensures.steps
    (YieldsList-at c.into_iter-word-iterator.ensures.into_iter_gives
    (YieldsList-from_filter _ is_some_word
    (YieldsList-at c.filter-word-items.ensures.source
    (YieldsList-from_slice_split _ is_gap c.args.bytes.now c.split-parts.ensures.rest
    c.split-parts.ensures.done c.split-parts.ensures.closure (λ x b q k. search (rules, tests))))
    c.filter-word-items.ensures.closure (λ x b q k. search (rules, tests)))) in
    let here = rw (sym c.loop-word.invariant.number) at place in
    let same : c.loop-word.number + 1 ≡ number = cc in
    sym c.loop-word.invariant.rest
    ∙ bad_word c.loop-word.events.items c.loop-word.number c.in-Some.word.now words here.0 here.1
    (sym c.in-None-event_of.ensures)
    ∙ ap Err same

pub returns-clause-ok : goal.returns-clause-ok
returns-clause-ok c =
    let words = schedule_words c.args.bytes.now in
    let end = yielded_all (λ part. part.now) words c.loop-word.yielded
    c.loop-word.word-iterator c.loop-word.yielded_by _ _ c.in-None.is c.next.ensures.steps
    (YieldsList-at c.into_iter-word-iterator.ensures.into_iter_gives
    (YieldsList-from_filter _ is_some_word
    (YieldsList-at c.filter-word-items.ensures.source
    (YieldsList-from_slice_split _ is_gap c.args.bytes.now c.split-parts.ensures.rest
    c.split-parts.ensures.done c.split-parts.ensures.closure (λ x b q k. search (rules, tests))))
    c.filter-word-items.ensures.closure (λ x b q k. search (rules, tests)))) in
    sym c.loop-word.invariant.rest
    ∙ no_word c.loop-word.events.items c.loop-word.number words
    (omega (arith, c.loop-word.invariant.number, end.1))
