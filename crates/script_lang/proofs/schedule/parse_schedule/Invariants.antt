use Rattle.std.proofs.Common.{◌≡◌, ◌+◌, length, drop}
use Rattle.script_lang.specs.Schedules.{schedule_words, schedule_of}
use Rattle.script_lang.specs.Parsing.Schedule.{after_words}
use Rattle.script_lang.proofs.schedule.parse_schedule.Given as goal

-- what is left, read after what was read, comes to the whole
abbrev pub invariant-loop-word : goal.invariant-loop-word
invariant-loop-word l = record {
  can_next : (goal.iterator-loop-word).can_next l.word-iterator;
  is_finite : (goal.iterator-loop-word).is_finite l.word-iterator;
  number : l.number ≡ length l.yielded;
  rest : after_words l.events.items (l.number + 1) (drop l.number (schedule_words l.bytes))
      ≡ schedule_of l.bytes;
}
