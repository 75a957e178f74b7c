use Rattle.std.proofs.Common.{◌≡◌}
use Rattle.std.specs.List.{flat_map}
use Rattle.script_lang.proofs.shown.RepliesLemmas.{pair_line}
use Rattle.script_lang.proofs.showing.shown_by.Given as goal

-- what the commands so far show is appended
abbrev pub invariant-loop-placed : goal.invariant-loop-placed
invariant-loop-placed l = record {
  can_next : (goal.iterator-loop-placed).can_next l.placed-iterator;
  is_finite : (goal.iterator-loop-placed).is_finite l.placed-iterator;
  text : l.text.items
      ≡ flat_map (λ item. pair_line l.script.names (item.0.now, item.1.now)) l.yielded;
}
