use Rattle.std.proofs.Common.{◌≡◌, true, false, Option, Some, None, refl, sym, ap, ◌∙◌}
use Rattle.std.specs.Prelude.{is_some}
use Rattle.std.proofs.lemmas.Bool.{both_ways}
use Rattle.interleavings.specs.Machines.{is_empty}
use Rattle.schedule_core.specs.Queues.{queued}
use Rattle.schedule_core.specs.Stores.{entry_of}
use Rattle.schedule_core.specs.Kept.{program_of, machine_of}
use Rattle.schedule_core.proofs.QueueLemmas.{empty_len, empty_nil}
use Rattle.schedule_core.proofs.StoreLemmas.{all_empty-map}
use Rattle.schedule_core.proofs.PlaceLemmas.{none_at, none_left}
use Rattle.schedule_laws.proofs.EnabledLemmas.{spent-finished, finished-spent}
use Rattle.schedule_core.proofs.events.is_finished.Goals as goal
use Rattle.schedule_core.proofs.events.is_finished.Goals.{then-is_some, else-is_some}

some_none : {A : Type 0} (given : Option A) → is_some given ≡ true → given ≡ None → ⊥
some_none given is none = let clash : false ≡ true = sym (ap is_some none) ∙ is in absurd cc

not_some : {A : Type 0} (given : Option A) → is_some given ≡ false → given ≡ None
not_some None is = refl
not_some (Some given) is = absurd cc

pub returns-then-is_empty-clause-finished : goal.returns-then-is_empty-clause-finished
returns-then-is_empty-clause-finished g c = λ yes.
    let m = g.C.LocalClass.local_meaning in
    let parts = c.args.parts.now in
    let left = parts.left in
    spent-finished m (program_of parts) (machine_of parts) (record {
      empty = all_empty-map entry_of (queued parts.store.lanes.items) ∙ sym c.all_idle.ensures ∙ yes;
      none_left = λ none. elim c.if-is_some.branch [
        | then-is_some w ↦ absurd (some_none parts.stop (sym c.is_some.ensures ∙ w.if-is_some.true) none)
        | else-is_some w ↦ none_at (program_of parts) parts.store.marks.calls
            (sym (c.requires.left none) ∙ empty_nil left.items
            (sym (empty_len left.items left.len left.ok.0) ∙ sym w.is_empty.ensures ∙ sym w.value-is
            ∙ c.if-is_empty.true))
      ];
    })

pub returns-then-is_empty-clause-going : goal.returns-then-is_empty-clause-going
returns-then-is_empty-clause-going g c = λ no finished.
    let m = g.C.LocalClass.local_meaning in
    let parts = c.args.parts.now in
    let spent = finished-spent m (program_of parts) (machine_of parts) finished in
    both_ways c.all_idle.result no
    (c.all_idle.ensures ∙ sym (all_empty-map entry_of (queued parts.store.lanes.items))
    ∙ spent.empty)

pub returns-else-is_empty-clause-going : goal.returns-else-is_empty-clause-going
returns-else-is_empty-clause-going g c = λ no finished. elim c.if-is_some.branch [
  | then-is_some w ↦ both_ways c.if-is_some.value c.if-is_empty.false (w.value-is ∙ w.if-is_some.true)
  | else-is_some w ↦
      let m = g.C.LocalClass.local_meaning in
      let parts = c.args.parts.now in
      let left = parts.left in
      let stop = not_some parts.stop (sym c.is_some.ensures ∙ w.if-is_some.false) in
      let spent = finished-spent m (program_of parts) (machine_of parts) finished in
      let none = c.requires.left stop
      ∙ none_left (program_of parts) parts.store.marks.calls (spent.none_left stop) in
      both_ways c.if-is_some.value c.if-is_empty.false
      (w.value-is ∙ w.is_empty.ensures ∙ empty_len left.items left.len left.ok.0
      ∙ ap is_empty none)
]
