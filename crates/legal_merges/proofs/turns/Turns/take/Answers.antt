use Rattle.std.proofs.Common.{rules, ◌≡◌, Some, arith, refl, subst}
use Rattle.std.proofs.lemmas.Option.{slice_get_read}
use Rattle.std.specs.Prelude.{slice_get}
use Rattle.legal_merges.specs.kept.Turns.{MayCome}
use Rattle.legal_merges.proofs.TakeLemmas.{none_past, none_here, begun_here, nexts_here, turn_there, waits_there, after_there}
use Rattle.legal_merges.proofs.turns.Turns.take.Goals as goal

pub returns-in_default : goal.returns-in_default
returns-in_default c = λ n calls done way.
    none_past n calls done c.args.self.now way c.args.place (search rules)

pub may_come-requires-clause-turn : goal.may_come-requires-clause-turn
may_come-requires-clause-turn c =
    rw c.deref-2.ensures.value
    (turn_there c.args.self.now c.requires c.args.place c.in-Some.step (search rules))

pub may_come-requires-clause-waits : goal.may_come-requires-clause-waits
may_come-requires-clause-waits c =
    rw c.deref-2.ensures.value
    (waits_there c.args.self.now c.requires c.args.place c.in-Some.step (search rules))

pub returns-then-not-may_come : goal.returns-then-not-may_come
returns-then-not-may_come c = λ n calls done way.
    none_here n calls done c.args.self.now way c.args.place c.in-Some.step (search rules)
    (subst (λ l. MayCome l c.in-Some.step c.args.place → ⊥) c.deref-2.ensures.value
    c.if-not-may_come.ensures.no)

pub index_mut-requires : goal.index_mut-requires
index_mut-requires c =
    let there = turn_there c.args.self.now c.requires c.args.place c.in-Some.step (search rules) in
    let is = c.args.self.now.nexts.ok.0 in
    omega arith

pub returns : goal.returns
returns c = λ n calls done way.
    let at : slice_get c.args.self.now.steps.items c.args.place ≡ Some c.in-Some.step =
    search rules in
    let may = subst (λ l. MayCome l c.in-Some.step c.args.place) c.deref-2.ensures.value
    c.if-not-may_come.ensures.yes in
    let room = after_there c.args.self.now c.requires c.args.place c.in-Some.step at in
    let after = slice_get_read c.args.self.now.afters.items _ c.args.place c.index.result.now refl
    room c.index.ensures in
    record {
      linked = way.linked;
      nexts = nexts_here n calls done c.args.self.now way c.args.place c.in-Some.step at may
          c.index.result.now after;
      begun = begun_here n calls done c.args.self.now way c.args.place c.in-Some.step at may;
    }
