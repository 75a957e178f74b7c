use Rattle.std.proofs.Common.{◌∷◌, [], ◌++◌, arith, refl, sym}
use Rattle.std.proofs.Common.{get_or, subst}
use Rattle.std.proofs.lemmas.List.{drop_more, drop_all}
use Rattle.index_definitions.specs.PostingLists.{RisesAbove}
use Rattle.postings.specs.Spelling.{SpellsPositions}
use Rattle.postings.proofs.AppendingLemmas.{behind_more, at_end}
use Rattle.postings.proofs.encoding.push_positions.Goals as goal

pub push_number-requires : goal.push_number-requires
push_number-requires c =
    let i = c.loop-position.position-index in
    let ns = c.args.positions.now in
    let split = drop_more ns i 0 (omega (arith, c.loop-position-test.true)) in
    let rises = subst (RisesAbove c.loop-position.before) split c.loop-position.invariant.rises in
    omega (arith, rises.0)

pub loop-position-preserved : goal.loop-position-preserved
loop-position-preserved c =
    let i = c.loop-position.position-index in
    let ns = c.args.positions.now in
    let n = get_or ns i 0 in
    let before = c.loop-position.before in
    let split = drop_more ns i 0 (omega (arith, c.loop-position-test.true)) in
    let rises = subst (RisesAbove before) split c.loop-position.invariant.rises in
    let number = c.in_ok-push_number.ensures in
    record {
      rises = rises.1;
      goes_on = λ tail spells.
          behind_more (λ more. SpellsPositions 0 more ns) c.args.bytes.now.items
          c.loop-position.bytes.items number.0 c.push_number.new.bytes.items tail number.2
          (c.loop-position.invariant.goes_on (number.0 ++ tail)
          (subst (SpellsPositions before (number.0 ++ tail)) (sym split)
          (number.0, tail, refl, (rises.0, omega (arith, c.type_inv.positions i), number.1), spells)));
    }

pub returns : goal.returns
returns c =
    let i = c.loop-position.position-index in
    let ns = c.args.positions.now in
    let all = drop_all i ns (omega (arith, c.loop-position-test.false)) in
    at_end (λ more. SpellsPositions 0 more ns) c.args.bytes.now.items c.push.new.self.items
    (behind_more (λ more. SpellsPositions 0 more ns) c.args.bytes.now.items
    c.loop-position.bytes.items (0 ∷ []) c.push.new.self.items [] c.in_ok-push.ensures.items
    (c.loop-position.invariant.goes_on (0 ∷ [])
    (subst (SpellsPositions c.loop-position.before (0 ∷ [])) (sym all) refl)))
