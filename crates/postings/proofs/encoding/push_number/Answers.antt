use Rattle.std.proofs.Common.{◌+◌, ◌/◌, ◌%◌, ◌∷◌, [], arith, refl}
use Rattle.postings.specs.Spelling.{SpellsNumber}
use Rattle.postings.proofs.AppendingLemmas.{behind_more, at_end}
use Rattle.postings.proofs.StuckLemmas.{number-more}
use Rattle.postings.proofs.encoding.push_number.Goals as goal

pub loop-rest-preserved : goal.loop-rest-preserved
loop-rest-preserved c =
    let rest = c.loop-rest.rest in
    let b = rest % 128 + 128 in
    record {
      some = omega (arith, c.loop-rest-test.true);
      goes_on = λ tail spells.
          behind_more (λ more. SpellsNumber more c.args.number) c.args.bytes.now.items
          c.loop-rest.bytes.items (b ∷ []) c.push.new.self.items tail c.in_ok-push.ensures.items
          (c.loop-rest.invariant.goes_on (b ∷ tail)
          (number-more b rest tail (rest / 128) (omega arith) (omega arith) (omega arith) spells));
    }

pub returns : goal.returns
returns c =
    let rest = c.loop-rest.rest in
    at_end (λ more. SpellsNumber more c.args.number) c.args.bytes.now.items c.push-2.new.self.items
    (behind_more (λ more. SpellsNumber more c.args.number) c.args.bytes.now.items
    c.loop-rest.bytes.items (rest ∷ []) c.push-2.new.self.items [] c.in_ok-push-2.ensures.items
    (c.loop-rest.invariant.goes_on (rest ∷ [])
    (c.loop-rest.invariant.some, omega (arith, c.loop-rest-test.false), refl)))
