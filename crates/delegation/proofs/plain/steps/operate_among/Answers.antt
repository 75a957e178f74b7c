use Rattle.std.proofs.Common.{rules, ◌<◌, length, arith}
use Rattle.std.proofs.lemmas.Option.{slice_get-get_or}
use Rattle.delegation.proofs.plains.OperationLemmas.{operated-back, operated-front, on_ok}
use Rattle.delegation.proofs.plain.steps.operate_among.Goals as goal

pub returns-then-from-at-clause-state : goal.returns-then-from-at-clause-state
returns-then-from-at-clause-state g c =
    let m = g.C.LocalClass.local_meaning in
    let parts = c.split_at_mut-front.result in
    let split = c.split_at_mut-front.ensures in
    let known = c.requires.known in
    let below = c.if-from-at.true in
    let some : 0 < length parts.1.now = omega (arith, split.back_len, known) in
    let within : c.in-Some.read.0 < length parts.0.now = omega (arith, split.front_len, below) in
    let value = slice_get-get_or parts.1.now 0 c.index-back-0.result some in
    let other = slice_get-get_or parts.0.now c.in-Some.read.0 c.index-front-from.result within in
    let applied = c.local_apply-then-from-at in
    rw (c.in-Some.is, split.value)
    (on_ok applied.result applied.ensures.value applied.ensures.contribution
    (operated-back m parts.0.now parts.1.now c.args.total.now applied.new.red c.args.o.0
    c.args.op.now c.in-Some.read _ _ applied.new.self
    split.front_len value other))

pub returns-else-from-at-clause-state : goal.returns-else-from-at-clause-state
returns-else-from-at-clause-state g c =
    let m = g.C.LocalClass.local_meaning in
    let parts = c.split_at_mut-front-else-from-at.result in
    let split = c.split_at_mut-front-else-from-at.ensures in
    let some : 0 < length parts.1.now = search rules in
    let within : c.args.o.0 < length parts.0.now = search rules in
    let value = slice_get-get_or parts.0.now c.args.o.0 c.index-front-at.result within in
    let other = slice_get-get_or parts.1.now 0 c.index-back-0-else-from-at.result some in
    let applied = c.local_apply-else-from-at in
    rw (c.in-Some.is, split.value)
    (on_ok applied.result applied.ensures.value applied.ensures.contribution
    (operated-front m parts.0.now parts.1.now c.args.total.now applied.new.red c.args.o.0
    c.args.op.now c.in-Some.read _ _ applied.new.self
    split.front_len value other))
