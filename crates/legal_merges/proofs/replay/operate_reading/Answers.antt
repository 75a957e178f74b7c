use Rattle.std.proofs.Common.{rules, ◌<◌, length, arith}
use Rattle.std.proofs.lemmas.Option.{slice_get-get_or}
use Rattle.delegation.proofs.plains.OperationLemmas.{operated-back, operated-front, on_ok}
use Rattle.legal_merges.proofs.replay.operate_reading.Goals as goal

pub returns-then-from-at : goal.returns-then-from-at
returns-then-from-at g c =
    let m = g.C.Class.meaning in
    let parts = c.split_at_mut-front.result in
    let split = c.split_at_mut-front.ensures in
    let known = c.requires.known in
    let below = c.if-from-at.true in
    let some : 0 < length parts.1.now = omega (arith, split.back_len, known) in
    let within : c.args.read.0 < length parts.0.now = omega (arith, split.front_len, below) in
    let value = slice_get-get_or parts.1.now 0 c.index-back-0.result some in
    let other = slice_get-get_or parts.0.now c.args.read.0 c.index-front-from.result within in
    let applied = c.apply in
    rw split.value
    (on_ok applied.result applied.ensures.value applied.ensures.contribution
    (operated-back m parts.0.now parts.1.now c.args.total.now applied.new.red c.args.object.0
    c.args.op.now c.args.read _ _ applied.new.self
    split.front_len value other))

pub returns-else-from-at : goal.returns-else-from-at
returns-else-from-at g c =
    let m = g.C.Class.meaning in
    let parts = c.split_at_mut-front-else-from-at.result in
    let split = c.split_at_mut-front-else-from-at.ensures in
    let some : 0 < length parts.1.now = search rules in
    let within : c.args.object.0 < length parts.0.now = search rules in
    let value = slice_get-get_or parts.0.now c.args.object.0 c.index-front-at.result within in
    let other = slice_get-get_or parts.1.now 0 c.index-back-0-else-from-at.result some in
    let applied = c.apply-else-from-at in
    rw split.value
    (on_ok applied.result applied.ensures.value applied.ensures.contribution
    (operated-front m parts.0.now parts.1.now c.args.total.now applied.new.red c.args.object.0
    c.args.op.now c.args.read _ _ applied.new.self
    split.front_len value other))
