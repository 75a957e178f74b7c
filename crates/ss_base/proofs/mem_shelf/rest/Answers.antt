use Rattle.std.proofs.Common.{arith, ◌<◌, ◌≤◌, length, rules}
use Rattle.ss_base.proofs.FilesLemmas.{rest_at-past}
use Rattle.ss_base.proofs.mem_shelf.rest.Goals as goal

pub returns-else-taken-len-clause-value : goal.returns-else-taken-len-clause-value
returns-else-taken-len-clause-value c =
    let within : c.args.place < length c.args.files.now = search rules in
    let past : length c.in_ok-bytes.field-0.now.1.items ≤ c.args.taken = grind arith in
    rest_at-past c.args.files.now c.args.place c.args.taken c.in_ok-bytes.field-0.now within
    c.in_ok-bytes.ensures.lookup.1 past
