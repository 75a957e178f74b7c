use Rattle.command_line.proofs.NumbersLemmas.{number_in-bounds}
use Rattle.command_line.proofs.options.number_or.Goals as goal

pub returns-in-Some-clause-within : goal.returns-in-Some-clause-within
returns-in-Some-clause-within c =
    number_in-bounds c.args.least c.args.most c.in-Some.value.now c.number_in.result
    c.number_in.ensures
