use Rattle.postings.proofs.NumbersLemmas.{lists_of-first, HoldPostings-rest}
use Rattle.postings.proofs.postings.split_document.Goals as goal

pub returns-clause-first : goal.returns-clause-first
returns-clause-first c =
    let parts = c.split_at.result in
    lists_of-first c.args.numbers.now parts.0.now parts.1.now c.in-len2-up.len_at_least
    c.split_at.ensures.front c.split_at.ensures.back

pub returns-clause-rest : goal.returns-clause-rest
returns-clause-rest c =
    HoldPostings-rest c.args.numbers.now c.split_at.result.1.now c.in-len2-up.len_at_least
    c.split_at.ensures.back c.requires
