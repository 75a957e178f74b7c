use Rattle.merge_laws.proofs.BegunLemmas.{begins_where_it_is_begun}
use Rattle.merge_laws.proofs.laws.begun_merges_go_on.Goals as goal

pub returns : goal.returns
returns c = begins_where_it_is_begun
