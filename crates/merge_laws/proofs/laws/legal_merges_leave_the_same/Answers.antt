use Rattle.merge_laws.proofs.MergesLemmas.{merges_leave_the_same}
use Rattle.merge_laws.proofs.laws.legal_merges_leave_the_same.Goals as goal

pub returns : goal.returns
returns g c = merges_leave_the_same g.C.Class.meaning c.joins_in_any_order.ensures
