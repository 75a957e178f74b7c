use Rattle.report.proofs.LanesLemmas.{trace_text-lanes}
use Rattle.report.proofs.laws.logs_have_the_programs_trace.Goals as goal

pub returns : goal.returns
returns c = trace_text-lanes
