use Rattle.ss_top.specs.Texts.{names_text, all_documents_text, stop_bytes_text}
use Rattle.ss_top.specs.Texts.{script_bytes_text, script_lines_text, schedule_bytes_text}
use Rattle.ss_top.proofs.tell.tell_limit.Goals as goal

pub returns-in-Names : goal.returns-in-Names
unfolding names_text
returns-in-Names g c = rw c.in-Names.is c.tell_number.ensures

pub returns-in-AllDocuments : goal.returns-in-AllDocuments
unfolding all_documents_text
returns-in-AllDocuments g c =
    rw (c.in-AllDocuments.is, ← c.from.ensures) c.tell_number-in-AllDocuments.ensures

pub returns-in-StopBytes : goal.returns-in-StopBytes
unfolding stop_bytes_text
returns-in-StopBytes g c = rw c.in-StopBytes.is c.tell.ensures

pub returns-in-ScriptBytes : goal.returns-in-ScriptBytes
unfolding script_bytes_text
returns-in-ScriptBytes g c = rw c.in-ScriptBytes.is c.tell-in-ScriptBytes.ensures

pub returns-in-ScriptLines : goal.returns-in-ScriptLines
unfolding script_lines_text
returns-in-ScriptLines g c = rw c.in-ScriptLines.is c.tell-in-ScriptLines.ensures

pub returns-in-ScheduleBytes : goal.returns-in-ScheduleBytes
unfolding schedule_bytes_text
returns-in-ScheduleBytes g c = rw c.in-ScheduleBytes.is c.tell-in-ScheduleBytes.ensures
