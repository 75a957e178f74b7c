-- How are runs printed one after the other, where those of a set in an epoch stand together?
--
-- What stands before a run tells whether it belongs to the line that was begun last.
use Rattle.std.specs.Prelude.{ℕ, Bool, false, if◌then◌else◌, Some, None}
use Rattle.std.specs.Prelude.{List, [], ◌∷◌, ◌++◌, codes}
use Rattle.std.specs.declared.option.Option.{Option}
use Rattle.ss_base.specs.declared.ids.Run.{Run}
use Rattle.execution_definitions.specs.Runs.{place_of}
use Rattle.report.specs.Traces.{EpochSet, epoch_set, set_head, call_text}
use Rattle.report.specs.TraceLaws.{is_same}

-- the line that was begun last is that of this epoch and set
abbrev pub is_begun : Option EpochSet → EpochSet → Bool
is_begun None at = false
is_begun (Some last) at = is_same at last

-- what ends the line that was begun last, if one was
abbrev pub line_end : Option EpochSet → List ℕ
line_end None = []
line_end (Some last) = codes "\n"

-- what stands before a run of this epoch and set
abbrev pub run_lead : Option EpochSet → EpochSet → List ℕ
run_lead last at = if is_begun last at then [] else line_end last ++ set_head at

-- runs behind the line that was begun last
abbrev pub runs_text : Option EpochSet → List Run → List ℕ
runs_text last [] = line_end last
runs_text last (run ∷ rest) =
    run_lead last (epoch_set run) ++ call_text (place_of run)
    ++ runs_text (Some (epoch_set run)) rest
