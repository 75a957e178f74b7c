-- What does a runtime make of a whole list of calls?
use Rattle.std.specs.Prelude.{Option, List}
use Rattle.execution_definitions.specs.declared.refusal.Refusal.{Refusal}
use Rattle.execution_definitions.specs.declared.call.Call.{Call}
use Rattle.execution_definitions.specs.declared.call.Reply.{Reply}
use Rattle.execution_definitions.specs.Meanings.{Meaning}
use Rattle.execution_definitions.specs.Programs.{sound_front, HasAnswered}
use Rattle.delegation.specs.Runtimes.{RuntimeView, IsAfter}

module _ {C O R : Type 0} (m : Meaning C O R) where
  -- it took the calls before the first break, and answered them as the program does
  pub record HasRun (new : RuntimeView C R) (calls : List (Call C O)) (told : List (Reply C R))
      (stop : Option Refusal) : Type 0 where
    pub after : IsAfter m new (sound_front m calls)
    pub answered : HasAnswered m calls told stop
