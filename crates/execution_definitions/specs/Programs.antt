-- What is a whole list of calls answered, up to its first break?
--
-- This speaks of no runtime: whatever takes the calls, a machine too, may be held against it.
use Rattle.std.specs.Prelude.{◌≡◌, ℕ, Option, Some, None, List, map, take}
use Rattle.execution_definitions.specs.declared.refusal.Refusal.{Refusal}
use Rattle.execution_definitions.specs.declared.call.Call.{Call}
use Rattle.execution_definitions.specs.declared.call.Reply.{Reply}
use Rattle.execution_definitions.specs.Soundness.{first_break, first_refusal}
use Rattle.execution_definitions.specs.Meanings.{Meaning, shapes_of}
use Rattle.execution_definitions.specs.Sequential.{sequential_replies}

-- the front of a list before a place, or the whole where there is none
abbrev pub front_before : {A : Type 0} → Option ℕ → List A → List A
front_before None calls = calls
front_before (Some place) calls = take place calls

module _ {C O R : Type 0} (m : Meaning C O R) where
  -- the calls before the first that the partition rule refuses
  abbrev pub sound_front : List (Call C O) → List (Call C O)
  sound_front calls = front_before (first_break (shapes_of m calls)) calls

  -- the calls before the first break were answered so, and this is its refusal, if there is one
  pub record HasAnswered (calls : List (Call C O)) (told : List (Reply C R))
      (stop : Option Refusal) : Type 0 where
    pub replies : map Some told ≡ sequential_replies m (sound_front calls)
    pub stopped : stop ≡ first_refusal (shapes_of m calls)
