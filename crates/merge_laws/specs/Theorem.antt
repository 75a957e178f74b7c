-- Does it matter in which legal order the calls of a program take effect?
--
-- It doesn't: every legal merge of a sound list of calls leaves the values and the total that the
-- program leaves without delegates.
use Rattle.std.specs.Prelude.{◌≡◌, ℕ, List}
use Rattle.execution_definitions.specs.declared.call.Call.{Call}
use Rattle.execution_definitions.specs.Soundness.{IsSound}
use Rattle.execution_definitions.specs.Meanings.{Meaning, shapes_of}
use Rattle.execution_definitions.specs.Sequential.{sequential_state}
use Rattle.interleavings.specs.Merges.{IsLegal, replay_list}

module _ {C O R : Type 0} (m : Meaning C O R) where
  -- every legal merge, for any number of lanes, of every sound list
  abbrev pub MergesLeaveTheSame : Type 0
  MergesLeaveTheSame =
      (n : ℕ) (calls : List (Call C O)) (order : List ℕ) → IsSound (shapes_of m calls) →
      IsLegal n (shapes_of m calls) order → replay_list m calls order ≡ sequential_state m calls
