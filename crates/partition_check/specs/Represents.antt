-- When do marks represent a list of calls?
--
-- Where the list is sound, and each mark says of its object what the list says. Then the marks
-- answer every call as the list does, with a bounded amount of work.
use Rattle.std.specs.Prelude.{◌≡◌, ℕ, ◌≤◌, ◌↔◌, ◌⊎◌, Option, Some, None, IsNone, is_some, List, [], ◌∷◌, ◌++◌, length, count_by}
use Rattle.std.specs.Option.{option_map}
use Rattle.ss_base.specs.Ids.{set_id}
use Rattle.ss_base.specs.declared.ids.SetId.{SetId}
use Rattle.execution_definitions.specs.Shapes.{Shape, write, get, total, makes_by_sequence}
use Rattle.execution_definitions.specs.Sets.{object_count, serializer_in}
use Rattle.execution_definitions.specs.Epochs.{isolating, epoch_count}
use Rattle.execution_definitions.specs.Held.{last_set, held_set, is_read_shared}
use Rattle.execution_definitions.specs.Soundness.{IsSound}
use Rattle.partition_check.specs.declared.mark.Mark.{Mark}
use Rattle.partition_check.specs.Marked.{Marked, mark_at}

-- the mark says of the object what the calls say
pub record IsMarkOf (calls : List Shape) (object : ℕ) (mark : Mark) : Type 0 where
  pub serializer : mark.serializer ≡ serializer_in calls object
  pub set : mark.set ≡ option_map set_id (last_set calls object)
  pub is_held : mark.is_held ≡ is_some (held_set calls object)
  pub shared : mark.shared ≡ is_read_shared calls object

-- the marks say of all calls and of each object what the list says
pub record Represents (marked : Marked) (calls : List Shape) : Type 0 where
  pub sound : IsSound calls
  pub call_count : marked.calls ≡ length calls
  pub epochs : marked.epochs ≡ epoch_count calls
  pub is_open : marked.is_open ≡ isolating calls
  pub sequence_objects : marked.sequence_objects ≡ count_by makes_by_sequence calls
  pub objects : length marked.objects ≡ object_count calls
  pub each :
      (object : ℕ) (mark : Mark) → mark_at marked object ≡ Some mark → IsMarkOf calls object mark

-- marks that represented a list represent it with this call at its end
abbrev pub RepresentsWith : Marked → Marked → Shape → Type 0
RepresentsWith old new call =
    (calls : List Shape) → Represents old calls → Represents new (calls ++ call ∷ [])

-- the set of an object's last delegation in this epoch
pub record IsDelegatedTo (calls : List Shape) (object : ℕ) (given : Option SetId) : Type 0 where
  -- none is given exactly where no object has the number, or nothing was delegated to it
  pub none : IsNone given ↔ ((object_count calls ≤ object) ⊎ (last_set calls object ≡ None))
  pub set : given ≡ option_map set_id (last_set calls object)

-- a call is noted with its object: it is a write or a get of that, or a total, which has none
abbrev pub IsNotedWith : Option ℕ → Shape → Type 0
IsNotedWith (Some object) (write o) = o ≡ object
IsNotedWith (Some object) (get o) = o ≡ object
IsNotedWith None total = Unit {0}
IsNotedWith _ _ = ⊥
