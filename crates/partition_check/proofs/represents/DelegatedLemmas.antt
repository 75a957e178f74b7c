-- The set of an object's last delegation, by its mark.
use Rattle.std.proofs.Common.{◌≡◌, ℕ, Option, Some, None, List, refl, sym, ap, arith, ⊎_elim, inl, inr, ◌↔◌}
use Rattle.std.specs.Prelude.{IsNone, option_and_then}
use Rattle.std.specs.Option.{option_map}
use Rattle.ss_base.specs.Ids.{set_id}
use Rattle.execution_definitions.specs.Shapes.{Shape}
use Rattle.execution_definitions.specs.Sets.{serializer_in}
use Rattle.execution_definitions.specs.Held.{last_set}
use Rattle.execution_definitions.proofs.shapes.RefusalsLemmas.{last_set-past}
use Rattle.partition_check.specs.declared.mark.Mark.{Mark}
use Rattle.partition_check.specs.Marked.{Marked, mark_at}
use Rattle.partition_check.specs.Represents.{Represents, IsDelegatedTo}
use Rattle.partition_check.proofs.represents.KnownLemmas.{past_objects, within_objects}

-- the set of no number is none
none_of_none : (last : Option ℕ) → IsNone (option_map set_id last) ↔ (last ≡ None)
none_of_none None = (λ none. refl, λ none. refl)
none_of_none (Some set) = (λ none. absurd cc, λ none. absurd cc)

-- the set in an object's mark is that of the list
pub delegated_to-represents : (marked : Marked) (calls : List Shape) → Represents marked calls →
    (object : ℕ) (mark : Option Mark) → mark_at marked object ≡ mark →
    IsDelegatedTo calls object (option_and_then (λ m. m.set) mark)
delegated_to-represents marked calls r object None none =
    let past = past_objects marked calls r object none in
    record {
      none = (λ is. inl past, λ either. refl);
      set = sym (ap (option_map set_id)
          (last_set-past calls r.sound object past (serializer_in calls object)));
    }
delegated_to-represents marked calls r object (Some mark) some =
    let is = r.each object mark some in
    let known = within_objects marked calls r object mark some in
    let empty = none_of_none (last_set calls object) in
    record {
      none = rw is.set (
        λ none. inr (empty.0 none),
        λ either. ⊎_elim (λ past. absurd (omega arith)) (λ e. empty.1 e) either,
      );
      set = is.set;
    }
