-- What marks say of a call is what the rule says of the list that they represent.
use Rattle.std.proofs.Common.{◌≡◌, ℕ, Bool, true, false, Option, Some, None, List, ⊎_elim, refl, sym, ap, ◌∙◌, arith, rules}
use Rattle.std.specs.Prelude.{if◌then◌else◌, is_some}
use Rattle.std.specs.Option.{option_map}
use Rattle.std.proofs.lemmas.Grind.{common_steps}
use Rattle.std.proofs.lemmas.Option.{slice_get_past}
use Rattle.ss_base.specs.Ids.{object_id, set_id}
use Rattle.ss_base.specs.declared.ids.SetId.{SetId}
use Rattle.execution_definitions.specs.declared.refusal.Refusal.{Refusal}
use Rattle.execution_definitions.specs.declared.refusal.Refusal.TheVariants.{UnknownObject}
use Rattle.execution_definitions.specs.declared.serializer.By.{By}
use Rattle.execution_definitions.specs.Shapes.{Shape, delegate, write}
use Rattle.execution_definitions.specs.Sets.{makers, serializer_in, set_of, set_under}
use Rattle.execution_definitions.specs.Epochs.{this_epoch}
use Rattle.execution_definitions.specs.Held.{last_set, held_set}
use Rattle.execution_definitions.specs.Refusals.{breaks, unknown_object, first_of, refuse_if, if_reading, private_object}
use Rattle.execution_definitions.proofs.shapes.HeldLemmas.{IsNoneOr, held_or_last}
use Rattle.partition_check.specs.declared.mark.Mark.{Mark}
use Rattle.partition_check.specs.Marked.{Marked, mark_at, set_marked, held_in}
use Rattle.partition_check.specs.Judged.{judged_make, judged_write, judged_delegate, private_in, private_read, unknown_if, unknown_read}
use Rattle.partition_check.specs.Represents.{Represents, IsMarkOf}
use Rattle.partition_check.specs.Answers.{making}
use Rattle.partition_check.proofs.represents.KnownLemmas.{past_objects, within_objects}

-- the set that a mark holds its object to is the one by the list
held_in-is : (calls : List Shape) (object : ℕ) (mark : Mark) → IsMarkOf calls object mark →
    held_in mark ≡ held_set calls object
held_in-is calls object mark is =
    rw (is.is_held, is.set)
    (by_case (held_set calls object) (last_set calls object)
    (held_or_last (serializer_in calls object) object (this_epoch calls))) where
      by_case : (held last : Option ℕ) → IsNoneOr held last →
          (if is_some held then (option_map (λ (s : SetId). s.0) (option_map set_id last)) else None)
          ≡ held
      by_case None last is = refl
      by_case (Some set) last is = ⊎_elim (λ none. absurd cc) (λ same. ap (λ set. option_map (λ (s : SetId). s.0) (option_map set_id set)) (sym same))
          is

-- rows may differ past a refusal that holds
past_first : (first later same : Option Refusal) → (first ≡ None → later ≡ same) →
    first_of first later ≡ first_of first same
past_first None later same agree = agree refl
past_first (Some refusal) later same agree = refl

-- a call that an open epoch refuses finds none
pub closed_from : (is_open : Bool) (why : Refusal) (rest : Option Refusal) →
    first_of (refuse_if is_open why) rest ≡ None → is_open ≡ false
closed_from true why rest is = absurd cc
closed_from false why rest is = refl

module _ (marked : Marked) (calls : List Shape) (r : Represents marked calls) where
  unknown_past : (object : ℕ) → mark_at marked object ≡ None →
      unknown_object calls object ≡ Some (UnknownObject (object_id object))
  unknown_past object none =
      let past = past_objects marked calls r object none in
      grind (arith, common_steps)

  -- a number with a mark is known
  unknown_within : (object : ℕ) (mark : Mark) → mark_at marked object ≡ Some mark →
      unknown_object calls object ≡ None
  unknown_within object mark some =
      let within = within_objects marked calls r object mark some in
      grind (arith, common_steps)

  -- the row of a write
  pub judged_write-represents : (object : ℕ) (mark : Option Mark) → mark_at marked object ≡ mark →
      judged_write marked object mark ≡ breaks calls (write object)
  judged_write-represents object None none = rw (unknown_past object none) refl
  judged_write-represents object (Some mark) some =
      let is = r.each object mark some in
      rw (unknown_within object mark some, is.serializer, is.shared, r.call_count) (search rules)

  -- a mark says whether a number is known
  pub known_as : (object : ℕ) (mark : Option Mark) → mark_at marked object ≡ mark →
      unknown_if object mark ≡ unknown_object calls object
  known_as object None none = sym (unknown_past object none)
  known_as object (Some mark) some = sym (unknown_within object mark some)

  -- and so for the object read
  read_known : (reading : Option ℕ) →
      if_reading reading (unknown_read marked) ≡ if_reading reading (unknown_object calls)
  read_known None = refl
  read_known (Some read) = known_as read (mark_at marked read) refl

  -- the refusal of a private object, where its number is known
  private_as : (object : ℕ) (mark : Option Mark) → mark_at marked object ≡ mark →
      unknown_object calls object ≡ None →
      private_in object mark ≡ private_object calls object
  private_as object None none known =
      let some : Some (UnknownObject (object_id object)) ≡ None =
      sym (unknown_past object none) ∙ known in absurd cc
  private_as object (Some mark) some known =
      let is = r.each object mark some in
      rw (is.serializer, held_in-is calls object mark is) refl

  -- where the object read is known; where it isn't, no later refusal is asked
  read_private : (reading : Option ℕ) → if_reading reading (unknown_object calls) ≡ None →
      if_reading reading (private_read marked) ≡ if_reading reading (private_object calls)
  read_private None known = refl
  read_private (Some read) known = private_as read (mark_at marked read) refl known

  -- the row of a delegation
  pub judged_delegate-represents : (object own : ℕ) (reading : Option ℕ) (mark : Option Mark) →
      mark_at marked object ≡ mark →
      judged_delegate marked object own reading mark ≡ breaks calls (delegate object own reading)
  judged_delegate-represents object own reading None none = rw (unknown_past object none) refl
  judged_delegate-represents object own reading (Some mark) some =
      let is = r.each object mark some in
      rw (unknown_within object mark some, read_known reading)
      (past_first (if_reading reading (unknown_object calls)) _ _ (λ known.
      rw (
        read_private reading known,
        is.serializer,
        held_in-is calls object mark is,
        is.shared,
        r.is_open,
        r.call_count,
      ) refl))

  -- the set by the marks is the set by the list, also of an unknown number
  pub set_marked-represents : (object own : ℕ) (mark : Option Mark) → mark_at marked object ≡ mark →
      set_marked mark object own ≡ set_of calls object own
  set_marked-represents object own None none =
      let past = past_objects marked calls r object none in
      rw (slice_get_past (makers calls) object past) refl
  set_marked-represents object own (Some mark) some =
      ap (λ s. set_under s object own) (r.each object mark some).serializer

-- making an object

-- the row of the calls that make objects
pub judged_make-represents : (by : Option By) (marked : Marked) (calls : List Shape) →
    Represents marked calls →
    judged_make marked ≡ breaks calls (making by)
judged_make-represents None marked calls r = rw (r.objects, r.call_count) refl
judged_make-represents (Some by) marked calls r = rw (r.objects, r.call_count) refl
