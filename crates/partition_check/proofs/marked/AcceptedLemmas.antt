-- What an accepted call needs of the marks.
use Rattle.std.proofs.Common.{◌≡◌, ℕ, ◌^◌, ◌<◌, Bool, true, false, not, Option, Some, None, List, length, refl, sym, ◌∙◌, subst, arith}
use Rattle.std.specs.Prelude.{Result, Ok, Err, OnOk, nat_le, ◌==◌, is_some, is_none, if◌then◌else◌}
use Rattle.std.proofs.lemmas.Bool.Decides.{nat_tests}
use Rattle.std.proofs.lemmas.Option.{slice_get_within, same_Some}
use Rattle.execution_definitions.specs.declared.refusal.Refusal.{Refusal}
use Rattle.execution_definitions.specs.declared.refusal.Refusal.TheVariants.{NotIsolating, TooManyObjects, TooManyCalls}
use Rattle.execution_definitions.specs.declared.serializer.Serializer.{Serializer}
use Rattle.execution_definitions.specs.Shapes.{delegate, write}
use Rattle.execution_definitions.specs.Refusals.{first_of, refuse_if, if_reading, two_sets_if, self_read, private_if, too_many_objects, too_many_calls}
use Rattle.execution_definitions.proofs.shapes.RefusalsLemmas.{first_of-none}
use Rattle.partition_check.specs.declared.mark.Mark.{Mark}
use Rattle.partition_check.specs.Marked.{Marked, mark_at, set_marked, held_in}
use Rattle.partition_check.specs.Judged.{judged, judged_delegate, judged_write, unknown_if, unknown_read, read_only_if, shared_if, private_in, private_read}
use Rattle.partition_check.specs.MarkedAfter.{HasMark}
use Rattle.partition_check.specs.Delegable.{IsFree, IsReadFree, IsReadOther, IsDelegable}
use Rattle.partition_check.specs.Answers.{Answers}

-- what an accepted delegation needs of the marks

-- an object that is read and known has a mark
has_mark : (marked : Marked) (reading : Option ℕ) →
    if_reading reading (unknown_read marked) ≡ None → HasMark reading marked.objects
has_mark marked None known = tt
has_mark marked (Some read) known = by_mark (mark_at marked read) refl known where
  by_mark : (mark : Option Mark) → mark_at marked read ≡ mark → unknown_if read mark ≡ None →
      read < length marked.objects
  by_mark None none known = absurd cc
  by_mark (Some mark) some known = slice_get_within marked.objects read mark some

-- it keeps it where the list keeps its length
pub HasMark-longer : (reading : Option ℕ) (marks more : List Mark) → length more ≡ length marks →
    HasMark reading marks → HasMark reading more
HasMark-longer None marks more same has = tt
HasMark-longer (Some read) marks more same has = omega arith

-- an epoch is open where it isn't refused that none is
pub is_open_then : (opened : Bool) → refuse_if (not opened) NotIsolating ≡ None → opened ≡ true
is_open_then true none = refl
is_open_then false none = absurd cc

-- what isn't refused doesn't hold
refused_not : (test : Bool) (refusal : Refusal) → refuse_if test refusal ≡ None → test ≡ false
refused_not true refusal none = absurd cc
refused_not false refusal none = refl

-- an object that isn't refused as private may be read
free_mark : (object : ℕ) (mark : Mark) → private_in object (Some mark) ≡ None → IsFree mark
free_mark object mark none = λ writable. by_serializer mark.serializer (held_in mark) writable none where
  by_serializer : (s : Option Serializer) (held : Option ℕ) → is_some s ≡ true →
      (if is_none s then None else private_if object held) ≡ None → held ≡ None
  by_serializer None held writable none = absurd cc
  by_serializer (Some s) None writable none = refl
  by_serializer (Some s) (Some set) writable none = absurd cc

free_read : (marked : Marked) (reading : Option ℕ) →
    if_reading reading (private_read marked) ≡ None → IsReadFree reading marked.objects
free_read marked None none = tt
free_read marked (Some read) none = λ mark some.
    free_mark read mark (subst (λ m. private_in read m ≡ None) some none)

other_read : (object : ℕ) (reading : Option ℕ) →
    if_reading reading (self_read object) ≡ None → IsReadOther reading object
other_read object None none = tt
other_read object (Some read) none = refused_not (read == object) _ none

-- there is room for a call where the limit isn't reached
call_room : (calls : ℕ) → too_many_calls calls ≡ None → calls < 2 ^ 60
call_room calls none = by_test (nat_le (2 ^ 60) calls) refl none where
  by_test : (test : Bool) → nat_le (2 ^ 60) calls ≡ test → refuse_if test TooManyCalls ≡ None →
      calls < 2 ^ 60
  by_test true is none = absurd cc
  by_test false is none = grind (arith, nat_tests)

-- these follow from a row that refuses nothing
pub delegable : (marked : Marked) (object own : ℕ) (reading : Option ℕ) →
    judged marked (delegate object own reading) ≡ None →
    IsDelegable marked object reading
delegable marked object own reading accepted = by_mark (mark_at marked object) refl accepted where
  by_mark : (mark : Option Mark) → mark_at marked object ≡ mark →
      judged_delegate marked object own reading mark ≡ None →
      IsDelegable marked object reading
  by_mark None none accepted = absurd cc
  by_mark (Some mark) some accepted =
      let read = first_of-none (if_reading reading (unknown_read marked)) _ accepted in
      let opened = first_of-none (refuse_if (not marked.is_open) NotIsolating) _ read.1 in
      let writable = first_of-none (read_only_if object mark) _ opened.1 in
      let one_set =
      first_of-none (two_sets_if object (held_in mark) (set_marked (Some mark) object own)) _
      writable.1 in
      let unshared = first_of-none (shared_if object mark) _ one_set.1 in
      let other = first_of-none (if_reading reading (self_read object)) _ unshared.1 in
      let free = first_of-none (if_reading reading (private_read marked)) _ other.1 in
      record {
        isolating = is_open_then marked.is_open opened.0;
        known = slice_get_within marked.objects object mark some;
        unshared = λ same is. subst (λ m. m.shared ≡ false)
            (same_Some mark same (sym some ∙ is))
            (refused_not mark.shared _ unshared.0);
        read_known = has_mark marked reading read.0;
        read_other = other_read object reading other.0;
        read_free = free_read marked reading free.0;
        room = call_room marked.calls free.1;
      }

-- there is room where neither limit is reached
pub room : (objects calls : ℕ) → first_of (too_many_objects objects) (too_many_calls calls) ≡ None →
    (objects < 1048576) × (calls < 2 ^ 60)
room objects calls none =
    by_tests (nat_le 1048576 objects) (nat_le (2 ^ 60) calls) refl refl none where
      by_tests : (a b : Bool) → nat_le 1048576 objects ≡ a → nat_le (2 ^ 60) calls ≡ b →
          first_of (refuse_if a TooManyObjects) (refuse_if b TooManyCalls) ≡ None →
          (objects < 1048576) × (calls < 2 ^ 60)
      by_tests true b many more none = absurd cc
      by_tests false true few more none = absurd cc
      by_tests false false few less none = (grind (arith, nat_tests), grind (arith, nat_tests))

-- a write that isn't refused is of an object
pub write_known : (marked : Marked) (object : ℕ) → judged marked (write object) ≡ None →
    object < length marked.objects
write_known marked object accepted = by_mark (mark_at marked object) refl accepted where
  by_mark : (mark : Option Mark) → mark_at marked object ≡ mark →
      judged_write marked object mark ≡ None → object < length marked.objects
  by_mark None none accepted = absurd cc
  by_mark (Some mark) some accepted = slice_get_within marked.objects object mark some

-- so an answer that isn't a refusal tells that it is
pub known_when_ok : {T : Type 0} (result : Result T Refusal) (cause : Option Refusal)
    (known : Type 0) → Answers result cause → (cause ≡ None → known) → OnOk result known
known_when_ok (Ok value) cause known answers accepted = accepted answers
known_when_ok (Err refusal) cause known answers accepted = tt
