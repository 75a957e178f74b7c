-- Marks that represent a list represent it with one accepted call more.
use Rattle.std.proofs.Common.{◌≡◌, ℕ, zero, suc, ◌+◌, Bool, true, false, Option, Some, None, List, [], ◌∷◌, ◌++◌, length, map, refl, sym, ap, ◌∙◌, subst, arith, length-append, add-zero}
use Rattle.std.specs.Prelude.{slice_get, count_by}
use Rattle.std.proofs.lemmas.List.{length-map}
use Rattle.std.proofs.lemmas.Option.{slice_get-map, same_Some}
use Rattle.execution_definitions.specs.declared.serializer.By.{By}
use Rattle.execution_definitions.specs.declared.serializer.By.TheVariants.{Object, Sequence, Own}
use Rattle.execution_definitions.specs.Shapes.{Shape, make, make_fixed, begin, end, is_begin, makes_object, makes_by_sequence}
use Rattle.execution_definitions.specs.Sets.{object_count, serializer_in, serializer_by}
use Rattle.execution_definitions.specs.Epochs.{this_epoch}
use Rattle.execution_definitions.specs.Held.{frees}
use Rattle.execution_definitions.specs.Refusals.{breaks}
use Rattle.execution_definitions.proofs.shapes.SoundnessLemmas.{IsSound-push}
use Rattle.execution_definitions.proofs.shapes.EpochsLemmas.{IsWithin, count_by-push, isolating-within, isolating-begin, this_epoch-begin, isolating-end, this_epoch-end}
use Rattle.execution_definitions.proofs.shapes.SetsLemmas.{object_count-same, object_count-made, serializer_in-made}
use Rattle.partition_check.specs.declared.mark.Mark.{Mark}
use Rattle.partition_check.specs.Marked.{Marked}
use Rattle.partition_check.specs.MarkedAfter.{cleared_mark, sequence_objects_making, marked_made, marked_after}
use Rattle.partition_check.specs.Represents.{Represents, IsMarkOf}
use Rattle.partition_check.specs.Answers.{making}
use Rattle.partition_check.proofs.represents.MarkLemmas.{IsApart, IsMarkOf-apart, IsMarkOf-cleared, IsMarkOf-fresh}
use Rattle.partition_check.proofs.represents.KnownLemmas.{within_objects}
use Rattle.partition_check.proofs.marked.ChangedLemmas.{mapped_mark}

-- a list of marks that are right for these calls
abbrev pub AllRight : List Mark → List Shape → Type 0
AllRight marks calls = (object : ℕ) (mark : Mark) → slice_get marks object ≡ Some mark →
    IsMarkOf calls object mark

-- a call that a count leaves out
pub count_by-none : (test : Shape → Bool) (calls : List Shape) (call : Shape) (count : ℕ) →
    test call ≡ false →
    count ≡ count_by test calls → count ≡ count_by test (calls ++ call ∷ [])
count_by-none test calls call count none same =
    rw (count_by-push test calls call, none, add-zero) same

-- a call that it takes in
count_by-one : (test : Shape → Bool) (calls : List Shape) (call : Shape) (count : ℕ) →
    test call ≡ true →
    count ≡ count_by test calls → count + 1 ≡ count_by test (calls ++ call ∷ [])
count_by-one test calls call count one same = rw (count_by-push test calls call, one, same) refl

-- each accepted call counts
pub call_count-push : (marked : Marked) (calls : List Shape) → Represents marked calls →
    (call : Shape) →
    marked.calls + 1 ≡ length (calls ++ call ∷ [])
call_count-push marked calls r call = rw (length-append, r.call_count) refl

-- where an epoch begins or ends, all marks are cleared
all_cleared : (marked : Marked) (calls : List Shape) (call : Shape) → Represents marked calls →
    this_epoch (calls ++ call ∷ []) ≡ [] →
    AllRight (map cleared_mark marked.objects) (calls ++ call ∷ [])
all_cleared marked calls call r empty object mark some =
    mapped_mark cleared_mark (slice_get marked.objects object) mark
    (sym (slice_get-map cleared_mark marked.objects object) ∙ some)
    (λ before was is. subst (λ m. IsMarkOf (calls ++ call ∷ []) object m) is
    (IsMarkOf-cleared calls call object before
    (within_objects marked calls r object before was) empty (r.each object before was)))

-- an accepted begin
pub begin-represents : (marked : Marked) (calls : List Shape) → Represents marked calls →
    breaks calls begin ≡ None →
    Represents (marked_after marked begin) (calls ++ begin ∷ [])
begin-represents marked calls r ok = record {
  sound = IsSound-push calls begin r.sound ok;
  call_count = call_count-push marked calls r begin;
  epochs = count_by-one is_begin calls begin marked.epochs refl r.epochs;
  is_open = sym (isolating-begin calls);
  sequence_objects = count_by-none makes_by_sequence calls begin marked.sequence_objects refl
      r.sequence_objects;
  objects = length-map marked.objects cleared_mark ∙ r.objects
      ∙ sym (object_count-same calls begin refl);
  each = all_cleared marked calls begin r (this_epoch-begin calls);
}

-- an accepted end
pub end-represents : (marked : Marked) (calls : List Shape) → Represents marked calls →
    breaks calls end ≡ None →
    Represents (marked_after marked end) (calls ++ end ∷ [])
end-represents marked calls r ok = record {
  sound = IsSound-push calls end r.sound ok;
  call_count = call_count-push marked calls r end;
  epochs = count_by-none is_begin calls end marked.epochs refl r.epochs;
  is_open = sym (isolating-end calls);
  sequence_objects = count_by-none makes_by_sequence calls end marked.sequence_objects refl
      r.sequence_objects;
  objects = length-map marked.objects cleared_mark ∙ r.objects
      ∙ sym (object_count-same calls end refl);
  each = all_cleared marked calls end r (this_epoch-end calls);
}

-- a delegation, a write, a get or a total

-- the call makes nothing, and leaves the epoch
pub record IsPlain (call : Shape) : Type 0 where
  pub within : IsWithin call
  pub no_object : makes_object call ≡ false
  pub no_sequence : makes_by_sequence call ≡ false

-- an accepted one, where each mark is right after it
pub plain-represents : (marked : Marked) (calls : List Shape) (call : Shape)
    (objects : List Mark) → IsPlain call → Represents marked calls → breaks calls call ≡ None →
    length objects ≡ length marked.objects → AllRight objects (calls ++ call ∷ []) →
    Represents (record marked { calls = marked.calls + 1; objects = objects })
    (calls ++ call ∷ [])
plain-represents marked calls call objects plain r ok as_many right = record {
  sound = IsSound-push calls call r.sound ok;
  call_count = call_count-push marked calls r call;
  epochs = count_by-none is_begin calls call marked.epochs plain.within.no_begin r.epochs;
  is_open = r.is_open ∙ sym (isolating-within calls call plain.within);
  sequence_objects = count_by-none makes_by_sequence calls call marked.sequence_objects
      plain.no_sequence r.sequence_objects;
  objects = as_many ∙ r.objects ∙ sym (object_count-same calls call plain.no_object);
  each = right;
}

-- a call that makes an object

-- a mark of a longer list is an old one, or the new one at the end
pushed_mark : {A : Type 0} (marks : List Mark) (new : Mark) (object : ℕ) (mark : Mark) →
    slice_get (marks ++ new ∷ []) object ≡ Some mark →
    (slice_get marks object ≡ Some mark → A) → (object ≡ length marks → new ≡ mark → A) → A
pushed_mark [] new zero mark some old fresh_ = fresh_ refl (same_Some _ _ some)
pushed_mark [] new (suc object) mark some old fresh_ = absurd cc
pushed_mark (first ∷ marks) new zero mark some old fresh_ = old some
pushed_mark (first ∷ marks) new (suc object) mark some old fresh_ =
    pushed_mark marks new object mark some old (λ same is. fresh_ (omega arith) is)

-- the call neither names an object nor frees one, and leaves the epoch
pub record IsApartAll (call : Shape) : Type 0 where
  pub within : IsWithin call
  pub apart : (object : ℕ) → IsApart call object
  pub unfreed : (object : ℕ) → frees object call ≡ false

-- so all marks are right where the new one is
all_pushed : (marked : Marked) (calls : List Shape) (call : Shape) (new : Mark) →
    Represents marked calls → IsApartAll call → IsMarkOf (calls ++ call ∷ []) (object_count calls) new →
    AllRight (marked.objects ++ new ∷ []) (calls ++ call ∷ [])
all_pushed marked calls call new r all right object mark some =
    pushed_mark marked.objects new object mark some
    (λ old. IsMarkOf-apart calls call object all.within (all.apart object) mark
    (within_objects marked calls r object mark old) (r.each object mark old)
    (all.unfreed object))
    (λ at is. subst (λ m. IsMarkOf (calls ++ call ∷ []) object m) is
    (subst (λ n. IsMarkOf (calls ++ call ∷ []) n new) (sym (at ∙ r.objects)) right))

-- the count of objects by sequence stays right
sequence_after : (by : By) (calls : List Shape) (count : ℕ) →
    count ≡ count_by makes_by_sequence calls →
    sequence_objects_making (Some by) count ≡ count_by makes_by_sequence (calls ++ make by ∷ [])
sequence_after Object calls count same =
    count_by-none makes_by_sequence calls (make Object) count refl same
sequence_after Sequence calls count same =
    count_by-one makes_by_sequence calls (make Sequence) count refl same
sequence_after Own calls count same =
    count_by-none makes_by_sequence calls (make Own) count refl same

-- an accepted make of a writable object
pub make-represents : (by : By) (marked : Marked) (calls : List Shape) → Represents marked calls →
    breaks calls (make by) ≡ None →
    Represents (marked_after marked (make by)) (calls ++ make by ∷ [])
make-represents by marked calls r ok =
    let all : IsApartAll (make by) = record {
      within = record { no_begin = refl; no_end = refl };
      apart = λ object. record { no_set = λ s earlier. refl; no_read = refl };
      unfreed = λ object. refl;
    } in
    let made : Some (serializer_by by marked.sequence_objects)
    ≡ serializer_in (calls ++ make by ∷ []) (object_count calls) =
    ap (λ n. Some (serializer_by by n)) r.sequence_objects
    ∙ sym (serializer_in-made calls (make by) refl) in
    record {
      sound = IsSound-push calls (make by) r.sound ok;
      call_count = call_count-push marked calls r (make by);
      epochs = count_by-none is_begin calls (make by) marked.epochs refl r.epochs;
      is_open = r.is_open ∙ sym (isolating-within calls (make by) all.within);
      sequence_objects = sequence_after by calls marked.sequence_objects r.sequence_objects;
      objects = rw (length-append, r.objects, object_count-made calls (make by) refl) refl;
      each = all_pushed marked calls (make by) _ r all
          (IsMarkOf-fresh calls (make by) r.sound refl all.within all.apart all.unfreed _ made);
    }

-- an accepted make of a read-only object
pub make_fixed-represents : (marked : Marked) (calls : List Shape) → Represents marked calls →
    breaks calls make_fixed ≡ None →
    Represents (marked_after marked make_fixed) (calls ++ make_fixed ∷ [])
make_fixed-represents marked calls r ok =
    let all : IsApartAll make_fixed = record {
      within = record { no_begin = refl; no_end = refl };
      apart = λ object. record { no_set = λ s earlier. refl; no_read = refl };
      unfreed = λ object. refl;
    } in
    let made : None ≡ serializer_in (calls ++ make_fixed ∷ []) (object_count calls) =
    sym (serializer_in-made calls make_fixed refl) in
    record {
      sound = IsSound-push calls make_fixed r.sound ok;
      call_count = call_count-push marked calls r make_fixed;
      epochs = count_by-none is_begin calls make_fixed marked.epochs refl r.epochs;
      is_open = r.is_open ∙ sym (isolating-within calls make_fixed all.within);
      sequence_objects = count_by-none makes_by_sequence calls make_fixed marked.sequence_objects
          refl r.sequence_objects;
      objects = rw (length-append, r.objects, object_count-made calls make_fixed refl) refl;
      each = all_pushed marked calls make_fixed _ r all
          (IsMarkOf-fresh calls make_fixed r.sound refl all.within all.apart all.unfreed _ made);
    }

-- the same of the calls that make objects, by what is asked for

pub made-represents : (by : Option By) (marked : Marked) (calls : List Shape) →
    Represents marked calls → breaks calls (making by) ≡ None →
    Represents (marked_made marked by) (calls ++ making by ∷ [])
made-represents None marked calls r ok = make_fixed-represents marked calls r ok
made-represents (Some by) marked calls r ok = make-represents by marked calls r ok

pub marked_after-making : (by : Option By) (marked : Marked) →
    marked_after marked (making by) ≡ marked_made marked by
marked_after-making None marked = refl
marked_after-making (Some by) marked = refl
