-- What are the marks after one accepted call more?
use Rattle.std.specs.Prelude.{ℕ, zero, suc, ◌+◌, ◌<◌, true, false, is_some, length, Option, Some, None, List, [], ◌∷◌, ◌++◌, map}
use Rattle.ss_base.specs.Ids.{set_id}
use Rattle.execution_definitions.specs.declared.serializer.By.{By}
use Rattle.execution_definitions.specs.declared.serializer.By.TheVariants.{Sequence}
use Rattle.execution_definitions.specs.declared.serializer.Serializer.{Serializer}
use Rattle.execution_definitions.specs.Shapes.{Shape, make, make_fixed, begin, delegate, write, get, end, total}
use Rattle.execution_definitions.specs.Sets.{serializer_by, set_under}
use Rattle.partition_check.specs.declared.mark.Mark.{Mark}
use Rattle.partition_check.specs.Marked.{Marked}

-- the mark of a new object
abbrev pub fresh_mark : Option Serializer → Mark
fresh_mark serializer =
    record { serializer = serializer; set = None; is_held = false; shared = false }

-- a mark as an epoch begins or ends
abbrev pub cleared_mark : Mark → Mark
cleared_mark mark = fresh_mark mark.serializer

-- a mark after a delegation to the object: it is held to the set of the operation
abbrev pub with_set : ℕ → ℕ → Mark → Mark
with_set object own mark =
    record mark { set = Some (set_id (set_under mark.serializer object own)); is_held = true }

-- a mark after a write or a get of the object: it is held no more
abbrev pub freed_mark : Mark → Mark
freed_mark mark = record mark { is_held = false }

-- a mark after a delegation that reads the object: if writable, it is read-shared
abbrev pub with_reader : Mark → Mark
with_reader mark = record mark { shared = is_some mark.serializer }

-- the marks with one of them changed
abbrev pub changed_at : ℕ → (Mark → Mark) → List Mark → List Mark
changed_at object change [] = []
changed_at zero change (mark ∷ marks) = change mark ∷ marks
changed_at (suc object) change (mark ∷ marks) = mark ∷ changed_at object change marks

-- the marks with that of an object changed, where there is one
abbrev pub changed_where : Option ℕ → (Mark → Mark) → List Mark → List Mark
changed_where None change marks = marks
changed_where (Some object) change marks = changed_at object change marks

-- the marks after an operation that may read an object
abbrev pub with_reader_at : Option ℕ → List Mark → List Mark
with_reader_at reading marks = changed_where reading with_reader marks

-- an object, where there is one, has a mark
abbrev pub HasMark : Option ℕ → List Mark → Type 0
HasMark None marks = Unit {0}
HasMark (Some object) marks = object < length marks

-- the serializer of a new object: none of a read-only one, for which none is asked
abbrev pub serializer_making : Option By → ℕ → Option Serializer
serializer_making None sequence_objects = None
serializer_making (Some by) sequence_objects = Some (serializer_by by sequence_objects)

-- how many objects by sequence there are with a new object
abbrev pub sequence_objects_making : Option By → ℕ → ℕ
sequence_objects_making (Some Sequence) count = count + 1
sequence_objects_making _ count = count

-- after a call that makes an object
abbrev pub marked_made : Marked → Option By → Marked
marked_made marked by = record marked {
  calls = marked.calls + 1;
  sequence_objects = sequence_objects_making by marked.sequence_objects;
  objects = marked.objects ++ fresh_mark (serializer_making by marked.sequence_objects) ∷ [];
}

-- after a write or a get of an object, or after a total, where there is none
abbrev pub marked_noted : Marked → Option ℕ → Marked
marked_noted marked object = record marked {
  calls = marked.calls + 1;
  objects = changed_where object freed_mark marked.objects;
}

-- the marks after an accepted call
abbrev pub marked_after : Marked → Shape → Marked
marked_after marked (make by) = marked_made marked (Some by)
marked_after marked make_fixed = marked_made marked None
marked_after marked begin = record marked {
  calls = marked.calls + 1;
  epochs = marked.epochs + 1;
  is_open = true;
  objects = map cleared_mark marked.objects;
}
marked_after marked (delegate object own reading) = record marked {
  calls = marked.calls + 1;
  objects = with_reader_at reading (changed_at object (with_set object own) marked.objects);
}
marked_after marked end = record marked {
  calls = marked.calls + 1;
  is_open = false;
  objects = map cleared_mark marked.objects;
}
marked_after marked (write object) = marked_noted marked (Some object)
marked_after marked (get object) = marked_noted marked (Some object)
marked_after marked total = marked_noted marked None
