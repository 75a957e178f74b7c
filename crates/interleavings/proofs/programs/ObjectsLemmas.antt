-- There is a value for each object.
use Rattle.std.proofs.Common.{◌≤◌, None, List, [], ◌∷◌, ◌++◌, length, refl, arith, length-append}
use Rattle.execution_definitions.specs.declared.call.Call.{Call}
use Rattle.execution_definitions.specs.declared.call.Call.TheVariants.{Make, MakeFixed, Begin, Delegate, Write, Get, End, Total}
use Rattle.execution_definitions.specs.Shapes as shape
use Rattle.execution_definitions.specs.Sets.{object_count}
use Rattle.execution_definitions.specs.Meanings.{Meaning, number_given, shape_of, shapes_of}
use Rattle.execution_definitions.specs.Sequential.{State, value_read, state_after}
use Rattle.execution_definitions.proofs.shapes.SetsLemmas.{object_count-same, object_count-made}
use Rattle.interleavings.proofs.programs.OperatedLemmas.{operated-length}

module _ {C O R : Type 0} (m : Meaning C O R) where
  -- objects aren't lost
  pub objects_grow : (state : State C R) (call : Call C O) →
      length state.values ≤ length (state_after m state call).values
  objects_grow state (Make value by) =
      let e = length-append state.values (value ∷ []) in omega arith
  objects_grow state (MakeFixed value) =
      let e = length-append state.values (value ∷ []) in omega arith
  objects_grow state Begin = omega arith
  objects_grow state (Delegate o op r) =
      let e = operated-length m state o.0 op (value_read state.values r) in omega arith
  objects_grow state (Write o op) =
      let e = operated-length m state o.0 op None in omega arith
  objects_grow state (Get o) = omega arith
  objects_grow state End = omega arith
  objects_grow state Total = omega arith

  -- one call more keeps a value for each object
  pub objects_counted : (before : List (Call C O)) (call : Call C O) (state : State C R) →
      object_count (shapes_of m before) ≤ length state.values →
      object_count (shapes_of m before ++ shape_of m.own call ∷ [])
      ≤ length (state_after m state call).values
  objects_counted before (Make value by) state most =
      let e = object_count-made (shapes_of m before) (shape.make by) refl in
      let f = length-append state.values (value ∷ []) in omega arith
  objects_counted before (MakeFixed value) state most =
      let e = object_count-made (shapes_of m before) shape.make_fixed refl in
      let f = length-append state.values (value ∷ []) in omega arith
  objects_counted before Begin state most =
      let e = object_count-same (shapes_of m before) shape.begin refl in omega arith
  objects_counted before (Delegate o op r) state most =
      let e = object_count-same (shapes_of m before) (shape.delegate o.0 (m.own op) (number_given r)) refl in
      let f = objects_grow state (Delegate o op r) in omega arith
  objects_counted before (Write o op) state most =
      let e = object_count-same (shapes_of m before) (shape.write o.0) refl in
      let f = objects_grow state (Write o op) in omega arith
  objects_counted before (Get o) state most =
      let e = object_count-same (shapes_of m before) (shape.get o.0) refl in omega arith
  objects_counted before End state most =
      let e = object_count-same (shapes_of m before) shape.end refl in omega arith
  objects_counted before Total state most =
      let e = object_count-same (shapes_of m before) shape.total refl in omega arith
