-- What do the operations of a program mean, and what is the shape of a call on their values?
--
-- Epochs, sets and refusals look at the shape of a call alone, which leaves values and operations
-- out.
use Rattle.std.specs.Prelude.{ℕ, Option, List, map}
use Rattle.std.specs.Option.{option_map}
use Rattle.ss_base.specs.declared.ids.ObjectId.{ObjectId}
use Rattle.execution_definitions.specs.Shapes as shape
use Rattle.execution_definitions.specs.declared.call.Call.{Call}
use Rattle.execution_definitions.specs.declared.call.Call.TheVariants.{Make, MakeFixed, Begin, Delegate, Write, Get, End, Total}

-- values of type C, operations of type O, and totals of type R that they contribute to
pub record Meaning (C O R : Type 0) : Type 0 where
  -- of a value, an operation and the value read: the new value, and the contribution
  pub step : C → O → Option C → C × R
  -- the number of the set that an operation names
  pub own : O → ℕ
  -- the total before the first contribution
  pub unit : R
  -- the total with one contribution more
  pub join : R → R → R

-- the number of an object, where one is given
abbrev pub number_given : Option ObjectId → Option ℕ
number_given object = option_map (λ o. o.0) object

module _ {C O : Type 0} where
  -- the shape of a call, where operations name their sets by `own`
  abbrev pub shape_of : (O → ℕ) → Call C O → shape.Shape
  shape_of own (Make value by) = shape.make by
  shape_of own (MakeFixed value) = shape.make_fixed
  shape_of own Begin = shape.begin
  shape_of own (Delegate object op reading) =
      shape.delegate object.0 (own op) (number_given reading)
  shape_of own (Write object op) = shape.write object.0
  shape_of own (Get object) = shape.get object.0
  shape_of own End = shape.end
  shape_of own Total = shape.total

  -- the shapes of calls
  abbrev pub shapes_of : {R : Type 0} → Meaning C O R → List (Call C O) → List shape.Shape
  shapes_of m calls = map (shape_of m.own) calls
