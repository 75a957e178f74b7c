-- What is a call, where its values and operations don't matter?
--
-- The partition rule, epochs and sets look at the shape of a call alone. Objects, sets and the
-- numbers that operations name are plain numbers here.
use Rattle.std.specs.Prelude.{ℕ, Bool, true, false, ◌==◌, Option, Some}
use Rattle.execution_definitions.specs.declared.serializer.By.{By}
use Rattle.execution_definitions.specs.declared.serializer.By.TheVariants.{Sequence}

-- a call without its values: the eight calls of the program context
pub data Shape : Type 0 where
  -- makes a writable object
  make : By → Shape
  -- makes a read-only object
  make_fixed : Shape
  -- begins an epoch of isolation
  begin : Shape
  -- to an object, an operation that names this number, reading one other object or none
  delegate : ℕ → ℕ → Option ℕ → Shape
  -- the program context runs an operation on an object
  write : ℕ → Shape
  -- the program context looks at an object
  get : ℕ → Shape
  -- ends the epoch of isolation
  end : Shape
  -- the program context looks at the total
  total : Shape

-- the call begins an epoch
abbrev pub is_begin : Shape → Bool
is_begin begin = true
is_begin _ = false

-- the call ends an epoch
abbrev pub is_end : Shape → Bool
is_end end = true
is_end _ = false

-- the call makes an object
abbrev pub makes_object : Shape → Bool
makes_object (make by) = true
makes_object make_fixed = true
makes_object _ = false

-- the call makes an object by sequence
abbrev pub makes_by_sequence : Shape → Bool
makes_by_sequence (make Sequence) = true
makes_by_sequence _ = false

-- the call delegates an operation that reads this object
abbrev pub reads : ℕ → Shape → Bool
reads object (delegate _ _ (Some read)) = read == object
reads object _ = false
