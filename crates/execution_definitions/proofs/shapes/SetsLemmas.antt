-- The objects' serializers, one call more at a time.
use Rattle.std.proofs.Common.{◌≡◌, ℕ, ◌+◌, ◌<◌, ◌≤◌, Bool, true, false, cond, Some, List, [], ◌∷◌, ◌++◌, length, fold, add-zero, refl, ap, arith, append-nil, length-append}
use Rattle.std.specs.Prelude.{count_by, filter}
use Rattle.std.proofs.Math.Seq.{take-append_seam}
use Rattle.std.proofs.lemmas.List.{take-append-le}
use Rattle.std.proofs.lemmas.List.Elements.{filter-append}
use Rattle.std.proofs.lemmas.List.Sums.{length-filter}
use Rattle.execution_definitions.specs.Shapes.{Shape, make, make_fixed, begin, delegate, write, get, end, total, makes_object, makes_by_sequence}
use Rattle.execution_definitions.specs.Sets.{makers, object_count, serializer_made, serializer_in}
use Rattle.execution_definitions.proofs.lists.ListLemmas.{slice_get-front, slice_get-append_seam}
use Rattle.execution_definitions.proofs.shapes.EpochsLemmas.{count_by-push}

pub makers-push : (calls : List Shape) (call : Shape) →
    makers (calls ++ call ∷ []) ≡ makers calls ++ filter makes_object (call ∷ [])
makers-push calls call = filter-append makes_object calls (call ∷ [])

-- a call that makes nothing
pub makers-same : (calls : List Shape) (call : Shape) → makes_object call ≡ false →
    makers (calls ++ call ∷ []) ≡ makers calls
makers-same calls call none = rw (makers-push calls call, none, append-nil) refl

-- a call that makes an object
pub makers-made : (calls : List Shape) (call : Shape) → makes_object call ≡ true →
    makers (calls ++ call ∷ []) ≡ makers calls ++ call ∷ []
makers-made calls call made = rw (makers-push calls call, made) refl

-- a call that makes nothing leaves the count
pub object_count-same : (calls : List Shape) (call : Shape) → makes_object call ≡ false →
    object_count (calls ++ call ∷ []) ≡ object_count calls
object_count-same calls call none = ap length (makers-same calls call none)

-- a call that makes an object adds one
pub object_count-made : (calls : List Shape) (call : Shape) → makes_object call ≡ true →
    object_count (calls ++ call ∷ []) ≡ object_count calls + 1
object_count-made calls call made = rw (makers-made calls call made, length-append) refl

-- objects are counted by their makers
object_count_by : (calls : List Shape) → object_count calls ≡ count_by makes_object calls
object_count_by calls = length-filter makes_object calls

-- objects aren't lost
pub object_count_grows : (calls : List Shape) (call : Shape) →
    object_count calls ≤ object_count (calls ++ call ∷ [])
object_count_grows calls call =
    let before = object_count_by calls in
    let after = object_count_by (calls ++ call ∷ []) in
    let more = count_by-push makes_object calls call in
    omega arith

-- each object by sequence is an object
sequence_makes : (call : Shape) → makes_object call ≡ false → makes_by_sequence call ≡ false
sequence_makes (make by) none = absurd cc
sequence_makes make_fixed none = absurd cc
sequence_makes begin none = refl
sequence_makes (delegate object own reading) none = refl
sequence_makes (write object) none = refl
sequence_makes (get object) none = refl
sequence_makes end none = refl
sequence_makes total none = refl

-- a count of objects by sequence, with one call more
abbrev counted : ℕ → Shape → ℕ
counted count call = count + cond (makes_by_sequence call) 1 0

made_or_not : (call : Shape) (calls : List Shape) (count : ℕ) (made : Bool) →
    makes_object call ≡ made →
    ((n : ℕ) → fold counted n (makers calls) ≡ fold counted n calls) →
    fold counted count (cond made (call ∷ makers calls) (makers calls))
    ≡ fold counted (counted count call) calls
made_or_not call calls count true made rest = rest (counted count call)
made_or_not call calls count false none rest = rw (sequence_makes call none, add-zero) (rest count)

-- other calls than makers count nothing
fold-makers : (calls : List Shape) (count : ℕ) →
    fold counted count (makers calls) ≡ fold counted count calls
fold-makers [] count = refl
fold-makers (call ∷ calls) count =
    made_or_not call calls count (makes_object call) refl (λ n. fold-makers calls n)

-- so the objects by sequence can be counted among the makers
count_by-makers : (calls : List Shape) →
    count_by makes_by_sequence (makers calls) ≡ count_by makes_by_sequence calls
count_by-makers calls = fold-makers calls 0

-- an object keeps its serializer
pub serializer_in-kept : (calls : List Shape) (call : Shape) (object : ℕ) →
    object < object_count calls →
    serializer_in (calls ++ call ∷ []) object ≡ serializer_in calls object
serializer_in-kept calls call object known =
    let within : object ≤ length (makers calls) = omega arith in
    rw (
      makers-push calls call,
      slice_get-front (makers calls) (filter makes_object (call ∷ [])) object known,
      take-append-le object (makers calls) (filter makes_object (call ∷ [])) within,
    ) refl

-- the serializer of the object that a call makes
pub serializer_in-made : (calls : List Shape) (call : Shape) → makes_object call ≡ true →
    serializer_in (calls ++ call ∷ []) (object_count calls)
    ≡ serializer_made (Some call) (count_by makes_by_sequence calls)
serializer_in-made calls call made =
    rw (
      makers-made calls call made,
      slice_get-append_seam (makers calls) call [],
      take-append_seam (makers calls) (call ∷ []),
      count_by-makers calls,
    ) refl
