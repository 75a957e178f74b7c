-- Marks of which one or all were changed.
use Rattle.std.proofs.Common.{◌≡◌, ℕ, zero, suc, Bool, true, false, Option, Some, None, List, [], ◌∷◌, length, refl, sym, ◌∙◌, subst, arith}
use Rattle.std.specs.Prelude.{slice_get, ◌==◌}
use Rattle.std.specs.Option.{option_map}
use Rattle.std.proofs.lemmas.Bool.{eqb-true}
use Rattle.std.proofs.lemmas.Bool.Decides.{nat_tests}
use Rattle.std.proofs.lemmas.Option.{same_Some}
use Rattle.partition_check.specs.declared.mark.Mark.{Mark}
use Rattle.partition_check.specs.MarkedAfter.{changed_at, changed_where}
use Rattle.partition_check.specs.Delegable.{IsReadFree, IsReadOther}

-- the old mark behind a mapped one
pub mapped_mark : {A : Type 0} (change : Mark → Mark) (old : Option Mark) (mark : Mark) →
    option_map change old ≡ Some mark →
    ((before : Mark) → old ≡ Some before → change before ≡ mark → A) → A
mapped_mark change None mark some use_ = absurd cc
mapped_mark change (Some before) mark some use_ = use_ before refl (same_Some _ _ some)

-- the mark at the place is changed
slice_get-changed_at : (change : Mark → Mark) (marks : List Mark) (i : ℕ) →
    slice_get (changed_at i change marks) i ≡ option_map change (slice_get marks i)
slice_get-changed_at change [] i = refl
slice_get-changed_at change (mark ∷ marks) zero = refl
slice_get-changed_at change (mark ∷ marks) (suc i) = slice_get-changed_at change marks i

-- every other mark is as it was
slice_get-changed_elsewhere : (change : Mark → Mark) (marks : List Mark) (i object : ℕ) →
    (i == object) ≡ false →
    slice_get (changed_at i change marks) object ≡ slice_get marks object
slice_get-changed_elsewhere change [] i object other = refl
slice_get-changed_elsewhere change (mark ∷ marks) zero zero other = absurd cc
slice_get-changed_elsewhere change (mark ∷ marks) zero (suc object) other = refl
slice_get-changed_elsewhere change (mark ∷ marks) (suc i) zero other = refl
slice_get-changed_elsewhere change (mark ∷ marks) (suc i) (suc object) other =
    slice_get-changed_elsewhere change marks i object (grind (arith, nat_tests))

-- an object to be read stays as it is where another is changed
pub IsReadFree-elsewhere : (change : Mark → Mark) (marks : List Mark) (object : ℕ)
    (reading : Option ℕ) → IsReadOther reading object → IsReadFree reading marks →
    IsReadFree reading (changed_at object change marks)
IsReadFree-elsewhere change marks object None other free = tt
IsReadFree-elsewhere change marks object (Some read) other free = λ mark some.
    free mark (sym (slice_get-changed_elsewhere change marks object read
    (grind (arith, nat_tests))) ∙ some)

pub length-changed_at : (change : Mark → Mark) (marks : List Mark) (i : ℕ) →
    length (changed_at i change marks) ≡ length marks
length-changed_at change [] i = refl
length-changed_at change (mark ∷ marks) zero = refl
length-changed_at change (mark ∷ marks) (suc i) = rw (length-changed_at change marks i) refl

pub length-changed_where : (change : Mark → Mark) (object : Option ℕ) (marks : List Mark) →
    length (changed_where object change marks) ≡ length marks
length-changed_where change None marks = refl
length-changed_where change (Some object) marks = length-changed_at change marks object

-- the old mark behind a mark of the changed list: at the place, and elsewhere
pub changed_mark : {A : Type 0} (change : Mark → Mark) (marks : List Mark) (i object : ℕ)
    (mark : Mark) →
    slice_get (changed_at i change marks) object ≡ Some mark →
    ((before : Mark) → (i == object) ≡ true → slice_get marks object ≡ Some before →
    change before ≡ mark → A) →
    ((i == object) ≡ false → slice_get marks object ≡ Some mark → A) → A
changed_mark {A} change marks i object mark some here elsewhere =
    by_test (i == object) refl here elsewhere where
      by_test : (test : Bool) → (i == object) ≡ test →
          ((before : Mark) → (i == object) ≡ true → slice_get marks object ≡ Some before →
          change before ≡ mark → A) →
          ((i == object) ≡ false → slice_get marks object ≡ Some mark → A) → A
      by_test true at here elsewhere =
          let same : i ≡ object = eqb-true i object at in
          let there = subst (λ n. slice_get (changed_at i change marks) n ≡ Some mark)
          (sym same) some in
          mapped_mark change (slice_get marks object) mark
          (subst (λ n. option_map change (slice_get marks n) ≡ Some mark) same
          (sym (slice_get-changed_at change marks i) ∙ there))
          (λ before was is. here before at was is)
      by_test false other here elsewhere =
          elsewhere other (sym (slice_get-changed_elsewhere change marks i object other) ∙ some)
