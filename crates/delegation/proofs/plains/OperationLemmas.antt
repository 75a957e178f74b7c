-- An operation on one of two parts of the values, which reads a value of the other part.
use Rattle.std.proofs.Common.{◌≡◌, ℕ, Some, List, ◌++◌, length, refl, sym, ap, ◌∙◌}
use Rattle.std.specs.Prelude.{slice_get, slice_set, OnOk, Result, Ok, Err}
use Rattle.std.proofs.lemmas.List.{set-append_left}
use Rattle.std.proofs.lemmas.Option.{slice_get_within}
use Rattle.ss_base.specs.declared.ids.ObjectId.{ObjectId}
use Rattle.execution_definitions.specs.Meanings.{Meaning}
use Rattle.execution_definitions.specs.Sequential.{operated, value_read}
use Rattle.execution_definitions.proofs.lists.ListLemmas.{slice_get-front, seam_get, seam_set}
use Rattle.delegation.specs.PlainParts.{state_of}

-- what follows from two facts where they hold after Ok
pub on_ok : {T E P Q S : Type 0} (result : Result T E) → OnOk result P → OnOk result Q →
    (P → Q → S) → OnOk result S
on_ok (Ok value) p q then = then p q
on_ok (Err error) p q then = tt

module _ {C O R : Type 0} (m : Meaning C O R) (front back : List C) (old new : R) (object : ℕ)
    (op : O) (read : ObjectId) (value other after : C) where
  -- the first of the back part, reading the front part
  pub operated-back : length front ≡ object → slice_get back 0 ≡ Some value →
      slice_get front read.0 ≡ Some other → after ≡ (m.step value op (Some other)).0 →
      new ≡ m.join old (m.step value op (Some other)).1 →
      state_of (front ++ slice_set back 0 after) new
      ≡ operated m (state_of (front ++ back) old) object op
      (value_read (front ++ back) (Some read))
  operated-back at found reads value_is total_is =
      let here : slice_get (front ++ back) object ≡ Some value =
      ap (λ n. slice_get (front ++ back) n) (sym at) ∙ seam_get front back value found in
      let there : slice_get (front ++ back) read.0 ≡ Some other =
      slice_get-front front back read.0 (slice_get_within front read.0 other reads) ∙ reads in
      let set : slice_set (front ++ back) object after ≡ front ++ slice_set back 0 after =
      ap (λ n. slice_set (front ++ back) n after) (sym at)
      ∙ seam_set front back value after found in
      rw (here, there, total_is, sym value_is, set) refl

  -- one of the front part, reading the first of the back part
  pub operated-front : length front ≡ read.0 → slice_get front object ≡ Some value →
      slice_get back 0 ≡ Some other → after ≡ (m.step value op (Some other)).0 →
      new ≡ m.join old (m.step value op (Some other)).1 →
      state_of (slice_set front object after ++ back) new
      ≡ operated m (state_of (front ++ back) old) object op
      (value_read (front ++ back) (Some read))
  operated-front at found reads value_is total_is =
      let within = slice_get_within front object value found in
      let here : slice_get (front ++ back) object ≡ Some value =
      slice_get-front front back object within ∙ found in
      let there : slice_get (front ++ back) read.0 ≡ Some other =
      ap (λ n. slice_get (front ++ back) n) (sym at) ∙ seam_get front back other reads in
      let set : slice_set (front ++ back) object after ≡ slice_set front object after ++ back =
      set-append_left front back object after within in
      rw (here, there, total_is, sym value_is, set) refl
