-- When are calls merged in an order, and why are they not?
use Rattle.std.specs.Prelude.{◌≡◌, ℕ, Some, List, map}
use Rattle.ss_base.specs.declared.ids.CallNo.{CallNo}
use Rattle.execution_definitions.specs.declared.refusal.Refusal.{Refusal}
use Rattle.execution_definitions.specs.Shapes.{Shape}
use Rattle.execution_definitions.specs.Soundness.{IsSound, first_break, first_refusal}
use Rattle.interleavings.specs.Merges.{IsLegal, IsNoMergeAt}
use Rattle.legal_merges.specs.declared.fault.MergeFault.{MergeFault}
use Rattle.legal_merges.specs.declared.fault.MergeFault.TheVariants.{Broken, NotMerge, OutOfMemory}

-- the places of calls
abbrev pub places : List CallNo → List ℕ
places calls = map (λ call. call.0) calls

-- no call is refused, and the order is a legal merge
pub record IsMerge (n : ℕ) (calls : List Shape) (order : List ℕ) : Type 0 where
  pub sound : IsSound calls
  pub legal : IsLegal n calls order

-- this call is the first that is refused, and this is its refusal
pub record IsBrokenAt (calls : List Shape) (call : ℕ) (refusal : Refusal) : Type 0 where
  pub first : first_break calls ≡ Some call
  pub refused : first_refusal calls ≡ Some refusal

-- no call is refused, and the order is no legal merge, with this place
pub record IsNotMergeAt (n : ℕ) (calls : List Shape) (order : List ℕ) (place : ℕ) : Type 0 where
  pub sound : IsSound calls
  pub no_merge : IsNoMergeAt n calls order place

-- the fault comes where the calls and the order call for it; memory alone is free
abbrev pub IsCauseOf : ℕ → List Shape → List ℕ → MergeFault → Type 0
IsCauseOf n calls order (Broken call refusal) = IsBrokenAt calls call.0 refusal
IsCauseOf n calls order (NotMerge place) = IsNotMergeAt n calls order place
IsCauseOf n calls order OutOfMemory = Unit {0}
