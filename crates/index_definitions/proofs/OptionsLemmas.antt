-- Options that hang on a test.
use Rattle.std.proofs.Common.{◌≡◌, Bool, true, false, cond, Some, None, is_some, refl}

pub is_some-cond : {A : Type 0} (b : Bool) (x : A) → is_some (cond b (Some x) None) ≡ b
is_some-cond true x = refl
is_some-cond false x = refl
