-- What a shelf was asked for last.
use Rattle.std.proofs.Common.{◌≡◌, ℕ, List, [], ◌∷◌, ◌++◌, Some, None, refl}
use Rattle.std.specs.List.{last_or}
use Rattle.std.specs.declared.option.Option.{Option}
use Rattle.ss_base.specs.Shelves.{Contents, name_held, last_name}

-- the name at the end is the last
last-append : {A : Type 0} (before : Option A) (xs : List A) (x : A) → last_or before (xs ++ x ∷ []) ≡ Some x
last-append before [] x = refl
last-append before (y ∷ ys) x = last-append (Some y) ys x

-- after one name more, that name is the last, where the contents hold it
pub last_name-append :
    (told : Contents) (asked : List (List ℕ)) (name : List ℕ)
    → last_name (Some told) (asked ++ name ∷ []) ≡ name_held told name
last_name-append told asked name = rw (last-append None asked name)
