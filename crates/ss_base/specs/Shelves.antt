-- What does a shelf give?
--
-- A shelf that tells its contents gives just these bytes, from the front, each once. One that tells
-- nothing is bound by its count of faults alone, and each word below then holds.
use Rattle.std.specs.Prelude.{◌≡◌, ℕ, ◌+◌, Bool, true, false, List, [], ◌++◌, length, take, ⊤}
use Rattle.std.specs.Prelude.{Some, None, IsSome, IsSomeAnd, IsTrue, is_some, if◌then◌else◌}
use Rattle.std.specs.Prelude.{option_and_then, Result, MatchResult}
use Rattle.std.specs.List.{last_or}
use Rattle.std.specs.declared.option.Option.{Option}
use Rattle.std.specs.Io.KnownBytes.{Consumes, IsAtEnd}

-- the bytes under each name, and none under a name that isn't there
abbrev pub Contents : Type 0
Contents = List ℕ → Option (List ℕ)

-- the contents are told, and hold the name
abbrev pub IsHeld : Option Contents → List ℕ → Type 0
IsHeld contents name = IsSomeAnd contents (λ told. IsSome (told name))

-- the contents are told, and the shelf fails only where an absent name is opened
abbrev pub IsSteady : Option Contents → Bool → Type 0
IsSteady contents fails_only_if_absent = IsSome contents × IsTrue fails_only_if_absent

-- the name, where these contents hold it
abbrev pub name_held : Contents → List ℕ → Option (List ℕ)
name_held contents name = if is_some (contents name) then (Some name) else None

-- the name that was asked for last, where the contents are told and hold it
abbrev pub last_name : Option Contents → List (List ℕ) → Option (List ℕ)
last_name contents asked =
    option_and_then (λ told. option_and_then (name_held told) (last_or None asked)) contents

-- a name is open after Ok alone
abbrev pub IsOpenAfter : {T E : Type 0} → Result T E → Bool → Type 0
IsOpenAfter result now = MatchResult result (λ _. now ≡ true) (λ _. now ≡ false)

-- the contents hold the name, and all of it is left
abbrev pub Opens : Option Contents → List ℕ → Option (List ℕ) → Type 0
Opens None name left = ⊤
Opens (Some contents) name left =
    (bytes : List ℕ) × (contents name ≡ Some bytes) × (left ≡ Some bytes)

-- a read of n bytes takes them from the front of what is left, and is of none only at the end
pub record Gives (before after : Option (List ℕ)) (into : List ℕ) (n : ℕ) : Type 0 where
  pub takes : Consumes before after (take n into)
  pub ends : n ≡ 0 → IsAtEnd after

-- these bytes were taken from the front of the name, and what follows them is left
abbrev pub HasTaken : Option Contents → List ℕ → Option (List ℕ) → List ℕ → Type 0
HasTaken None name left bytes = ⊤
HasTaken (Some contents) name left bytes =
    (rest : List ℕ) × (contents name ≡ Some (bytes ++ rest)) × (left ≡ Some rest)

-- the bytes are all that the name holds, and nothing is left
abbrev pub ReadsWhole : Option Contents → List ℕ → Option (List ℕ) → List ℕ → Type 0
ReadsWhole None name left bytes = ⊤
ReadsWhole (Some contents) name left bytes = (contents name ≡ Some bytes) × (left ≡ Some [])

-- just one byte more than the limit was taken
abbrev pub PassesLimit : Option Contents → List ℕ → ℕ → Option (List ℕ) → Type 0
PassesLimit contents name limit left =
    (bytes : List ℕ) × (length bytes ≡ limit + 1) × HasTaken contents name left bytes
