-- When may a call on the outside fail?
--
-- Each part of the outside counts its faults. A call that answers a fault shows a count that rose in
-- that very call, so that nothing above can blame the outside for what it did itself.
use Rattle.std.specs.Prelude.{◌≡◌, ℕ, ◌+◌, ◌-◌, ◌^◌, ◌≤◌, min, Result, IsOk, OnErr, MatchResult}

-- a count of faults rose. One that stands at its type's end stays there, and counts as risen
abbrev pub Rose : ℕ → ℕ → Type 0
Rose before now = min (before + 1) (2 ^ 64 - 1) ≤ now

-- a fault is answered only where the count rose, and the count never falls
pub record HasCause {T E : Type 0} (before now : ℕ) (result : Result T E) : Type 0 where
  pub never_falls : before ≤ now
  pub failed : OnErr result (Rose before now)

-- no fault is answered, and none is counted
abbrev pub HasNoFault : {T E : Type 0} → ℕ → ℕ → Result T E → Type 0
HasNoFault before now result = IsOk result × (now ≡ before)

-- a fault counts one, and nothing else is counted. A count at its type's end stays there
abbrev pub CountsFaults : {T E : Type 0} → ℕ → ℕ → Result T E → Type 0
CountsFaults before now result =
    MatchResult result (λ _. now ≡ before) (λ _. now ≡ min (before + 1) (2 ^ 64 - 1))
