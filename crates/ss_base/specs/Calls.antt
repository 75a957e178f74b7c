-- Which calls of a shelf or a sink in memory fail, and how much does each move?
--
-- Their calls are numbered from 0, and those fail whose numbers are listed. A call that moves bytes
-- moves as many as fit.
use Rattle.std.specs.Prelude.{◌≡◌, ℕ, ◌+◌, ◌-◌, ◌^◌, ◌==◌, min, Bool, true, false, List, [], ◌∷◌}
use Rattle.std.specs.Prelude.{Some, None, if◌then◌else◌, length}
use Rattle.std.specs.Global.{Vec}
use Rattle.std.specs.List.{list_any}
use Rattle.std.specs.declared.option.Option.{Option}
use Rattle.ss_base.specs.declared.calls.Calls.{Calls}

-- no call is listed
abbrev pub fails_none : List ℕ → Bool
fails_none [] = true
fails_none (number ∷ rest) = false

-- a sink with this room is sure of all of it where no write is listed, else of nothing
abbrev pub sure_bytes : List ℕ → ℕ → ℕ
sure_bytes fail room = if fails_none fail then room else 0

-- no call was made, and those of this list are to fail
pub record IsNew (calls : Calls) (fail : Vec ℕ) : Type 0 where
  pub none : calls.made ≡ 0
  pub list : calls.fail ≡ fail

-- the next call is listed
abbrev pub next_fails : Calls → Bool
next_fails calls = list_any (λ number. number == calls.made) calls.fail.items

-- one call more was made. A count that stands at its type's end stays there
pub record IsNext (before now : Calls) : Type 0 where
  pub counts : now.made ≡ min (before.made + 1) (2 ^ 64 - 1)
  pub list : now.fail ≡ before.fail

-- as many bytes as fit: the least of the chunk, the room and the bytes that there are
abbrev pub fitting : ℕ → ℕ → ℕ → ℕ
fitting chunk room there = min (min chunk room) there

-- of what is left as many bytes as fit, and none where nothing is open
abbrev pub fitting_left : ℕ → ℕ → Option (List ℕ) → ℕ
fitting_left chunk room None = 0
fitting_left chunk room (Some bytes) = fitting chunk room (length bytes)
