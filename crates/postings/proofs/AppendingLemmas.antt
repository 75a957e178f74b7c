-- What is appended in parts is appended.
use Rattle.std.proofs.Common.{◌≡◌, ℕ, List, [], ◌++◌, sym, ap, ◌∙◌, subst}
use Rattle.std.proofs.Common.{append_assoc, append-nil}
use Rattle.postings.specs.Appending.{Appends}

-- bytes behind the new ones are bytes behind what was appended
pub behind_more : (P : List ℕ → Type 0) (old now more new tail : List ℕ) → new ≡ now ++ more
    → Appends P old (now ++ (more ++ tail)) → Appends P old (new ++ tail)
behind_more P old now more new tail is appended =
    subst (Appends P old) (sym (append_assoc now more tail) ∙ ap (λ es. es ++ tail) (sym is)) appended

-- nothing behind them
pub at_end : (P : List ℕ → Type 0) (old new : List ℕ) → Appends P old (new ++ [])
    → Appends P old new
at_end P old new appended = subst (Appends P old) (append-nil new) appended
