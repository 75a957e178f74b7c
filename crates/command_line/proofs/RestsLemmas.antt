-- What is left of the words, and what its first piece is.
use Rattle.std.proofs.Common.{◌≡◌, ℕ, ◌≤◌, Bool, true, false, cond, nat_le, List}
use Rattle.std.proofs.Common.{Some, None, Ok, Err, Result, ap, ◌∙◌, arith}
use Rattle.std.specs.Prelude.{◌==◌}
use Rattle.std.proofs.lemmas.Bool.Decides.{nat_tests}
use Rattle.std.specs.declared.option.Option.{Option}
use Rattle.command_line.specs.declared.pieces.Piece as rust
use Rattle.command_line.specs.declared.pieces.Rest.{Rest}
use Rattle.command_line.specs.declared.pieces.Usage.{Usage}
use Rattle.command_line.specs.Pieces.{Piece, pieces, words_behind_end}
use Rattle.command_line.specs.kept.Rests.{IsSplitFrom}

-- behind `--`, and before it
pub behind_is :
    (b : Bool) (texts : List (List ℕ)) (said : Option (List Piece)) → b ≡ true
    → words_behind_end texts ≡ said
    → cond b (words_behind_end texts) (pieces texts None) ≡ said
behind_is b texts said behind is =
    ap (λ b. cond b (words_behind_end texts) (pieces texts None)) behind ∙ is

pub front_is :
    (b : Bool) (texts : List (List ℕ)) (said : Option (List Piece)) → b ≡ false
    → pieces texts None ≡ said
    → cond b (words_behind_end texts) (pieces texts None) ≡ said
front_is b texts said front is =
    ap (λ b. cond b (words_behind_end texts) (pieces texts None)) front ∙ is

-- the same first piece, of what is the same and of no fewer words
pub split_within :
    (said same : Option (List Piece)) (count most : ℕ)
    (result : Result (Option (rust.Piece × Rest)) Usage) → same ≡ said → count ≤ most
    → IsSplitFrom said count result → IsSplitFrom same most result
split_within said same count most (Ok None) is few split = is ∙ split
split_within said same count most (Ok (Some (piece, others))) is few split =
    (is ∙ split.0, omega (arith, split.1, few))
split_within said same count most (Err usage) is few split = is ∙ split

-- a word that is empty, and one that isn't
pub empty_word : (n : ℕ) (b : Bool) → b ≡ (n == 0) → b ≡ true → nat_le 1 n ≡ false
empty_word n b is empty = grind (arith, nat_tests)

pub some_word : (n : ℕ) (b : Bool) → b ≡ (n == 0) → b ≡ false → nat_le 1 n ≡ true
some_word n b is some = grind (arith, nat_tests)
