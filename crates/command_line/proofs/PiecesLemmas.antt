-- What words say, step by step.
use Rattle.std.proofs.Common.{◌≡◌, ℕ, true, false, cond, nat_le, List, [], ◌∷◌, length}
use Rattle.std.proofs.Common.{◌+◌, drop, arith, Some, None, refl, sym, ap, ◌∙◌, codes}
use Rattle.std.specs.declared.option.Option.{Option}
use Rattle.std.proofs.lemmas.List.{drop_all}
use Rattle.std.specs.List.{before_first, after_first, position_or_len}
use Rattle.std.specs.Option.{option_map}
use Rattle.std.specs.Str.{bytes_eq}
use Rattle.command_line.specs.declared.setting.Setting.{Setting}
use Rattle.command_line.specs.Pieces.{Piece, setting_named, is_plain, is_equals, joined, and_piece}
use Rattle.command_line.specs.Pieces.{words_behind_end, pieces}
use Rattle.command_line.specs.kept.Rests.{said_option}

pub said_nothing : pieces [] None ≡ Some []
unfolding pieces
said_nothing = refl

pub said_plain :
    (word : List ℕ) (words : List (List ℕ)) → is_plain word ≡ true
    → pieces (word ∷ words) None ≡ and_piece (None, word) (pieces words None)
unfolding pieces
said_plain word words plain =
    ap (λ b. cond b (and_piece (None, word) (pieces words None))
    (cond (bytes_eq word (codes "--")) (words_behind_end words) (said_option word words))) plain

-- what a word says that isn't plain
said_other : List ℕ → List (List ℕ) → Option (List Piece)
said_other word words =
    cond (bytes_eq word (codes "--")) (words_behind_end words) (said_option word words)

is_other :
    (word : List ℕ) (words : List (List ℕ)) → is_plain word ≡ false
    → pieces (word ∷ words) None ≡ said_other word words
unfolding pieces said_other
is_other word words other =
    ap (λ b. cond b (and_piece (None, word) (pieces words None)) (said_other word words)) other

pub said_end :
    (word : List ℕ) (words : List (List ℕ)) → is_plain word ≡ false
    → bytes_eq word (codes "--") ≡ true → pieces (word ∷ words) None ≡ words_behind_end words
unfolding said_other
said_end word words other end =
    is_other word words other
    ∙ ap (λ b. cond b (words_behind_end words) (said_option word words)) end

pub is_option :
    (word : List ℕ) (words : List (List ℕ)) → is_plain word ≡ false
    → bytes_eq word (codes "--") ≡ false → pieces (word ∷ words) None ≡ said_option word words
unfolding said_other
is_option word words other on =
    is_other word words other
    ∙ ap (λ b. cond b (words_behind_end words) (said_option word words)) on

pub said_no_value : (owner : Setting) → pieces [] (Some owner) ≡ None
unfolding pieces
said_no_value owner = refl

pub said_value :
    (value : List ℕ) (words : List (List ℕ)) (owner : Setting) → is_plain value ≡ true
    → pieces (value ∷ words) (Some owner) ≡ and_piece (Some owner, value) (pieces words None)
unfolding pieces
said_value value words owner plain =
    ap (λ b. cond b (and_piece (Some owner, value) (pieces words None)) None) plain

pub said_bad_value :
    (value : List ℕ) (words : List (List ℕ)) (owner : Setting) → is_plain value ≡ false
    → pieces (value ∷ words) (Some owner) ≡ None
unfolding pieces
said_bad_value value words owner other =
    ap (λ b. cond b (and_piece (Some owner, value) (pieces words None)) None) other

pub said_nothing_behind : words_behind_end [] ≡ Some []
unfolding words_behind_end
said_nothing_behind = refl

pub said_behind :
    (word : List ℕ) (words : List (List ℕ)) → nat_le 1 (length word) ≡ true
    → words_behind_end (word ∷ words) ≡ and_piece (None, word) (words_behind_end words)
unfolding words_behind_end
said_behind word words some =
    ap (λ b. cond b (and_piece (None, word) (words_behind_end words)) None) some

pub said_empty_behind :
    (word : List ℕ) (words : List (List ℕ)) → nat_le 1 (length word) ≡ false
    → words_behind_end (word ∷ words) ≡ None
unfolding words_behind_end
said_empty_behind word words empty =
    ap (λ b. cond b (and_piece (None, word) (words_behind_end words)) None) empty

-- an option and a value, found at the first `=`
pub joined_at :
    (word name value : List ℕ) (named : Option Setting)
    → name ≡ before_first is_equals word → value ≡ after_first is_equals word
    → setting_named name ≡ named → nat_le 1 (length value) ≡ true
    → joined word ≡ option_map (λ owner. (Some owner, value)) named
unfolding joined
joined_at word name value named before after is some =
    ap (λ b. cond b (option_map (λ owner. (Some owner, after_first is_equals word))
    (setting_named (before_first is_equals word))) None)
    (ap (λ v. nat_le 1 (length v)) (sym after) ∙ some)
    ∙ ap (λ v. option_map (λ owner. (Some owner, v)) (setting_named (before_first is_equals word)))
    (sym after)
    ∙ ap (λ n. option_map (λ owner. (Some owner, value)) (setting_named n)) (sym before)
    ∙ ap (option_map (λ owner. (Some owner, value))) is

pub joined_empty :
    (word value : List ℕ) → value ≡ after_first is_equals word
    → nat_le 1 (length value) ≡ false → joined word ≡ None
unfolding joined
joined_empty word value after empty =
    ap (λ b. cond b (option_map (λ owner. (Some owner, after_first is_equals word))
    (setting_named (before_first is_equals word))) None)
    (ap (λ v. nat_le 1 (length v)) (sym after) ∙ empty)

-- a word without `=`
pub joined_none :
    (word : List ℕ) → position_or_len is_equals word ≡ length word → joined word ≡ None
joined_none word lacks =
    let none : after_first is_equals word ≡ [] =
    ap (λ i. drop (i + 1) word) lacks ∙ drop_all (length word + 1) word (omega arith) in
    joined_empty word (after_first is_equals word) refl
    (ap (λ v. nat_le 1 (length v)) none)
