-- The words of no option, piece by piece.
use Rattle.std.proofs.Common.{◌≡◌, ℕ, Bool, true, false, List, [], ◌∷◌, Some, None}
use Rattle.std.proofs.Common.{refl, sym, ap, ◌∙◌, ◌-◌, ◌^◌, not}
use Rattle.std.specs.Prelude.{IsSome}
use Rattle.std.specs.declared.option.Option.{Option}
use Rattle.std.specs.Option.{option_map_or, is_some}
use Rattle.std.proofs.lemmas.Option.{same_Some}
use Rattle.command_line.specs.declared.setting.Setting.{Setting}
use Rattle.command_line.specs.CommandLine.{two_words, all_numbers, numbers_in}
use Rattle.command_line.specs.Numbers.{number_in}
use Rattle.command_line.specs.Pieces.{Piece, and_piece, words_of}

-- behind a piece of words that are right, words are right
pub right_behind :
    (said : Option (List Piece)) (piece : Piece) (left : Option (List Piece))
    → said ≡ and_piece piece left → IsSome said → IsSome left
right_behind said piece None is right = let none : said ≡ None = is in cc
right_behind said piece (Some pieces) is right = refl

-- a word of no option comes first
pub word_first :
    (owner : Option Setting) (word : List ℕ) (left : Option (List Piece)) → owner ≡ None
    → IsSome left
    → option_map_or (words_of None) (and_piece (owner, word) left) []
    ≡ word ∷ option_map_or (words_of None) left []
unfolding words_of
word_first None word None is right = cc
word_first None word (Some pieces) is right = refl
word_first (Some owner) word left is right = cc

-- the word of an option is no such word
pub value_first :
    (owner : Option Setting) (word : List ℕ) (left : Option (List Piece)) → is_some owner ≡ true
    → option_map_or (words_of None) (and_piece (owner, word) left) []
    ≡ option_map_or (words_of None) left []
unfolding words_of
value_first None word left is = cc
value_first (Some owner) word None is = refl
value_first (Some owner) word (Some pieces) is = refl

pub no_words : (said : Option (List Piece)) → said ≡ Some []
    → option_map_or (words_of None) said [] ≡ []
unfolding words_of
no_words said is = ap (λ s. option_map_or (words_of None) s []) is

pub right_isnt_none : (said : Option (List Piece)) → IsSome said → ¬ (said ≡ None)
right_isnt_none None right is = cc
right_isnt_none (Some pieces) right is = cc

-- whether a piece has an option
pub no_owner : (owner : Option Setting) (b : Bool) → is_some owner ≡ not b → b ≡ true → owner ≡ None
no_owner None b is none = refl
no_owner (Some owner) b is none = let bad : true ≡ false = is ∙ ap not none in cc

pub some_owner :
    (owner : Option Setting) (b : Bool) → is_some owner ≡ not b → b ≡ false
    → is_some owner ≡ true
some_owner owner b is some = is ∙ ap not some

-- three numbers, by the first of the words and the two behind it
pub numbers_said :
    (left : List (List ℕ)) (docs : List ℕ) (others : List (List ℕ)) (words seed : List ℕ)
    → left ≡ docs ∷ others → Some (words, seed) ≡ two_words others
    → numbers_in left
    ≡ all_numbers (number_in 1 (2 ^ 32 - 1) docs) (number_in 0 (2 ^ 32 - 1) words)
    (number_in 0 (2 ^ 31 - 1) seed)
numbers_said left docs [] words seed is two = cc
numbers_said left docs (a ∷ []) words seed is two = cc
numbers_said left docs (a ∷ b ∷ []) words seed is two =
    let same = same_Some (words, seed) (a, b) two in
    ap numbers_in is
    ∙ ap (λ t. all_numbers (number_in 1 (2 ^ 32 - 1) docs) (number_in 0 (2 ^ 32 - 1) t.0)
    (number_in 0 (2 ^ 31 - 1) t.1)) (sym same)
numbers_said left docs (a ∷ b ∷ c ∷ others) words seed is two = cc
