-- What is given of the options, piece by piece.
use Rattle.std.proofs.Common.{◌≡◌, ℕ, true, List, [], ◌∷◌, ◌++◌, Some, None}
use Rattle.std.proofs.Common.{refl, sym, ap, ◌∙◌}
use Rattle.std.specs.declared.option.Option.{Option}
use Rattle.std.specs.Option.{option_map, option_map_or, option_and_then, option_to_list, is_some}
use Rattle.command_line.specs.declared.setting.Setting.TheVariants as setting
use Rattle.command_line.specs.declared.options.Options.{Options}
use Rattle.command_line.specs.Options.{Given, Said, at_most_one, all_given}
use Rattle.command_line.specs.Options.{given_by, said_in, said_by}
use Rattle.command_line.specs.Pieces.{Piece, pieces, words_of, and_piece}
use Rattle.command_line.specs.kept.Given.{words_behind, given_behind, given_in}
use Rattle.command_line.specs.kept.Given.{nothing_given, one_more}

-- a word of no option gives nothing
pub given_word :
    (given : Given) (word : List ℕ) (said : List Piece)
    → given_behind given said ≡ given_behind given ((None, word) ∷ said)
unfolding given_behind words_of
given_word given word said = refl

-- the word of an option behind the one that it has
pub more_words :
    (before : Option (List ℕ)) (word : List ℕ) (kept : Option (List ℕ)) (words : List (List ℕ))
    → one_more before word ≡ Some kept
    → at_most_one (option_to_list kept ++ words)
    ≡ at_most_one (option_to_list before ++ (word ∷ words))
more_words None word kept words more =
    let same : kept ≡ Some word = cc in
    ap (λ k. at_most_one (option_to_list k ++ words)) same
more_words (Some before) word kept words more = cc

pub no_more_words :
    (before : Option (List ℕ)) (word : List ℕ) (words : List (List ℕ))
    → one_more before word ≡ None
    → at_most_one (option_to_list before ++ (word ∷ words)) ≡ None
no_more_words None word words more = cc
no_more_words (Some before) word words more = refl

-- one option that stands twice is enough
none_second :
    (a b c d e : Option (Option (List ℕ))) → all_given a None b c d e ≡ None
none_second None b c d e = refl
none_second (Some a) b c d e = refl

none_third :
    (a b c d e : Option (Option (List ℕ))) → all_given a b None c d e ≡ None
none_third None b c d e = refl
none_third (Some a) None c d e = refl
none_third (Some a) (Some b) c d e = refl

none_fourth :
    (a b c d e : Option (Option (List ℕ))) → all_given a b c None d e ≡ None
none_fourth None b c d e = refl
none_fourth (Some a) None c d e = refl
none_fourth (Some a) (Some b) None d e = refl
none_fourth (Some a) (Some b) (Some c) d e = refl

none_fifth :
    (a b c d e : Option (Option (List ℕ))) → all_given a b c d None e ≡ None
none_fifth None b c d e = refl
none_fifth (Some a) None c d e = refl
none_fifth (Some a) (Some b) None d e = refl
none_fifth (Some a) (Some b) (Some c) None e = refl
none_fifth (Some a) (Some b) (Some c) (Some d) e = refl

none_sixth :
    (a b c d e : Option (Option (List ℕ))) → all_given a b c d e None ≡ None
none_sixth None b c d e = refl
none_sixth (Some a) None c d e = refl
none_sixth (Some a) (Some b) None d e = refl
none_sixth (Some a) (Some b) (Some c) None e = refl
none_sixth (Some a) (Some b) (Some c) (Some d) None = refl
none_sixth (Some a) (Some b) (Some c) (Some d) (Some e) = refl

-- each option in turn: one word more, and one too many
pub given_delegates :
    (given : Given) (word : List ℕ) (kept : Option (List ℕ)) (said : List Piece)
    → one_more given.delegates word ≡ Some kept
    → given_behind (record given { delegates = kept }) said
    ≡ given_behind given ((Some setting.Delegates, word) ∷ said)
unfolding given_behind words_of
given_delegates given word kept said more =
    ap (λ v. all_given v (words_behind given.mode setting.Mode said)
    (words_behind given.ring setting.Ring said) (words_behind given.stop setting.Stop said)
    (words_behind given.trace setting.Trace said) (words_behind given.order setting.Order said))
    (more_words given.delegates word kept (words_of (Some setting.Delegates) said) more)

pub too_many_delegates :
    (given : Given) (word : List ℕ) (said : List Piece)
    → one_more given.delegates word ≡ None
    → None ≡ given_behind given ((Some setting.Delegates, word) ∷ said)
unfolding given_behind words_of
too_many_delegates given word said more =
    sym (ap (λ v. all_given v (words_behind given.mode setting.Mode said)
    (words_behind given.ring setting.Ring said) (words_behind given.stop setting.Stop said)
    (words_behind given.trace setting.Trace said) (words_behind given.order setting.Order said))
    (no_more_words given.delegates word (words_of (Some setting.Delegates) said) more))

pub given_mode :
    (given : Given) (word : List ℕ) (kept : Option (List ℕ)) (said : List Piece)
    → one_more given.mode word ≡ Some kept
    → given_behind (record given { mode = kept }) said
    ≡ given_behind given ((Some setting.Mode, word) ∷ said)
unfolding given_behind words_of
given_mode given word kept said more =
    ap (λ v. all_given (words_behind given.delegates setting.Delegates said) v
    (words_behind given.ring setting.Ring said) (words_behind given.stop setting.Stop said)
    (words_behind given.trace setting.Trace said) (words_behind given.order setting.Order said))
    (more_words given.mode word kept (words_of (Some setting.Mode) said) more)

pub too_many_modes :
    (given : Given) (word : List ℕ) (said : List Piece)
    → one_more given.mode word ≡ None
    → None ≡ given_behind given ((Some setting.Mode, word) ∷ said)
unfolding given_behind words_of
too_many_modes given word said more =
    let delegates = words_behind given.delegates setting.Delegates said in
    let ring = words_behind given.ring setting.Ring said in
    let stop = words_behind given.stop setting.Stop said in
    let trace = words_behind given.trace setting.Trace said in
    let order = words_behind given.order setting.Order said in
    sym (ap (λ v. all_given delegates v ring stop trace order)
    (no_more_words given.mode word (words_of (Some setting.Mode) said) more)
    ∙ none_second delegates ring stop trace order)

pub given_ring :
    (given : Given) (word : List ℕ) (kept : Option (List ℕ)) (said : List Piece)
    → one_more given.ring word ≡ Some kept
    → given_behind (record given { ring = kept }) said
    ≡ given_behind given ((Some setting.Ring, word) ∷ said)
unfolding given_behind words_of
given_ring given word kept said more =
    ap (λ v. all_given (words_behind given.delegates setting.Delegates said)
    (words_behind given.mode setting.Mode said) v (words_behind given.stop setting.Stop said)
    (words_behind given.trace setting.Trace said) (words_behind given.order setting.Order said))
    (more_words given.ring word kept (words_of (Some setting.Ring) said) more)

pub too_many_rings :
    (given : Given) (word : List ℕ) (said : List Piece)
    → one_more given.ring word ≡ None
    → None ≡ given_behind given ((Some setting.Ring, word) ∷ said)
unfolding given_behind words_of
too_many_rings given word said more =
    let delegates = words_behind given.delegates setting.Delegates said in
    let mode = words_behind given.mode setting.Mode said in
    let stop = words_behind given.stop setting.Stop said in
    let trace = words_behind given.trace setting.Trace said in
    let order = words_behind given.order setting.Order said in
    sym (ap (λ v. all_given delegates mode v stop trace order)
    (no_more_words given.ring word (words_of (Some setting.Ring) said) more)
    ∙ none_third delegates mode stop trace order)

pub given_stop :
    (given : Given) (word : List ℕ) (kept : Option (List ℕ)) (said : List Piece)
    → one_more given.stop word ≡ Some kept
    → given_behind (record given { stop = kept }) said
    ≡ given_behind given ((Some setting.Stop, word) ∷ said)
unfolding given_behind words_of
given_stop given word kept said more =
    ap (λ v. all_given (words_behind given.delegates setting.Delegates said)
    (words_behind given.mode setting.Mode said) (words_behind given.ring setting.Ring said) v
    (words_behind given.trace setting.Trace said) (words_behind given.order setting.Order said))
    (more_words given.stop word kept (words_of (Some setting.Stop) said) more)

pub too_many_stops :
    (given : Given) (word : List ℕ) (said : List Piece)
    → one_more given.stop word ≡ None
    → None ≡ given_behind given ((Some setting.Stop, word) ∷ said)
unfolding given_behind words_of
too_many_stops given word said more =
    let delegates = words_behind given.delegates setting.Delegates said in
    let mode = words_behind given.mode setting.Mode said in
    let ring = words_behind given.ring setting.Ring said in
    let trace = words_behind given.trace setting.Trace said in
    let order = words_behind given.order setting.Order said in
    sym (ap (λ v. all_given delegates mode ring v trace order)
    (no_more_words given.stop word (words_of (Some setting.Stop) said) more)
    ∙ none_fourth delegates mode ring trace order)

pub given_trace :
    (given : Given) (word : List ℕ) (kept : Option (List ℕ)) (said : List Piece)
    → one_more given.trace word ≡ Some kept
    → given_behind (record given { trace = kept }) said
    ≡ given_behind given ((Some setting.Trace, word) ∷ said)
unfolding given_behind words_of
given_trace given word kept said more =
    ap (λ v. all_given (words_behind given.delegates setting.Delegates said)
    (words_behind given.mode setting.Mode said) (words_behind given.ring setting.Ring said)
    (words_behind given.stop setting.Stop said) v (words_behind given.order setting.Order said))
    (more_words given.trace word kept (words_of (Some setting.Trace) said) more)

pub too_many_traces :
    (given : Given) (word : List ℕ) (said : List Piece)
    → one_more given.trace word ≡ None
    → None ≡ given_behind given ((Some setting.Trace, word) ∷ said)
unfolding given_behind words_of
too_many_traces given word said more =
    let delegates = words_behind given.delegates setting.Delegates said in
    let mode = words_behind given.mode setting.Mode said in
    let ring = words_behind given.ring setting.Ring said in
    let stop = words_behind given.stop setting.Stop said in
    let order = words_behind given.order setting.Order said in
    sym (ap (λ v. all_given delegates mode ring stop v order)
    (no_more_words given.trace word (words_of (Some setting.Trace) said) more)
    ∙ none_fifth delegates mode ring stop order)

pub given_order :
    (given : Given) (word : List ℕ) (kept : Option (List ℕ)) (said : List Piece)
    → one_more given.order word ≡ Some kept
    → given_behind (record given { order = kept }) said
    ≡ given_behind given ((Some setting.Order, word) ∷ said)
unfolding given_behind words_of
given_order given word kept said more =
    ap (λ v. all_given (words_behind given.delegates setting.Delegates said)
    (words_behind given.mode setting.Mode said) (words_behind given.ring setting.Ring said)
    (words_behind given.stop setting.Stop said) (words_behind given.trace setting.Trace said) v)
    (more_words given.order word kept (words_of (Some setting.Order) said) more)

pub too_many_orders :
    (given : Given) (word : List ℕ) (said : List Piece)
    → one_more given.order word ≡ None
    → None ≡ given_behind given ((Some setting.Order, word) ∷ said)
unfolding given_behind words_of
too_many_orders given word said more =
    let delegates = words_behind given.delegates setting.Delegates said in
    let mode = words_behind given.mode setting.Mode said in
    let ring = words_behind given.ring setting.Ring said in
    let stop = words_behind given.stop setting.Stop said in
    let trace = words_behind given.trace setting.Trace said in
    sym (ap (λ v. all_given delegates mode ring stop trace v)
    (no_more_words given.order word (words_of (Some setting.Order) said) more)
    ∙ none_sixth delegates mode ring stop trace)

-- behind no pieces
words_end : (before : Option (List ℕ)) → at_most_one (option_to_list before ++ []) ≡ Some before
words_end None = refl
words_end (Some word) = refl

pub given_nothing_more : (given : Given) → given_behind given [] ≡ Some given
unfolding given_behind words_of
given_nothing_more given =
    let none : List (List ℕ) = [] in
    let v = λ (before : Option (List ℕ)). at_most_one (option_to_list before ++ none) in
    ap (λ a. all_given a (v given.mode) (v given.ring) (v given.stop) (v given.trace)
    (v given.order))
    (words_end given.delegates)
    ∙ ap (λ a. all_given (Some given.delegates) a (v given.ring) (v given.stop) (v given.trace)
    (v given.order))
    (words_end given.mode)
    ∙ ap (λ a. all_given (Some given.delegates) (Some given.mode) a (v given.stop) (v given.trace)
    (v given.order))
    (words_end given.ring)
    ∙ ap (λ a. all_given (Some given.delegates) (Some given.mode) (Some given.ring) a
    (v given.trace) (v given.order))
    (words_end given.stop)
    ∙ ap (λ a. all_given (Some given.delegates) (Some given.mode) (Some given.ring)
    (Some given.stop) a (v given.order))
    (words_end given.trace)
    ∙ ap (λ a. all_given (Some given.delegates) (Some given.mode) (Some given.ring)
    (Some given.stop) (Some given.trace) a)
    (words_end given.order)

-- a piece more, before what is left
pub and_given :
    (given : Given) (next : Option Options) (piece : Piece) (left : Option (List Piece))
    → ((said : List Piece) → option_and_then (λ o. given_behind (given_in o) said) next
    ≡ given_behind given (piece ∷ said))
    → option_and_then (λ o. option_and_then (given_behind (given_in o)) left) next
    ≡ option_and_then (given_behind given) (and_piece piece left)
and_given given None piece None step = refl
and_given given (Some o) piece None step = refl
and_given given None piece (Some said) step = step said
and_given given (Some o) piece (Some said) step = step said

-- where nothing was given before
pub given_by_all : (said : List Piece) → given_behind nothing_given said ≡ given_by said
unfolding given_behind given_by
given_by_all said = refl

-- what is said by options and pieces
abbrev pub said_with : Option (List Piece) → Given → Said
said_with said given =
    record { given = given; words = option_map_or (words_of None) said [] }

-- what words say, by the options that they give
said_of_given :
    (said : Option (List Piece)) (given : Option Given)
    → given ≡ option_and_then (given_behind nothing_given) said
    → option_and_then said_in said ≡ option_map (said_with said) given
said_of_given None given is = sym (ap (option_map (said_with None)) is)
said_of_given (Some s) given is =
    ap (option_map (said_with (Some s))) (sym (given_by_all s) ∙ sym is)

pub said_by_given :
    (words : List (List ℕ)) (given : Option Given)
    → given ≡ option_and_then (given_behind nothing_given) (pieces words None)
    → said_by words ≡ option_map (said_with (pieces words None)) given
unfolding said_by
said_by_given words given is = said_of_given (pieces words None) given is

-- what gives something is right
pub is_right :
    (said : Option (List Piece)) (given : Given)
    → Some given ≡ option_and_then (given_behind nothing_given) said → is_some said ≡ true
is_right None given is = cc
is_right (Some s) given is = refl
