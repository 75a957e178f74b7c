-- What do the words of a command line ask for?
--
-- Words are those after the program's name. The first names a command. Behind it options and other
-- words stand in any order. The name `-` is standard input.
use Rattle.std.specs.Prelude.{ℕ, Bool, true, ◌&&◌, ◌-◌, ◌^◌, ◌<◌, ◌≤◌, if◌then◌else◌}
use Rattle.std.specs.Prelude.{List, [], ◌∷◌, length, codes, Some, None}
use Rattle.std.specs.declared.option.Option.{Option}
use Rattle.std.specs.Option.{option_and_then, is_some, is_none}
use Rattle.std.specs.Str.{bytes_eq}
use Rattle.ss_base.specs.declared.limits.TheConstants as limits
use Rattle.command_line.specs.declared.command.Command.{Command}
use Rattle.command_line.specs.declared.command.Command.TheVariants as command
use Rattle.command_line.specs.Numbers.{number_in}
use Rattle.command_line.specs.declared.options.How.{How}
use Rattle.command_line.specs.Options.{Given, Said, said_by, how_in, delegates_in}

-- each option that is given is one of `index`
abbrev pub suits_index : Given → Bool
suits_index given = is_none given.trace && is_none given.order

-- each is one of `script`
abbrev pub suits_script : Given → Bool
suits_script given = is_none given.stop && is_none given.order

-- each is one of `replay`, which has neither mode nor rings
abbrev pub suits_replay : Given → Bool
suits_replay given =
    (is_none given.mode && is_none given.ring) && (is_none given.stop && is_none given.trace)

-- each is one of `gen`
abbrev pub suits_gen : Given → Bool
suits_gen given = is_none given.stop && (is_none given.trace && is_none given.order)

-- `index`, run so, with this stop list, and with one name or more
abbrev pub index_with : Bool → Option How → Option (List ℕ) → List (List ℕ) → Option Command
index_with true (Some how) stop (name ∷ names) =
    Some (command.Index how.delegates how.mode how.ring stop (name ∷ names))
index_with _ _ _ _ = None

-- `index`, by what is said behind it
abbrev pub index_of : Said → Option Command
index_of said =
    index_with (suits_index said.given) (how_in said.given) said.given.stop said.words

-- the one word, if there is no other
abbrev pub only_word : List (List ℕ) → Option (List ℕ)
only_word (word ∷ []) = Some word
only_word _ = None

-- `script`, run so, with its trace or without, and with one name
abbrev pub script_with : Bool → Option How → Bool → Option (List ℕ) → Option Command
script_with true (Some how) trace (Some name) =
    Some (command.Script how.delegates how.mode how.ring trace name)
script_with _ _ _ _ = None

-- `script`, by what is said behind it
abbrev pub script_of : Said → Option Command
script_of said =
    script_with (suits_script said.given) (how_in said.given) (is_some said.given.trace)
    (only_word said.words)

-- the two words, if there is no other
abbrev pub two_words : List (List ℕ) → Option (List ℕ × List ℕ)
two_words (first ∷ second ∷ []) = Some (first, second)
two_words _ = None

-- `replay`, with so many delegates, with its order or without, and with SCRIPT and SCHEDULE
abbrev pub replay_with : Bool → Option ℕ → Bool → Option (List ℕ × List ℕ) → Option Command
replay_with true (Some delegates) order (Some (script, schedule)) =
    Some (command.Replay delegates order script schedule)
replay_with _ _ _ _ = None

-- `replay`, by what is said behind it; it needs a delegate
abbrev pub replay_of : Said → Option Command
replay_of said =
    replay_with (suits_replay said.given) (delegates_in 1 said.given) (is_some said.given.order)
    (two_words said.words)

-- three numbers, if all are there
abbrev pub all_numbers : Option ℕ → Option ℕ → Option ℕ → Option (ℕ × ℕ × ℕ)
all_numbers (Some docs) (Some words) (Some seed) = Some (docs, words, seed)
all_numbers _ _ _ = None

-- DOCS, WORDS and SEED
abbrev pub numbers_in : List (List ℕ) → Option (ℕ × ℕ × ℕ)
numbers_in (docs ∷ words ∷ seed ∷ []) =
    all_numbers (number_in 1 (2 ^ 32 - 1) docs) (number_in 0 (2 ^ 32 - 1) words)
    (number_in 0 (2 ^ 31 - 1) seed)
numbers_in _ = None

-- `gen`, run so, with its three numbers
abbrev pub gen_with : Bool → Option How → Option (ℕ × ℕ × ℕ) → Option Command
gen_with true (Some how) (Some (docs, words, seed)) =
    Some (command.Gen how.delegates how.mode how.ring docs words seed)
gen_with _ _ _ = None

-- `gen`, by what is said behind it
abbrev pub gen_of : Said → Option Command
gen_of said = gen_with (suits_gen said.given) (how_in said.given) (numbers_in said.words)

-- the command that the words are, which `command_of` computes; none is usage
abbrev pub outcome : List (List ℕ) → Option Command
outcome [] = None
outcome (name ∷ words) =
    if bytes_eq name (codes "index") then option_and_then index_of (said_by words)
    else (if bytes_eq name (codes "script") then option_and_then script_of (said_by words)
    else (if bytes_eq name (codes "replay") then option_and_then replay_of (said_by words)
    else (if bytes_eq name (codes "gen") then option_and_then gen_of (said_by words)
    else None)))

-- how a command can be run: with 64 delegates at most, and rings of 1 to 4096 messages
abbrev pub CanBeRun : ℕ → ℕ → Type 0
CanBeRun delegates ring = (delegates ≤ limits.DELEGATES) × (1 ≤ ring) × (ring ≤ limits.RING)

-- what no words give isn't asked for: an index of no documents, a replay without a delegate, and
-- numbers of `gen` that are out of bounds
abbrev pub CanBeAsked : Command → Type 0
CanBeAsked (command.Index delegates mode ring stop names) =
    CanBeRun delegates ring × (1 ≤ length names)
CanBeAsked (command.Script delegates mode ring trace name) = CanBeRun delegates ring
CanBeAsked (command.Replay delegates order script schedule) =
    (1 ≤ delegates) × (delegates ≤ limits.DELEGATES)
CanBeAsked (command.Gen delegates mode ring docs words seed) =
    CanBeRun delegates ring × (1 ≤ docs) × (seed < 2 ^ 31)
