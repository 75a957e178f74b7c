-- Which words are a replay: those whose first word says so, where they are a command.
use Rattle.std.proofs.Common.{◌≡◌, ℕ, Bool, true, false, cond, Some, None, List, [], ◌∷◌}
use Rattle.std.proofs.Common.{refl, sym, subst}
use Rattle.std.specs.Prelude.{codes}
use Rattle.std.specs.declared.option.Option.{Option}
use Rattle.std.specs.Option.{option_and_then}
use Rattle.std.specs.Str.{bytes_eq}
use Rattle.std.proofs.lemmas.Slice.Eq.{bytes_eq-Decides}
use Rattle.command_line.specs.declared.command.Command.{Command}
use Rattle.command_line.specs.declared.command.Command.TheVariants.{Index, Script, Replay, Gen}
use Rattle.command_line.specs.CommandLine.{index_with, script_with, replay_with, gen_with}
use Rattle.command_line.specs.CommandLine.{index_of, script_of, replay_of, gen_of, outcome}
use Rattle.command_line.specs.Options.{Said, said_by}
use Rattle.ss_top.specs.Runs.{replay_only, names_replay}

index_with-only :
    (suits : Bool) (how : _) (stop : Option (List ℕ)) (words : List (List ℕ))
    → replay_only (index_with suits how stop words) ≡ None
index_with-only true (Some how) stop (name ∷ names) = refl
index_with-only true (Some how) stop [] = refl
index_with-only true None stop words = refl
index_with-only false how stop words = refl

script_with-only :
    (suits : Bool) (how : _) (trace : Bool) (name : Option (List ℕ))
    → replay_only (script_with suits how trace name) ≡ None
script_with-only true (Some how) trace (Some name) = refl
script_with-only true (Some how) trace None = refl
script_with-only true None trace name = refl
script_with-only false how trace name = refl

gen_with-only :
    (suits : Bool) (how : _) (numbers : Option (ℕ × ℕ × ℕ))
    → replay_only (gen_with suits how numbers) ≡ None
gen_with-only true (Some how) (Some (docs, words, seed)) = refl
gen_with-only true (Some how) None = refl
gen_with-only true None numbers = refl
gen_with-only false how numbers = refl

replay_with-only :
    (suits : Bool) (delegates : Option ℕ) (order : Bool) (names : Option (List ℕ × List ℕ))
    → replay_only (replay_with suits delegates order names)
    ≡ replay_with suits delegates order names
replay_with-only true (Some delegates) order (Some (script, schedule)) = refl
replay_with-only true (Some delegates) order None = refl
replay_with-only true None order names = refl
replay_with-only false delegates order names = refl

-- what is no replay of any words
none_said :
    (of : Said → Option Command) (said : Option Said)
    → ((one : Said) → replay_only (of one) ≡ None) → replay_only (option_and_then of said) ≡ None
none_said of None each = refl
none_said of (Some one) each = each one

either :
    (b : Bool) (one other : Option Command)
    → replay_only one ≡ None → replay_only other ≡ None → replay_only (cond b one other) ≡ None
either true one other first second = first
either false one other first second = second

kept_said :
    (said : Option Said)
    → replay_only (option_and_then replay_of said) ≡ option_and_then replay_of said
kept_said None = refl
kept_said (Some one) = replay_with-only _ _ _ _

-- words whose first one is another are no replay
pub replay_only-unnamed :
    (words : List (List ℕ)) → names_replay words ≡ false → replay_only (outcome words) ≡ None
replay_only-unnamed [] other = refl
replay_only-unnamed (name ∷ words) other =
    let said = said_by words in
    let last = cond (bytes_eq name (codes "gen")) (option_and_then gen_of said) None in
    either (bytes_eq name (codes "index")) _ _
    (none_said index_of said (λ one. index_with-only _ _ _ _))
    (either (bytes_eq name (codes "script")) _ _
    (none_said script_of said (λ one. script_with-only _ _ _ _))
    (subst (λ b. replay_only (cond b (option_and_then replay_of said) last) ≡ None) (sym other)
    (either (bytes_eq name (codes "gen")) _ _
    (none_said gen_of said (λ one. gen_with-only _ _ _)) refl)))

-- words whose first one says so are a replay, or no command
pub replay_only-named :
    (words : List (List ℕ)) → names_replay words ≡ true → replay_only (outcome words) ≡ outcome words
replay_only-named [] named = absurd (cc)
replay_only-named (name ∷ words) named =
    let same : name ≡ codes "replay" = (bytes_eq-Decides name (codes "replay")).0 named in
    subst (λ first. replay_only (outcome (first ∷ words)) ≡ outcome (first ∷ words)) (sym same)
    (kept_said (said_by words))

-- a command that is no replay
pub replay_only-other :
    (command : Command)
    → ((delegates : ℕ) (order : Bool) (script schedule : List ℕ)
    → command ≡ Replay delegates order script schedule → ⊥)
    → replay_only (Some command) ≡ None
replay_only-other (Index delegates mode ring stop names) other = refl
replay_only-other (Script delegates mode ring trace name) other = refl
replay_only-other (Gen delegates mode ring docs words seed) other = refl
replay_only-other (Replay delegates order script schedule) other =
    absurd (other delegates order script schedule refl)
