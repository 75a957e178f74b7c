-- What does reading the inputs of a command do to a shelf, and where does it end?
use Rattle.std.specs.Prelude.{◌≡◌, ℕ, ◌+◌, ◌<◌, ◌≤◌, IsTrue, List, [], ◌∷◌, ◌++◌, map, length, take}
use Rattle.std.specs.Prelude.{⊤, ◌⊎◌, slice_get}
use Rattle.std.specs.Prelude.{Some, None, MatchOption, IsSomeAnd}
use Rattle.std.specs.declared.option.Option.{Option}
use Rattle.ss_base.specs.declared.outside.Shelf
use Rattle.ss_base.specs.Faults.{Rose}
use Rattle.ss_base.specs.Shelves.{Contents, IsHeld, IsSteady, last_name}
use Rattle.command_line.specs.declared.command.Command.{Command}
use Rattle.ss_top.specs.declared.status.LimitHit.{LimitHit}
use Rattle.ss_top.specs.declared.status.LimitHit.TheVariants as limit
use Rattle.ss_top.specs.declared.status.Which.{Which}
use Rattle.ss_top.specs.declared.status.Which.TheVariants as input
use Rattle.ss_top.specs.Inputs.{Input, inputs_for, IsInputOf}
use Rattle.ss_top.specs.Answers.{Answer, answer_after, expected_answer, first_passed}
use Rattle.ss_top.specs.Answers.{limit_asked, texts_held}
use Rattle.ss_top.specs.Limits.{limit_passed}

-- a fact of contents that are told
abbrev pub IfTold : Option Contents → (Contents → Type 0) → Type 0
IfTold None P = ⊤
IfTold (Some contents) P = P contents

-- the texts of inputs, as far as contents are told: none where nothing is told
abbrev pub texts_told : Option Contents → List Input → List (List ℕ)
texts_told None inputs = []
texts_told (Some contents) inputs = texts_held contents inputs

-- a fact of the answer that a command line calls for. Where nothing is told it is one of an answer
-- for which no input is needed, if there is one
abbrev pub IfCalledFor : Option Contents → Option Command → (Option Answer → Type 0) → Type 0
IfCalledFor (Some contents) command P = P (expected_answer command contents)
IfCalledFor None command P =
    (answer : Answer) → answer_after command [] ≡ Some answer → P (Some answer)

-- where contents are told, they hold these inputs
abbrev pub AreHeld : Option Contents → List Input → Type 0
AreHeld contents inputs =
    IfTold contents (λ told. length (texts_held told inputs) ≡ length inputs)

-- what is left of the last input: nothing, where there is none
abbrev pub left_of : List Input → Option (List ℕ) → Option (List ℕ)
left_of [] left = Some []
left_of (input ∷ inputs) left = left

-- the input that has a limit, if one has it
abbrev pub limited_input : LimitHit → Option Which
limited_input (limit.Names n) = None
limited_input (limit.Document i) = Some (input.Name i)
limited_input (limit.AllDocuments i) = Some (input.Name i)
limited_input limit.StopBytes = Some input.Stop
limited_input limit.ScriptBytes = Some input.Script
limited_input limit.ScriptLines = Some input.Script
limited_input limit.ScheduleBytes = Some input.Schedule

-- the limit that the command passes by what it asks for, or a limit of one of its inputs
abbrev pub IsLimitOf : Option Command → LimitHit → Type 0
IsLimitOf None hit = ⊥
IsLimitOf (Some command) hit =
    (limit_asked command ≡ Some hit)
    ⊎ IsSomeAnd (limited_input hit) (IsInputOf (Some command))

-- where contents are told, what they hold of an input passes this limit, behind so many bytes of
-- documents
abbrev pub IsOver : Option Contents → Input → ℕ → LimitHit → Type 0
IsOver contents input before hit =
    IfTold contents (λ told.
    (text : List ℕ) × (told input.1 ≡ Some text) × (limit_passed before input.0 text ≡ Some hit))

-- a command line's input at this place is needed: those before it are held, and their texts call for
-- no answer
abbrev pub IsNeeded : Option Contents → Option Command → ℕ → Type 0
IsNeeded contents command place =
    AreHeld contents (take place (inputs_for command))
    × (answer_after command (texts_told contents (take place (inputs_for command))) ≡ None)

module _ {S : Type 0} (shelf : Shelf.Ghosts S) where
  -- the shelf was asked for these inputs, for each once and in their order, and for nothing else. Its
  -- count doesn't fall and its contents stay. Where it is steady it stays so, and where it holds the
  -- inputs too, its count stays. Where it was asked for nothing it is as it was
  pub record Asks (before after : S) (inputs : List Input) : Type 0 where
    pub asked : shelf.asked after ≡ shelf.asked before ++ map (λ input. input.1) inputs
    pub never_falls : shelf.faults before ≤ shelf.faults after
    pub contents : shelf.contents after ≡ shelf.contents before
    pub steady :
        IsSteady (shelf.contents before) (shelf.fails_only_if_absent before)
        → IsTrue (shelf.fails_only_if_absent after)
        × (AreHeld (shelf.contents before) inputs → shelf.faults after ≡ shelf.faults before)
    pub unasked : inputs ≡ [] → after ≡ before

  -- the shelf was asked for a front part of the inputs of a command line, for each as it was needed
  pub record AsksInOrder (before after : S) (command : Option Command) : Type 0 where
    pub count : ℕ
    pub within : count ≤ length (inputs_for command)
    pub asks : Asks before after (take count (inputs_for command))
    pub needed : (place : ℕ) → place < count → IsNeeded (shelf.contents before) command place

  -- the first of these inputs were read whole. They have these texts, which pass no limit
  pub record Reads (before after : S) (inputs : List Input) (texts : List (List ℕ)) : Type 0 where
    pub count : length texts ≤ length inputs
    pub asks : Asks before after (take (length texts) inputs)
    pub held :
        IfTold (shelf.contents before)
        (λ told. texts_held told (take (length texts) inputs) ≡ texts)
    pub within : first_passed 0 inputs texts ≡ None
    pub at_end :
        IfTold (shelf.contents before)
        (λ _. left_of (take (length texts) inputs) (shelf.left after) ≡ Some [])

  -- the shelf failed at this input of a command line, which was needed. It was asked for last: where
  -- the shelf tells what it was asked for last, that is its name, and else the contents don't hold its
  -- name. Nor do those of a steady shelf
  pub record FailsAt (before after : S) (command : Option Command) (which : Which) : Type 0 where
    pub rose : Rose (shelf.faults before) (shelf.faults after)
    pub place : ℕ
    pub name : List ℕ
    pub input : slice_get (inputs_for command) place ≡ Some (which, name)
    pub needed : IsNeeded (shelf.contents before) command place
    pub asks : Asks before after (take (place + 1) (inputs_for command))
    pub last :
        MatchOption (last_name (shelf.contents after) (shelf.asked after))
        (¬ IsHeld (shelf.contents before) name) (λ last. last ≡ name)
    pub absent :
        IsSteady (shelf.contents before) (shelf.fails_only_if_absent before)
        → ¬ IsHeld (shelf.contents before) name
