-- Which shapes has a line, and which command does each ask for?
--
-- A line is a command word, and behind it one word for each slot of one of the command's shapes. An
-- ACT is one slot, or two with its NUMBER.
use Rattle.std.specs.Prelude.{ℕ, Bool, true, false, ◌&&◌, Option, Some, None, find}
use Rattle.std.specs.Prelude.{List, [], ◌∷◌, ◌++◌, map, codes}
use Rattle.std.specs.Str.{bytes_eq}
use Rattle.ss_base.specs.declared.ids.ObjectId.{ObjectId}
use Rattle.execution_definitions.specs.declared.serializer.By.TheVariants as by
use Rattle.script_lang.specs.declared.command.Command.{Command}
use Rattle.script_lang.specs.declared.command.Command.TheVariants as command
use Rattle.script_lang.specs.declared.keyword.Keyword.{Keyword}
use Rattle.script_lang.specs.declared.keyword.Keyword.TheVariants as keyword
use Rattle.script_lang.specs.declared.word32.Act.{Act}
use Rattle.script_lang.specs.declared.word32.Act.TheVariants as act

-- what stands at a place of a line
pub data Slot : Type 0 where
  -- this word
  Word : List ℕ → Slot
  -- the NAME of the object that the line makes
  NewName : Slot
  -- the NAME of an object that a line above makes
  Name : Slot
  -- a NUMBER
  Number : Slot
  -- a SET
  Set : Slot

-- what the words of a line stand for: what it lacks is 0
pub record Parts : Type 0 where
  -- the first object that is named, and the second
  pub object : ObjectId
  pub other : ObjectId
  pub number : ℕ
  pub set : ℕ

-- a shape of a command: its slots, and the command that its parts make
pub record LineShape : Type 0 where
  pub slots : List Slot
  pub command : Parts → Command

-- these slots, which ask for this command
abbrev pub shape : List Slot → (Parts → Command) → LineShape
shape slots command = record { slots = slots; command = command }

-- in SET
abbrev pub in_set : List Slot
in_set = Word (codes "in") ∷ Set ∷ []

-- the shapes of an ACT, each with the act of its number
abbrev pub acts : List (List Slot × (ℕ → Act))
acts =
    (Word (codes "add") ∷ Number ∷ [], act.Add)
    ∷ (Word (codes "mul") ∷ Number ∷ [], act.Mul)
    ∷ (Word (codes "set") ∷ Number ∷ [], act.Set)
    ∷ (Word (codes "give") ∷ [], λ _. act.Give)
    ∷ []

-- an act delegated to the first object
abbrev pub delegated : (ℕ → Act) → Parts → Command
delegated act parts =
    command.Delegate parts.object (record { act = act parts.number; set = parts.set }) None

-- a Mix delegated to the first object, which reads the other
abbrev pub mixed : Parts → Command
mixed parts =
    command.Delegate parts.object (record { act = act.Mix; set = parts.set }) (Some parts.other)

-- an act in the program context
abbrev pub written : (ℕ → Act) → Parts → Command
written act parts = command.Write parts.object (record { act = act parts.number; set = 0 })

-- the shapes of the words behind a command word. An object is serialized by object, unless a word
-- names another serializer; `do` and `mix` may name a SET
abbrev pub shapes_of : Keyword → List LineShape
shapes_of keyword.Object =
    shape (NewName ∷ Number ∷ []) (λ p. command.Make p.number by.Object)
    ∷ shape (NewName ∷ Number ∷ Word (codes "object") ∷ []) (λ p. command.Make p.number by.Object)
    ∷ shape (NewName ∷ Number ∷ Word (codes "sequence") ∷ [])
    (λ p. command.Make p.number by.Sequence)
    ∷ shape (NewName ∷ Number ∷ Word (codes "own") ∷ []) (λ p. command.Make p.number by.Own)
    ∷ []
shapes_of keyword.Fixed = shape (NewName ∷ Number ∷ []) (λ p. command.MakeFixed p.number) ∷ []
shapes_of keyword.Isolate = shape [] (λ _. command.Begin) ∷ []
shapes_of keyword.Join = shape [] (λ _. command.End) ∷ []
shapes_of keyword.Do =
    map (λ a. shape (Name ∷ a.0) (delegated a.1)) acts
    ++ map (λ a. shape (Name ∷ (a.0 ++ in_set)) (delegated a.1)) acts
shapes_of keyword.Mix =
    shape (Name ∷ Name ∷ []) mixed ∷ shape (Name ∷ Name ∷ in_set) mixed ∷ []
shapes_of keyword.Write = map (λ a. shape (Name ∷ a.0) (written a.1)) acts
shapes_of keyword.Show = shape (Name ∷ []) (λ p. command.Get p.object) ∷ []
shapes_of keyword.Total = shape [] (λ _. command.Total) ∷ []

-- a word may stand at a slot
abbrev pub may_stand : List ℕ → Slot → Bool
may_stand text (Word spelling) = bytes_eq text spelling
may_stand text slot = true

-- words fit slots: there are as many, and each may stand at its slot
abbrev pub fit : List (List ℕ) → List Slot → Bool
fit [] [] = true
fit (text ∷ words) (slot ∷ slots) = fit words slots && may_stand text slot
fit words slots = false

-- the shape that the words behind a command word fit, if they fit one
abbrev pub shape_of : Keyword → List (List ℕ) → Option LineShape
shape_of keyword words = find (λ shape. fit words shape.slots) (shapes_of keyword)
