-- The parser's steps come to what the grammar says.
use Rattle.std.proofs.Common.{◌≡◌, ℕ, Bool, true, false, ◌||◌, not, cond, List, [], ◌∷◌, ◌++◌, drop}
use Rattle.std.proofs.Common.{Option, Some, None, Result, Ok, Err, codes, take}
use Rattle.std.proofs.Common.{refl, sym, ◌∙◌, ap, ap₂, subst}
use Rattle.std.specs.Prelude.{slice_get, find}
use Rattle.std.specs.List.{AllByRecursion, cons_option, filter_map, list_any, zip}
use Rattle.std.specs.Option.{is_none, is_some, option_and_then, option_to_list}
use Rattle.std.specs.Str.{bytes_eq}
use Rattle.std.proofs.lemmas.Bool.{or_parts}
use Rattle.std.proofs.lemmas.Option.{same_Some}
use Rattle.ss_base.specs.declared.ids.ObjectId.{ObjectId}
use Rattle.execution_definitions.specs.declared.serializer.By.{By}
use Rattle.execution_definitions.specs.declared.serializer.By.TheVariants as by
use Rattle.text_table.specs.TextTables.{number_of}
use Rattle.script_lang.specs.declared.command.Command.{Command}
use Rattle.script_lang.specs.declared.command.Command.TheVariants as command
use Rattle.script_lang.specs.declared.fault.ScriptKind.{ScriptKind}
use Rattle.script_lang.specs.declared.fault.ScriptKind.TheVariants as kind
use Rattle.script_lang.specs.declared.keyword.Keyword.{Keyword}
use Rattle.script_lang.specs.declared.keyword.Keyword.TheVariants as keyword
use Rattle.script_lang.specs.declared.word32.Act.{Act}
use Rattle.script_lang.specs.declared.word32.Act.TheVariants as act
use Rattle.script_lang.specs.declared.word32.Deed.{Deed}
use Rattle.script_lang.specs.Keywords.{keyword_of, serializer_named, is_in}
use Rattle.script_lang.specs.Grammar.{Slot, Word, NewName, Name, Number, Set, Parts, LineShape}
use Rattle.script_lang.specs.Grammar.{shapes_of, shape_of, fit}
use Rattle.script_lang.specs.Commands.{Filled, unless_fault, first_fault, parts_of, name_at}
use Rattle.script_lang.specs.Commands.{shaped_command, shaped_names, line_command, names_made}
use Rattle.script_lang.specs.Parsing.Commands.{make, make_fixed, delegate, mix, write, show}
use Rattle.script_lang.specs.Parsing.Commands.{object_line, fixed_line, alone, do_line, mix_line}
use Rattle.script_lang.specs.Parsing.Commands.{write_line, show_line, line_of}
use Rattle.script_lang.specs.Parsing.Parts.{◌>>=◌, may_name, number, object_of, set_behind}
use Rattle.script_lang.specs.Parsing.Parts.{act_of, deed_of}
use Rattle.script_lang.specs.Parsing.Reading.{makes_object, name_made}
use Rattle.script_lang.specs.Tokens.{is_name, number_value, set_value}

-- ---- cases

by_test : {P : Type 0} (b : Bool) → (b ≡ true → P) → (b ≡ false → P) → P
by_test {P} b passes fails = elim b as (λ t. b ≡ t → P) [ true ↦ passes | false ↦ fails ] refl

by_option : {P A : Type 0} (o : Option A) → ((a : A) → o ≡ Some a → P) → (o ≡ None → P) → P
by_option {P} o some none =
    elim o as (λ p. o ≡ p → P) [ Some a ↦ some a | None ↦ none ] refl

-- ---- what words at their slots ask for

-- the command of words at their slots, or their first fault
abbrev asked : List (List ℕ) → Filled → (Parts → Command) → Result Command ScriptKind
asked names filled command =
    unless_fault (first_fault names filled) (command (parts_of names filled))

-- a word at a slot, where there is one
abbrev at : Slot → Option (List ℕ) → Filled
at slot None = []
at slot (Some word) = (slot, word) ∷ []

-- an act with its number, where it has one
abbrev act_with : (ℕ → Act) → Option (List ℕ) → Result Act ScriptKind
act_with act None = Ok (act 0)
act_with act (Some word) = number word >>= λ k. Ok (act k)

module _ (names : List (List ℕ)) where
  make-asked : (name value : List ℕ) (by : By)
      → make names name value (Some by)
      ≡ asked names ((NewName, name) ∷ (Number, value) ∷ []) (λ p. command.Make p.number by)
  unfolding make may_name number
  make-asked name value by =
      by_test (is_name name)
      (λ spelt. by_option (number_of names name)
      (λ n taken. rw (spelt, taken) refl)
      (λ free. by_option (number_value value)
      (λ k is. rw (spelt, free, is) refl)
      (λ none. rw (spelt, free, none) refl)))
      (λ misspelt. rw misspelt refl)

  make_fixed-asked : (name value : List ℕ)
      → make_fixed names name value
      ≡ asked names ((NewName, name) ∷ (Number, value) ∷ []) (λ p. command.MakeFixed p.number)
  unfolding make_fixed may_name number
  make_fixed-asked name value =
      by_test (is_name name)
      (λ spelt. by_option (number_of names name)
      (λ n taken. rw (spelt, taken) refl)
      (λ free. by_option (number_value value)
      (λ k is. rw (spelt, free, is) refl)
      (λ none. rw (spelt, free, none) refl)))
      (λ misspelt. rw misspelt refl)

  -- an act on an object, with a number or none, and with a set or none
  deed-asked : (f : ObjectId → Deed → Command) (name : List ℕ) (act : ℕ → Act)
      (k s : Option (List ℕ))
      → (object_of names name >>= λ object. deed_of (act_with act k) s >>= λ deed. Ok (f object deed))
      ≡ asked names ((Name, name) ∷ (at Number k ++ at Set s))
      (λ p. f p.object (record { act = act p.number; set = p.set }))
  unfolding object_of deed_of number set_behind
  deed-asked f name act None None =
      by_option (number_of names name) (λ n is. rw is refl) (λ unknown. rw unknown refl)
  deed-asked f name act (Some k) None =
      by_option (number_of names name)
      (λ n is. by_option (number_value k)
      (λ v value. rw (is, value) refl)
      (λ bad. rw (is, bad) refl))
      (λ unknown. rw unknown refl)
  deed-asked f name act None (Some s) =
      by_option (number_of names name)
      (λ n is. by_option (set_value s)
      (λ v value. rw (is, value) refl)
      (λ bad. rw (is, bad) refl))
      (λ unknown. rw unknown refl)
  deed-asked f name act (Some k) (Some s) =
      by_option (number_of names name)
      (λ n is. by_option (number_value k)
      (λ v value. by_option (set_value s)
      (λ w set. rw (is, value, set) refl)
      (λ bad. rw (is, value, bad) refl))
      (λ bad. rw (is, bad) refl))
      (λ unknown. rw unknown refl)

  mix-asked : (first second : List ℕ) (s : Option (List ℕ))
      → mix names first second s
      ≡ asked names ((Name, first) ∷ (Name, second) ∷ at Set s)
      (λ p. command.Delegate p.object (record { act = act.Mix; set = p.set }) (Some p.other))
  unfolding mix object_of deed_of set_behind
  mix-asked first second None =
      by_option (number_of names first)
      (λ n is. by_option (number_of names second)
      (λ m other. rw (is, other) refl)
      (λ unknown. rw (is, unknown) refl))
      (λ unknown. rw unknown refl)
  mix-asked first second (Some s) =
      by_option (number_of names first)
      (λ n is. by_option (number_of names second)
      (λ m other. by_option (set_value s)
      (λ w set. rw (is, other, set) refl)
      (λ bad. rw (is, other, bad) refl))
      (λ unknown. rw (is, unknown) refl))
      (λ unknown. rw unknown refl)

  show-asked : (name : List ℕ)
      → show names name ≡ asked names ((Name, name) ∷ []) (λ p. command.Get p.object)
  unfolding show object_of
  show-asked name =
      by_option (number_of names name) (λ n is. rw is refl) (λ unknown. rw unknown refl)

  -- ---- the words behind each command word

  object-shaped : (words : List (List ℕ))
      → object_line names words ≡ shaped_command names (shape_of keyword.Object words) words
  unfolding serializer_named make
  object-shaped [] = refl
  object-shaped (a ∷ []) = refl
  object-shaped (a ∷ b ∷ []) = make-asked a b by.Object
  object-shaped (a ∷ b ∷ c ∷ []) =
      by_test (bytes_eq c (codes "object"))
      (λ same. rw same (make-asked a b by.Object))
      (λ not_object. by_test (bytes_eq c (codes "sequence"))
      (λ same. rw (not_object, same) (make-asked a b by.Sequence))
      (λ not_sequence. by_test (bytes_eq c (codes "own"))
      (λ same. rw (not_object, not_sequence, same) (make-asked a b by.Own))
      (λ not_own. rw (not_object, not_sequence, not_own) refl)))
  object-shaped (a ∷ b ∷ c ∷ d ∷ rest) = refl

  fixed-shaped : (words : List (List ℕ))
      → fixed_line names words ≡ shaped_command names (shape_of keyword.Fixed words) words
  fixed-shaped [] = refl
  fixed-shaped (a ∷ []) = refl
  fixed-shaped (a ∷ b ∷ []) = make_fixed-asked a b
  fixed-shaped (a ∷ b ∷ c ∷ rest) = refl

  -- an act, delegated
  delegated_deed : ObjectId → Deed → Command
  delegated_deed object deed = command.Delegate object deed None

  do-shaped : (words : List (List ℕ))
      → do_line names words ≡ shaped_command names (shape_of keyword.Do words) words
  unfolding delegate act_of is_in delegated_deed
  do-shaped [] = refl
  do-shaped (n ∷ []) = refl
  do-shaped (n ∷ a ∷ []) =
      by_test (bytes_eq a (codes "give"))
      (λ give. rw give (deed-asked delegated_deed n (λ _. act.Give) None None))
      (λ other. rw other refl)
  do-shaped (n ∷ a ∷ k ∷ []) =
      by_test (bytes_eq a (codes "add"))
      (λ add. rw add (deed-asked delegated_deed n act.Add (Some k) None))
      (λ not_add. by_test (bytes_eq a (codes "mul"))
      (λ mul. rw (not_add, mul) (deed-asked delegated_deed n act.Mul (Some k) None))
      (λ not_mul. by_test (bytes_eq a (codes "set"))
      (λ set. rw (not_add, not_mul, set) (deed-asked delegated_deed n act.Set (Some k) None))
      (λ not_set. rw (not_add, not_mul, not_set) refl)))
  do-shaped (n ∷ a ∷ w ∷ s ∷ []) =
      by_test (bytes_eq w (codes "in"))
      (λ within. by_test (bytes_eq a (codes "give"))
      (λ give. rw (within, give) (deed-asked delegated_deed n (λ _. act.Give) None (Some s)))
      (λ other. rw (within, other) refl))
      (λ elsewhere. rw elsewhere refl)
  do-shaped (n ∷ a ∷ k ∷ w ∷ s ∷ []) =
      by_test (bytes_eq w (codes "in"))
      (λ within. by_test (bytes_eq a (codes "add"))
      (λ add. rw (within, add) (deed-asked delegated_deed n act.Add (Some k) (Some s)))
      (λ not_add. by_test (bytes_eq a (codes "mul"))
      (λ mul. rw (within, not_add, mul) (deed-asked delegated_deed n act.Mul (Some k) (Some s)))
      (λ not_mul. by_test (bytes_eq a (codes "set"))
      (λ set. rw (within, not_add, not_mul, set)
      (deed-asked delegated_deed n act.Set (Some k) (Some s)))
      (λ not_set. rw (within, not_add, not_mul, not_set) refl))))
      (λ elsewhere. rw elsewhere refl)
  do-shaped (n ∷ a ∷ k ∷ w ∷ s ∷ more ∷ rest) = refl

  mix-shaped : (words : List (List ℕ))
      → mix_line names words ≡ shaped_command names (shape_of keyword.Mix words) words
  unfolding is_in
  mix-shaped [] = refl
  mix-shaped (a ∷ []) = refl
  mix-shaped (a ∷ b ∷ []) = mix-asked a b None
  mix-shaped (a ∷ b ∷ c ∷ []) = refl
  mix-shaped (a ∷ b ∷ w ∷ s ∷ []) =
      by_test (bytes_eq w (codes "in"))
      (λ within. rw within (mix-asked a b (Some s)))
      (λ elsewhere. rw elsewhere refl)
  mix-shaped (a ∷ b ∷ w ∷ s ∷ more ∷ rest) = refl

  write-shaped : (words : List (List ℕ))
      → write_line names words ≡ shaped_command names (shape_of keyword.Write words) words
  unfolding write act_of
  write-shaped [] = refl
  write-shaped (n ∷ []) = refl
  write-shaped (n ∷ a ∷ []) =
      by_test (bytes_eq a (codes "give"))
      (λ give. rw give (deed-asked command.Write n (λ _. act.Give) None None))
      (λ other. rw other refl)
  write-shaped (n ∷ a ∷ k ∷ []) =
      by_test (bytes_eq a (codes "add"))
      (λ add. rw add (deed-asked command.Write n act.Add (Some k) None))
      (λ not_add. by_test (bytes_eq a (codes "mul"))
      (λ mul. rw (not_add, mul) (deed-asked command.Write n act.Mul (Some k) None))
      (λ not_mul. by_test (bytes_eq a (codes "set"))
      (λ set. rw (not_add, not_mul, set) (deed-asked command.Write n act.Set (Some k) None))
      (λ not_set. rw (not_add, not_mul, not_set) refl)))
  write-shaped (n ∷ a ∷ k ∷ more ∷ rest) = refl

  show-shaped : (words : List (List ℕ))
      → show_line names words ≡ shaped_command names (shape_of keyword.Show words) words
  show-shaped [] = refl
  show-shaped (a ∷ []) = show-asked a
  show-shaped (a ∷ b ∷ rest) = refl

  isolate-shaped : (words : List (List ℕ))
      → alone command.Begin words ≡ shaped_command names (shape_of keyword.Isolate words) words
  isolate-shaped [] = refl
  isolate-shaped (a ∷ rest) = refl

  join-shaped : (words : List (List ℕ))
      → alone command.End words ≡ shaped_command names (shape_of keyword.Join words) words
  join-shaped [] = refl
  join-shaped (a ∷ rest) = refl

  total-shaped : (words : List (List ℕ))
      → alone command.Total words ≡ shaped_command names (shape_of keyword.Total words) words
  total-shaped [] = refl
  total-shaped (a ∷ rest) = refl

  line_of-shaped : (k : Keyword) (words : List (List ℕ))
      → line_of names k words ≡ shaped_command names (shape_of k words) words
  unfolding line_of
  line_of-shaped keyword.Object words = object-shaped words
  line_of-shaped keyword.Fixed words = fixed-shaped words
  line_of-shaped keyword.Isolate words = isolate-shaped words
  line_of-shaped keyword.Join words = join-shaped words
  line_of-shaped keyword.Do words = do-shaped words
  line_of-shaped keyword.Mix words = mix-shaped words
  line_of-shaped keyword.Write words = write-shaped words
  line_of-shaped keyword.Show words = show-shaped words
  line_of-shaped keyword.Total words = total-shaped words

  -- ---- a line

  pub no_words : Err kind.UnknownCommand ≡ line_command names []
  unfolding line_command
  no_words = refl

  pub unknown_word : (word : List ℕ) (words : List (List ℕ)) → keyword_of word ≡ None
      → Err kind.UnknownCommand ≡ line_command names (word ∷ words)
  unfolding line_command
  unknown_word word words unknown = rw unknown refl

  pub known_word : (word : List ℕ) (words : List (List ℕ)) (k : Keyword) → keyword_of word ≡ Some k
      → line_of names k words ≡ line_command names (word ∷ words)
  unfolding line_command
  known_word word words k known = rw known (line_of-shaped k words)

-- ---- seven words are enough

-- no command has six words behind its first, or more
no_long_shape : (k : Keyword) (b c d e f g : List ℕ) (rest : List (List ℕ))
    → shape_of k (b ∷ c ∷ d ∷ e ∷ f ∷ g ∷ rest) ≡ None
no_long_shape keyword.Object b c d e f g rest = refl
no_long_shape keyword.Fixed b c d e f g rest = refl
no_long_shape keyword.Isolate b c d e f g rest = refl
no_long_shape keyword.Join b c d e f g rest = refl
no_long_shape keyword.Do b c d e f g rest = refl
no_long_shape keyword.Mix b c d e f g rest = refl
no_long_shape keyword.Write b c d e f g rest = refl
no_long_shape keyword.Show b c d e f g rest = refl
no_long_shape keyword.Total b c d e f g rest = refl

long_line : (k : Option Keyword) (b c d e f g : List ℕ) (rest : List (List ℕ))
    → option_and_then (λ known. shape_of known (b ∷ c ∷ d ∷ e ∷ f ∷ g ∷ rest)) k ≡ None
long_line None b c d e f g rest = refl
long_line (Some k) b c d e f g rest = no_long_shape k b c d e f g rest

pub line_command-front : (names words : List (List ℕ))
    → line_command names (take 7 words) ≡ line_command names words
unfolding line_command
line_command-front names [] = refl
line_command-front names (a ∷ []) = refl
line_command-front names (a ∷ b ∷ []) = refl
line_command-front names (a ∷ b ∷ c ∷ []) = refl
line_command-front names (a ∷ b ∷ c ∷ d ∷ []) = refl
line_command-front names (a ∷ b ∷ c ∷ d ∷ e ∷ []) = refl
line_command-front names (a ∷ b ∷ c ∷ d ∷ e ∷ f ∷ []) = refl
line_command-front names (a ∷ b ∷ c ∷ d ∷ e ∷ f ∷ g ∷ rest) =
    let unknown = is_none (keyword_of a) in
    ap (λ shape. cond unknown (Err kind.UnknownCommand)
    (shaped_command names shape (b ∷ c ∷ d ∷ e ∷ f ∷ g ∷ [])))
    (long_line (keyword_of a) b c d e f g [])
    ∙ sym (ap (λ shape. cond unknown (Err kind.UnknownCommand)
    (shaped_command names shape (b ∷ c ∷ d ∷ e ∷ f ∷ g ∷ rest)))
    (long_line (keyword_of a) b c d e f g rest))

pub names_made-front : (words : List (List ℕ)) → names_made (take 7 words) ≡ names_made words
unfolding names_made
names_made-front [] = refl
names_made-front (a ∷ []) = refl
names_made-front (a ∷ b ∷ []) = refl
names_made-front (a ∷ b ∷ c ∷ []) = refl
names_made-front (a ∷ b ∷ c ∷ d ∷ []) = refl
names_made-front (a ∷ b ∷ c ∷ d ∷ e ∷ []) = refl
names_made-front (a ∷ b ∷ c ∷ d ∷ e ∷ f ∷ []) = refl
names_made-front (a ∷ b ∷ c ∷ d ∷ e ∷ f ∷ g ∷ rest) =
    ap (λ shape. shaped_names shape (b ∷ c ∷ d ∷ e ∷ f ∷ g ∷ []))
    (long_line (keyword_of a) b c d e f g [])
    ∙ sym (ap (λ shape. shaped_names shape (b ∷ c ∷ d ∷ e ∷ f ∷ g ∷ rest))
    (long_line (keyword_of a) b c d e f g rest))

-- ---- the name that a line makes is its second word, a name, and new

abbrev is_new : Slot → Bool
is_new NewName = true
is_new slot = false

abbrev begins_new : List Slot → Bool
begins_new [] = false
begins_new (slot ∷ slots) = is_new slot

-- a shape whose command makes an object has its name first, and no other new name
record IsNamed (shape : LineShape) : Type 0 where
  first : (parts : Parts) → makes_object (shape.command parts) ≡ begins_new shape.slots
  others : list_any is_new (drop 1 shape.slots) ≡ false

named : (slots : List Slot) (command : Parts → Command)
    → ((parts : Parts) → makes_object (command parts) ≡ begins_new slots)
    → list_any is_new (drop 1 slots) ≡ false
    → IsNamed (record { slots = slots; command = command })
named slots command first others = record { first = first; others = others }

shapes_are_named : (k : Keyword) → AllByRecursion IsNamed (shapes_of k)
shapes_are_named keyword.Object = (
  named _ _ (λ p. refl) refl,
  (named _ _ (λ p. refl) refl, (named _ _ (λ p. refl) refl, (named _ _ (λ p. refl) refl, tt))),
)
shapes_are_named keyword.Fixed = (named _ _ (λ p. refl) refl, tt)
shapes_are_named keyword.Isolate = (named _ _ (λ p. refl) refl, tt)
shapes_are_named keyword.Join = (named _ _ (λ p. refl) refl, tt)
shapes_are_named keyword.Do = (
  named _ _ (λ p. refl) refl,
  (
    named _ _ (λ p. refl) refl,
    (
      named _ _ (λ p. refl) refl,
      (
        named _ _ (λ p. refl) refl,
        (
          named _ _ (λ p. refl) refl,
          (named _ _ (λ p. refl) refl, (named _ _ (λ p. refl) refl, (named _ _ (λ p. refl) refl, tt))),
        ),
      ),
    ),
  ),
)
shapes_are_named keyword.Mix = (named _ _ (λ p. refl) refl, (named _ _ (λ p. refl) refl, tt))
shapes_are_named keyword.Write = (
  named _ _ (λ p. refl) refl,
  (named _ _ (λ p. refl) refl, (named _ _ (λ p. refl) refl, (named _ _ (λ p. refl) refl, tt))),
)
shapes_are_named keyword.Show = (named _ _ (λ p. refl) refl, tt)
shapes_are_named keyword.Total = (named _ _ (λ p. refl) refl, tt)

-- what is found passes, and has what all have
found : (P : LineShape → Type 0) (test : LineShape → Bool) (shapes : List LineShape)
    (shape : LineShape) → AllByRecursion P shapes → find test shapes ≡ Some shape
    → P shape × (test shape ≡ true)
found P test [] shape all is = absurd (cc)
found P test (first ∷ rest) shape all is =
    by_test (test first)
    (λ passes.
    let same : first ≡ shape = same_Some first shape (rw passes at is) in
    subst (λ s. P s × (test s ≡ true)) same (all.0, passes))
    (λ fails. found P test rest shape all.1 (rw fails at is))

-- ---- what the command of a line tells of its name

-- a command's name is the one that its line makes, a NAME, and new
pub record NamesWhatItMakes (names words : List (List ℕ)) (command : Command) : Type 0 where
  pub same : names_made words ≡ option_to_list (name_made command words)
  pub new : (name : List ℕ) → name_made command words ≡ Some name
      → (is_name name ≡ true) × (number_of names name ≡ None)

name_at-other : (slot : Slot) (word : List ℕ) → is_new slot ≡ false → name_at slot word ≡ None
name_at-other (Word spelling) word h = refl
name_at-other NewName word h = absurd (cc)
name_at-other Name word h = refl
name_at-other Number word h = refl
name_at-other Set word h = refl

new_slot : (slot : Slot) → is_new slot ≡ true → slot ≡ NewName
new_slot (Word spelling) h = absurd (cc)
new_slot NewName h = refl
new_slot Name h = absurd (cc)
new_slot Number h = absurd (cc)
new_slot Set h = absurd (cc)

-- the names at slots
abbrev names_at : List Slot → List (List ℕ) → List (List ℕ)
names_at slots words = filter_map (λ at. name_at at.0 at.1) (zip slots words)

no_new_names : (slots : List Slot) (words : List (List ℕ)) → list_any is_new slots ≡ false
    → names_at slots words ≡ []
no_new_names [] words h = refl
no_new_names (slot ∷ slots) [] h = refl
no_new_names (slot ∷ slots) (word ∷ words) h =
    let none = or_parts (is_new slot) (list_any is_new slots) h in
    ap (λ o. cons_option o (names_at slots words)) (name_at-other slot word none.0)
    ∙ no_new_names slots words none.1

no_fault : (fault : Option ScriptKind) (meant command : Command)
    → unless_fault fault meant ≡ Ok command → (fault ≡ None) × (meant ≡ command)
no_fault (Some kind) meant command h = absurd (cc)
no_fault None meant command h = (refl, cc)

-- neither the first fault nor the second holds, where none does
neither : (a x b y : Bool) (rest : Option ScriptKind)
    → cond (a || x) (Some kind.BadName) (cond (b || y) (Some kind.NameTaken) rest) ≡ None
    → (a ≡ false) × (b ≡ false)
neither true x b y rest h = absurd (cc)
neither false true b y rest h = absurd (cc)
neither false false true y rest h = absurd (cc)
neither false false false y rest h = (refl, refl)

spelt : (b : Bool) → not b ≡ false → b ≡ true
spelt true h = refl
spelt false h = absurd (cc)

free : (o : Option ℕ) → is_some o ≡ false → o ≡ None
free None h = refl
free (Some n) h = absurd (cc)

new_name : (names : List (List ℕ)) (name : List ℕ) (more : Filled)
    → first_fault names ((NewName, name) ∷ more) ≡ None
    → (is_name name ≡ true) × (number_of names name ≡ None)
new_name names name more h =
    let both = neither (not (is_name name)) _ (is_some (number_of names name)) _ _ h in
    (spelt (is_name name) both.0, free (number_of names name) both.1)

-- the command makes no object, so no name
module _ (names : List (List ℕ)) (w : List ℕ) (words : List (List ℕ)) (command : Command) where
  makes_none : makes_object command ≡ false → names_made (w ∷ words) ≡ []
      → NamesWhatItMakes names (w ∷ words) command
  unfolding name_made
  makes_none none no_names = record {
    same = no_names
        ∙ sym (ap (λ b. option_to_list (cond b (slice_get (w ∷ words) 1) None)) none);
    new = λ name e.
        let no_name : None ≡ Some name =
        sym (ap (λ b. cond b (slice_get (w ∷ words) 1) None) none) ∙ e in
        absurd (cc);
  }

makes_one : (names : List (List ℕ)) (w name : List ℕ) (words : List (List ℕ)) (command : Command)
    → makes_object command ≡ true → names_made (w ∷ name ∷ words) ≡ name ∷ []
    → (is_name name ≡ true) × (number_of names name ≡ None)
    → NamesWhatItMakes names (w ∷ name ∷ words) command
unfolding name_made
makes_one names w name words command one made facts =
    let is = ap (λ b. cond b (Some name) None) one in
    record {
      same = made ∙ sym (ap option_to_list is);
      new = λ other e.
          subst (λ n. (is_name n ≡ true) × (number_of names n ≡ None))
          (same_Some name other (sym is ∙ e)) facts;
    }

shaped_makes : (names : List (List ℕ)) (w : List ℕ) (slots : List Slot) (words : List (List ℕ))
    (meant : Parts → Command) (command : Command)
    → IsNamed (record { slots = slots; command = meant }) → fit words slots ≡ true
    → names_made (w ∷ words) ≡ names_at slots words
    → unless_fault (first_fault names (zip slots words)) (meant (parts_of names (zip slots words)))
    ≡ Ok command
    → NamesWhatItMakes names (w ∷ words) command
shaped_makes names w [] words meant command named fits made ok =
    let parts = parts_of names [] in
    let is = no_fault (first_fault names []) (meant parts) command ok in
    makes_none names w words command (ap makes_object (sym is.1) ∙ named.first parts) made
shaped_makes names w (slot ∷ slots) [] meant command named fits made ok = absurd (cc)
shaped_makes names w (slot ∷ slots) (x ∷ words) meant command named fits made ok =
    let filled = (slot, x) ∷ zip slots words in
    let parts = parts_of names filled in
    let is = no_fault (first_fault names filled) (meant parts) command ok in
    let object = ap makes_object (sym is.1) ∙ named.first parts in
    by_test (is_new slot)
    (λ new.
    let same = new_slot slot new in
    makes_one names w x words command (object ∙ new)
    (made
    ∙ ap (λ s. names_at (s ∷ slots) (x ∷ words)) same
    ∙ ap (λ ns. x ∷ ns) (no_new_names slots words named.others))
    (new_name names x (zip slots words)
    (ap (λ s. first_fault names ((s, x) ∷ zip slots words)) (sym same) ∙ is.0)))
    (λ old.
    makes_none names w (x ∷ words) command (object ∙ old)
    (made
    ∙ ap (λ o. cons_option o (names_at slots words)) (name_at-other slot x old)
    ∙ no_new_names slots words named.others))

pub line_makes : (names words : List (List ℕ)) (command : Command)
    → line_command names words ≡ Ok command → NamesWhatItMakes names words command
unfolding line_command names_made
line_makes names [] command ok = absurd (cc)
line_makes names (w ∷ words) command ok =
    by_option (keyword_of w)
    (λ k known. by_option (shape_of k words)
    (λ shape is.
    let known_shape = ap (option_and_then (λ k. shape_of k words)) known ∙ is in
    let has = found IsNamed (λ s. fit words s.slots) (shapes_of k) shape (shapes_are_named k) is in
    shaped_makes names w shape.slots words shape.command command has.0 has.1
    (ap (λ s. shaped_names s words) known_shape)
    (sym (ap₂ (λ k s. cond (is_none k) (Err kind.UnknownCommand) (shaped_command names s words))
    known known_shape) ∙ ok))
    (λ none.
    let no_shape = ap (option_and_then (λ k. shape_of k words)) known ∙ none in
    let bad : Err kind.BadShape ≡ Ok command =
    sym (ap₂ (λ k s. cond (is_none k) (Err kind.UnknownCommand) (shaped_command names s words))
    known no_shape) ∙ ok in absurd (cc)))
    (λ unknown.
    let bad : Err kind.UnknownCommand ≡ Ok command =
    sym (ap (λ k. cond (is_none k) (Err kind.UnknownCommand)
    (shaped_command names (option_and_then (λ k. shape_of k words) (keyword_of w)) words)) unknown)
    ∙ ok in absurd (cc))
