-- What reading inputs one behind the other does to a shelf.
use Rattle.std.proofs.Common.{◌≡◌, ℕ, zero, suc, ◌+◌, ◌<◌, cond, nat_lt}
use Rattle.std.proofs.Common.{List, [], ◌∷◌, ◌++◌, length, map, take, Some, None, slice_get}
use Rattle.std.proofs.Common.{IsSome, refl, sym, ap, ◌∙◌, subst, arith, append-nil, append_assoc}
use Rattle.std.proofs.Common.{length-append, ⊎_elim}
use Rattle.std.specs.Prelude.{MatchOption, is_some}
use Rattle.std.specs.declared.option.Option.{Option}
use Rattle.std.proofs.lemmas.Bool.{cases_Bool}
use Rattle.std.proofs.lemmas.List.{map-append}
use Rattle.std.proofs.lemmas.Option.{slice_get_within}
use Rattle.ss_base.specs.declared.outside.Shelf
use Rattle.ss_base.specs.Faults.{Rose}
use Rattle.ss_base.specs.Shelves.{Contents, IsHeld, IsSteady, ReadsWhole, last_name}
use Rattle.ss_base.proofs.ShelvesLemmas.{last_name-append}
use Rattle.command_line.specs.declared.command.Command.{Command}
use Rattle.ss_top.specs.declared.status.Which.{Which}
use Rattle.ss_top.specs.Inputs.{Input, inputs_of, inputs_for}
use Rattle.ss_top.specs.Limits.{limit_passed}
use Rattle.ss_top.specs.Answers.{bytes_after, limit_asked, texts_held}
use Rattle.ss_top.specs.Readings.{IfTold, AreHeld, IsNeeded, left_of}
use Rattle.ss_top.specs.Readings.{Asks, AsksInOrder, Reads, FailsAt}
use Rattle.ss_top.proofs.AnswersLemmas.{take_next, AreHeld-front, AreHeld-back, AreHeld-take}
use Rattle.ss_top.proofs.AnswersLemmas.{held_back}
use Rattle.std.specs.Option.{option_map_or}
use Rattle.ss_top.proofs.AnswersLemmas.{held-more, at_end-read, first_passed-more, first_passed-none}
use Rattle.ss_top.proofs.AnswersLemmas.{IsNeeded-read}

append_none : (xs ys : List Input) → xs ++ ys ≡ [] → (xs ≡ []) × (ys ≡ [])
append_none [] ys none = (refl, none)
append_none (x ∷ xs) ys none = cc

-- the name that was asked for last
last-asked :
    (contents : Option Contents) (asked : List (List ℕ)) (name : List ℕ)
    → MatchOption (last_name contents (asked ++ name ∷ []))
    (¬ IsHeld contents name) (λ last. last ≡ name)
last-asked None asked name = λ held. held
last-asked (Some told) asked name =
    rw (last_name-append told asked name)
    (elim (told name) as (λ o. MatchOption (cond (is_some o) (Some name) None)
    (¬ IsSome o) (λ last. last ≡ name)) [
      | None ↦ λ held. cc
      | Some text ↦ refl
    ])

-- where all inputs are held, each is
held_listed :
    (told : Contents) (inputs : List Input) (k : ℕ) (input : Input)
    → slice_get inputs k ≡ Some input
    → length (texts_held told inputs) ≡ length inputs → IsSome (told input.1)
held_listed told [] k input here held = cc
held_listed told (i ∷ is) zero input here held =
    let same : i ≡ input = cc in
    subst (λ j. IsSome (told j.1)) same
    (elim (told i.1) as (λ o.
    length (option_map_or (λ t. t ∷ texts_held told is) o []) ≡ length (i ∷ is) → IsSome o) [
      | None ↦ λ none. absurd (omega (arith, none))
      | Some text ↦ λ some. refl
    ] held)
held_listed told (i ∷ is) (suc k) input here held =
    held_listed told is k input here (held_back told (i ∷ []) is held)

IsHeld-listed :
    (contents : Option Contents) (inputs : List Input) (k : ℕ) (input : Input)
    → IsSome contents → slice_get inputs k ≡ Some input
    → AreHeld contents inputs → IsHeld contents input.1
IsHeld-listed None inputs k input told here held = cc
IsHeld-listed (Some contents) inputs k input told here held =
    held_listed contents inputs k input here held

-- inputs up to one more are needed
pub needed-more :
    (contents : Option Contents) (command : Option Command) (count : ℕ)
    → ((place : ℕ) → place < count → IsNeeded contents command place)
    → IsNeeded contents command count
    → (place : ℕ) → place < count + 1 → IsNeeded contents command place
needed-more contents command count needed now place less =
    ⊎_elim
    (λ below. needed place (grind (arith, below)))
    (λ above. let same : count ≡ place = grind (arith, above) in
    subst (λ k. IsNeeded contents command k) same now)
    (cases_Bool (nat_lt place count))

module _ {S : Type 0} (shelf : Shelf.Ghosts S) where
  pub Asks-none : (s : S) → Asks shelf s s []
  Asks-none s =
      record {
        asked = sym (append-nil (shelf.asked s));
        never_falls = omega arith;
        contents = refl;
        steady = λ is. (is.1, λ held. refl);
        unasked = λ none. refl;
      }

  pub Asks-more :
      (a b c : S) (inputs others : List Input)
      → Asks shelf a b inputs → Asks shelf b c others → Asks shelf a c (inputs ++ others)
  Asks-more a b c inputs others first next =
      record {
        asked =
            next.asked
            ∙ ap (λ names. names ++ map (λ input. input.1) others) first.asked
            ∙ append_assoc (shelf.asked a) (map (λ input. input.1) inputs)
            (map (λ input. input.1) others)
            ∙ ap (λ names. shelf.asked a ++ names)
            (sym (map-append (λ input. input.1) inputs others));
        never_falls = omega (arith, first.never_falls, next.never_falls);
        contents = next.contents ∙ first.contents;
        steady = λ is.
            let now = first.steady is in
            let still : IsSteady (shelf.contents b) (shelf.fails_only_if_absent b) =
            (subst IsSome (sym first.contents) is.0, now.0) in
            let end = next.steady still in (
              end.0,
              λ held.
                  end.1 (subst (λ contents. AreHeld contents others) (sym first.contents)
                  (AreHeld-back (shelf.contents a) inputs others held))
                  ∙ now.1 (AreHeld-front (shelf.contents a) inputs others held),
            );
        unasked = λ none.
            let parts = append_none inputs others none in
            next.unasked parts.1 ∙ first.unasked parts.0;
      }

  -- a steady shelf that holds all inputs doesn't fail
  pub AsksInOrder-steady :
      (a b : S) (command : Option Command) → AsksInOrder shelf a b command
      → IsSteady (shelf.contents a) (shelf.fails_only_if_absent a)
      → AreHeld (shelf.contents a) (inputs_for command)
      → shelf.faults b ≡ shelf.faults a
  AsksInOrder-steady a b command asks steady held =
      (asks.asks.steady steady).1
      (AreHeld-take (shelf.contents a) asks.count (inputs_for command) held)

  -- nor is an input of it at fault
  pub FailsAt-steady :
      (a b : S) (command : Option Command) (which : Which) → FailsAt shelf a b command which
      → IsSteady (shelf.contents a) (shelf.fails_only_if_absent a)
      → AreHeld (shelf.contents a) (inputs_for command) → ⊥
  FailsAt-steady a b command which fails steady held =
      fails.absent steady
      (IsHeld-listed (shelf.contents a) (inputs_for command) fails.place (which, fails.name)
      steady.0 fails.input held)

  -- no input was asked for
  pub AsksInOrder-none : (s : S) (command : Option Command) → AsksInOrder shelf s s command
  AsksInOrder-none s command =
      record {
        count = 0;
        within = omega arith;
        asks = Asks-none s;
        needed = λ place less. absurd (omega (arith, less));
      }

  pub Reads-none : (s : S) (inputs : List Input) → Reads shelf s s inputs []
  Reads-none s inputs =
      record {
        count = omega arith;
        asks = Asks-none s;
        held = elim (shelf.contents s) as (λ o. IfTold o (λ told. texts_held told [] ≡ [])) [
          | None ↦ tt
          | Some told ↦ refl
        ];
        within = first_passed-none 0 inputs;
        at_end =
            elim (shelf.contents s) as (λ o. IfTold o (λ _. left_of [] (shelf.left s) ≡ Some [])) [
              | None ↦ tt
              | Some told ↦ refl
            ];
      }

  module _ (a b c : S) (inputs : List Input) (texts : List (List ℕ)) (input : Input)
      (here : slice_get inputs (length texts) ≡ Some input)
      (before : Reads shelf a b inputs texts) (now : Asks shelf b c (input ∷ [])) where
    -- the inputs so far, and one more
    pub Asks-next : Asks shelf a c (take (length texts + 1) inputs)
    Asks-next =
        rw (take_next inputs (length texts) input here)
        (Asks-more a b c (take (length texts) inputs) (input ∷ []) before.asks now)

    -- one more that was read whole
    pub Reads-more :
        (text : List ℕ)
        → ReadsWhole (shelf.contents b) input.1 (shelf.left c) text
        → limit_passed (bytes_after 0 inputs texts) input.0 text ≡ None
        → Reads shelf a c inputs (texts ++ text ∷ [])
    Reads-more text read fits =
        let within = slice_get_within inputs (length texts) input here in
        let count : length texts + 1 ≡ length (texts ++ text ∷ []) =
        omega (arith, length-append texts (text ∷ [])) in
        let whole = subst (λ contents. ReadsWhole contents input.1 (shelf.left c) text)
        before.asks.contents read in
        record {
          count = omega (arith, within, count);
          asks = subst (λ n. Asks shelf a c (take n inputs)) count Asks-next;
          held =
              subst (λ n. IfTold (shelf.contents a)
              (λ told. texts_held told (take n inputs) ≡ texts ++ text ∷ [])) count
              (held-more (shelf.contents a) inputs texts input (shelf.left c) text here before.held
              whole);
          within = first_passed-more 0 inputs texts input text here before.within fits;
          at_end =
              at_end-read (shelf.contents a) (take (length (texts ++ text ∷ [])) inputs) input.1
              (shelf.left c) text whole;
        }

  module _ (a b c : S) (command : Command) (asked : limit_asked command ≡ None)
      (texts : List (List ℕ)) (which : Which) (name : List ℕ)
      (here : slice_get (inputs_of command) (length texts) ≡ Some (which, name))
      (before : Reads shelf a b (inputs_of command) texts)
      (now : Asks shelf b c ((which, name) ∷ [])) where
    -- the input behind those that were read was needed
    pub IsNeeded-next : IsNeeded (shelf.contents a) (Some command) (length texts)
    IsNeeded-next =
        IsNeeded-read command asked (shelf.contents a) texts (which, name) here before.held
        before.within

    -- it was the last that the shelf was asked for
    pub AsksInOrder-next :
        ((place : ℕ) → place < length texts
        → IsNeeded (shelf.contents a) (Some command) place)
        → AsksInOrder shelf a c (Some command)
    AsksInOrder-next needed =
        let within = slice_get_within (inputs_of command) (length texts) (which, name) here in
        record {
          count = length texts + 1;
          within = omega (arith, within);
          asks = Asks-next a b c (inputs_of command) texts (which, name) here before now;
          needed =
              needed-more (shelf.contents a) (Some command) (length texts) needed IsNeeded-next;
        }

    -- the shelf failed at it
    pub FailsAt-next :
        Rose (shelf.faults b) (shelf.faults c)
        → (IsSteady (shelf.contents b) (shelf.fails_only_if_absent b)
        → ¬ IsHeld (shelf.contents b) name)
        → FailsAt shelf a c (Some command) which
    FailsAt-next rose absent =
        let asks = Asks-next a b c (inputs_of command) texts (which, name) here before now in
        record {
          rose = grind (arith, rose, before.asks.never_falls);
          place = length texts;
          name = name;
          input = here;
          needed = IsNeeded-next;
          asks = asks;
          last =
              rw (now.asked, asks.contents)
              (last-asked (shelf.contents a) (shelf.asked b) name);
          absent = λ is.
              let still : IsSteady (shelf.contents b) (shelf.fails_only_if_absent b) =
              (subst IsSome (sym before.asks.contents) is.0, (before.asks.steady is).0) in
              subst (λ contents. ¬ IsHeld contents name) before.asks.contents (absent still);
        }
