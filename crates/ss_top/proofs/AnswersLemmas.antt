-- Which answer the texts of a command's first inputs call for, one text more.
use Rattle.std.proofs.Common.{◌≡◌, ℕ, ◌+◌, ◌<◌, true, false, cond, ◌==◌}
use Rattle.std.proofs.Common.{List, [], ◌∷◌, ◌++◌, length, take, drop, Some, None, slice_get}
use Rattle.std.proofs.Common.{refl, sym, ap, ap₂, ◌∙◌, subst, ⊎_elim, arith}
use Rattle.std.proofs.lemmas.Bool.{cases_Bool}
use Rattle.std.specs.declared.option.Option.{Option}
use Rattle.std.specs.Option.{option_map_or, option_or}
use Rattle.std.proofs.lemmas.List.{take_more, drop_more, take-append-drop, length-take-le}
use Rattle.std.proofs.lemmas.Option.{slice_get_within, get_or_from_slice_get}
use Rattle.ss_base.specs.Shelves.{Contents, ReadsWhole}
use Rattle.command_line.specs.declared.command.Command.{Command}
use Rattle.ss_top.specs.declared.status.LimitHit.{LimitHit}
use Rattle.ss_top.specs.Inputs.{Input, inputs_of}
use Rattle.ss_top.specs.Limits.{limit_passed}
use Rattle.ss_top.specs.Answers.{Answer, over_limit, or_limit, bytes_behind, bytes_after}
use Rattle.ss_top.specs.Answers.{first_passed, limit_asked, answer_to_all, answer_after}
use Rattle.ss_top.specs.Answers.{texts_held}
use Rattle.ss_top.specs.Readings.{IfTold, IfCalledFor, AreHeld, IsNeeded, IsOver, left_of}

-- the next element of a list
pub take_next :
    {A : Type 0} (xs : List A) (i : ℕ) (x : A)
    → slice_get xs i ≡ Some x → take (i + 1) xs ≡ take i xs ++ x ∷ []
take_next xs i x is =
    take_more xs i x (slice_get_within xs i x is)
    ∙ ap (λ y. take i xs ++ y ∷ []) (get_or_from_slice_get xs i x x is)

-- what stands before it, it, and what stands behind it
split_at :
    {A : Type 0} (xs : List A) (i : ℕ) (x : A)
    → slice_get xs i ≡ Some x → xs ≡ take i xs ++ x ∷ drop (i + 1) xs
split_at xs i x is =
    sym (take-append-drop i xs)
    ∙ ap (λ ys. take i xs ++ ys)
    (drop_more xs i x (slice_get_within xs i x is)
    ∙ ap (λ y. y ∷ drop (i + 1) xs) (get_or_from_slice_get xs i x x is))

-- neither of two limits is passed
pub or_none :
    (a b : Option LimitHit) → option_or a b ≡ None → (a ≡ None) × (b ≡ None)
or_none None b none = (refl, none)
or_none (Some hit) b none = cc

pub first_passed-none : (before : ℕ) (inputs : List Input) → first_passed before inputs [] ≡ None
first_passed-none before [] = refl
first_passed-none before (input ∷ inputs) = refl

pub bytes_after-none : (before : ℕ) (inputs : List Input) → bytes_after before inputs [] ≡ before
bytes_after-none before [] = refl
bytes_after-none before (input ∷ inputs) = refl

-- one text more that passes a limit, whatever stands behind it
pub first_passed-met :
    (before : ℕ) (inputs : List Input) (texts more : List (List ℕ)) (input : Input) (text : List ℕ)
    (hit : LimitHit)
    → slice_get inputs (length texts) ≡ Some input
    → first_passed before inputs texts ≡ None
    → limit_passed (bytes_after before inputs texts) input.0 text ≡ Some hit
    → first_passed before inputs (texts ++ text ∷ more) ≡ Some hit
first_passed-met before [] texts more input text hit is none met = cc
first_passed-met before (i ∷ is) [] more input text hit here none met =
    let same : i ≡ input = cc in
    ap (λ o. option_or o (first_passed (bytes_behind before i.0 text) is more))
    (ap (λ j. limit_passed before j.0 text) same ∙ met)
first_passed-met before (i ∷ is) (t ∷ ts) more input text hit here none met =
    let parts = or_none (limit_passed before i.0 t)
    (first_passed (bytes_behind before i.0 t) is ts) none in
    ap (λ o. option_or o (first_passed (bytes_behind before i.0 t) is (ts ++ text ∷ more))) parts.0
    ∙ first_passed-met (bytes_behind before i.0 t) is ts more input text hit here parts.1 met

-- one text more that passes none
pub first_passed-more :
    (before : ℕ) (inputs : List Input) (texts : List (List ℕ)) (input : Input) (text : List ℕ)
    → slice_get inputs (length texts) ≡ Some input
    → first_passed before inputs texts ≡ None
    → limit_passed (bytes_after before inputs texts) input.0 text ≡ None
    → first_passed before inputs (texts ++ text ∷ []) ≡ None
first_passed-more before [] texts input text is none fits = cc
first_passed-more before (i ∷ is) [] input text here none fits =
    let same : i ≡ input = cc in
    ap (λ o. option_or o (first_passed (bytes_behind before i.0 text) is []))
    (ap (λ j. limit_passed before j.0 text) same ∙ fits)
    ∙ first_passed-none (bytes_behind before i.0 text) is
first_passed-more before (i ∷ is) (t ∷ ts) input text here none fits =
    let parts = or_none (limit_passed before i.0 t)
    (first_passed (bytes_behind before i.0 t) is ts) none in
    ap (λ o. option_or o (first_passed (bytes_behind before i.0 t) is (ts ++ text ∷ []))) parts.0
    ∙ first_passed-more (bytes_behind before i.0 t) is ts input text here parts.1 fits

pub bytes_after-more :
    (before : ℕ) (inputs : List Input) (texts : List (List ℕ)) (input : Input) (text : List ℕ)
    → slice_get inputs (length texts) ≡ Some input
    → bytes_after before inputs (texts ++ text ∷ [])
    ≡ bytes_behind (bytes_after before inputs texts) input.0 text
bytes_after-more before [] texts input text is = cc
bytes_after-more before (i ∷ is) [] input text here =
    let same : i ≡ input = cc in
    bytes_after-none (bytes_behind before i.0 text) is
    ∙ ap (λ j. bytes_behind before j.0 text) same
bytes_after-more before (i ∷ is) (t ∷ ts) input text here =
    bytes_after-more (bytes_behind before i.0 t) is ts input text here

-- inputs behind others that are all held
pub texts_held-append :
    (told : Contents) (inputs others : List Input)
    → length (texts_held told inputs) ≡ length inputs
    → texts_held told (inputs ++ others) ≡ texts_held told inputs ++ texts_held told others
texts_held-append told [] others all = refl
texts_held-append told (input ∷ inputs) others all =
    elim (told input.1) as (λ o.
    length (option_map_or (λ t. t ∷ texts_held told inputs) o []) ≡ length (input ∷ inputs)
    → option_map_or (λ t. t ∷ texts_held told (inputs ++ others)) o []
    ≡ option_map_or (λ t. t ∷ texts_held told inputs) o [] ++ texts_held told others) [
      | None ↦ λ none. absurd (omega (arith, none))
      | Some t ↦ λ more.
          ap (λ ts. t ∷ ts) (texts_held-append told inputs others (omega (arith, more)))
    ] all

-- an input that is held
texts_held-found :
    (told : Contents) (input : Input) (inputs : List Input) (text : List ℕ)
    → told input.1 ≡ Some text
    → texts_held told (input ∷ inputs) ≡ text ∷ texts_held told inputs
texts_held-found told input inputs text found =
    ap (λ o. option_map_or (λ t. t ∷ texts_held told inputs) o []) found

-- of inputs that are all held the first ones are
held_front :
    (told : Contents) (inputs others : List Input)
    → length (texts_held told (inputs ++ others)) ≡ length (inputs ++ others)
    → length (texts_held told inputs) ≡ length inputs
held_front told [] others all = refl
held_front told (input ∷ inputs) others all =
    elim (told input.1) as (λ o.
    length (option_map_or (λ t. t ∷ texts_held told (inputs ++ others)) o [])
    ≡ length (input ∷ (inputs ++ others))
    → length (option_map_or (λ t. t ∷ texts_held told inputs) o []) ≡ length (input ∷ inputs)) [
      | None ↦ λ none. absurd (omega (arith, none))
      | Some t ↦ λ more.
          let rest = held_front told inputs others (omega (arith, more)) in omega (arith, rest)
    ] all

-- of inputs that are all held the last ones are
pub held_back :
    (told : Contents) (inputs others : List Input)
    → length (texts_held told (inputs ++ others)) ≡ length (inputs ++ others)
    → length (texts_held told others) ≡ length others
held_back told [] others all = all
held_back told (input ∷ inputs) others all =
    elim (told input.1) as (λ o.
    length (option_map_or (λ t. t ∷ texts_held told (inputs ++ others)) o [])
    ≡ length (input ∷ (inputs ++ others))
    → length (texts_held told others) ≡ length others) [
      | None ↦ λ none. absurd (omega (arith, none))
      | Some t ↦ λ more. held_back told inputs others (omega (arith, more))
    ] all

-- of inputs that are held the first ones are held, and so are the others
pub AreHeld-front :
    (contents : Option Contents) (inputs others : List Input)
    → AreHeld contents (inputs ++ others) → AreHeld contents inputs
AreHeld-front None inputs others held = tt
AreHeld-front (Some told) inputs others held = held_front told inputs others held

pub AreHeld-back :
    (contents : Option Contents) (inputs others : List Input)
    → AreHeld contents (inputs ++ others) → AreHeld contents others
AreHeld-back None inputs others held = tt
AreHeld-back (Some told) inputs others held = held_back told inputs others held

pub AreHeld-take :
    (contents : Option Contents) (n : ℕ) (inputs : List Input)
    → AreHeld contents inputs → AreHeld contents (take n inputs)
AreHeld-take contents n inputs held =
    AreHeld-front contents (take n inputs) (drop n inputs)
    (rw (take-append-drop n inputs) held)

-- one input more that was read whole
pub held-more :
    (contents : Option Contents) (inputs : List Input) (texts : List (List ℕ)) (input : Input)
    (left : Option (List ℕ)) (text : List ℕ)
    → slice_get inputs (length texts) ≡ Some input
    → IfTold contents (λ told. texts_held told (take (length texts) inputs) ≡ texts)
    → ReadsWhole contents input.1 left text
    → IfTold contents (λ told.
    texts_held told (take (length texts + 1) inputs) ≡ texts ++ text ∷ [])
held-more None inputs texts input left text here held read = tt
held-more (Some told) inputs texts input left text here held read =
    let within = slice_get_within inputs (length texts) input here in
    let all : length (texts_held told (take (length texts) inputs))
    ≡ length (take (length texts) inputs) =
    ap length held ∙ sym (length-take-le (length texts) inputs (omega (arith, within))) in
    ap (texts_held told) (take_next inputs (length texts) input here)
    ∙ texts_held-append told (take (length texts) inputs) (input ∷ []) all
    ∙ ap₂ (λ ts us. ts ++ us) held (texts_held-found told input [] text read.0)

left_of-end : (inputs : List Input) (left : Option (List ℕ)) → left ≡ Some [] → left_of inputs left ≡ Some []
left_of-end [] left end = refl
left_of-end (input ∷ inputs) left end = end

pub at_end-read :
    (contents : Option Contents) (inputs : List Input) (name : List ℕ)
    (left : Option (List ℕ)) (text : List ℕ)
    → ReadsWhole contents name left text → IfTold contents (λ _. left_of inputs left ≡ Some [])
at_end-read None inputs name left text read = tt
at_end-read (Some told) inputs name left text read = left_of-end inputs left read.1

module _ (command : Command) (asked : limit_asked command ≡ None) where
  -- texts that aren't all and pass no limit
  pub answer_after-none :
      (texts : List (List ℕ))
      → first_passed 0 (inputs_of command) texts ≡ None
      → length texts < length (inputs_of command)
      → answer_after (Some command) texts ≡ None
  answer_after-none texts none few =
      let inputs = inputs_of command in
      let other : (length texts == length inputs) ≡ false = grind arith in
      ap (λ l. or_limit l (or_limit (first_passed 0 inputs texts)
      (cond (length texts == length inputs) (answer_to_all command texts) None))) asked
      ∙ ap (λ l. or_limit l
      (cond (length texts == length inputs) (answer_to_all command texts) None)) none
      ∙ ap (λ b. cond b (answer_to_all command texts) None) other

  -- texts that pass a limit
  pub answer_after-limit :
      (texts : List (List ℕ)) (hit : LimitHit)
      → first_passed 0 (inputs_of command) texts ≡ Some hit
      → answer_after (Some command) texts ≡ Some (over_limit hit)
  answer_after-limit texts hit met =
      let inputs = inputs_of command in
      ap (λ l. or_limit l (or_limit (first_passed 0 inputs texts)
      (cond (length texts == length inputs) (answer_to_all command texts) None))) asked
      ∙ ap (λ l. or_limit l
      (cond (length texts == length inputs) (answer_to_all command texts) None)) met

  -- all texts, where they pass none
  pub answer_after-all :
      (texts : List (List ℕ))
      → first_passed 0 (inputs_of command) texts ≡ None
      → length texts ≡ length (inputs_of command)
      → answer_after (Some command) texts ≡ answer_to_all command texts
  answer_after-all texts none count =
      let inputs = inputs_of command in
      let same : (length texts == length inputs) ≡ true = grind arith in
      ap (λ l. or_limit l (or_limit (first_passed 0 inputs texts)
      (cond (length texts == length inputs) (answer_to_all command texts) None))) asked
      ∙ ap (λ l. or_limit l
      (cond (length texts == length inputs) (answer_to_all command texts) None)) none
      ∙ ap (λ b. cond b (answer_to_all command texts) None) same

  module _ (contents : Option Contents) (texts : List (List ℕ)) (input : Input)
      (here : slice_get (inputs_of command) (length texts) ≡ Some input)
      (held : IfTold contents (λ told.
      texts_held told (take (length texts) (inputs_of command)) ≡ texts))
      (none : first_passed 0 (inputs_of command) texts ≡ None) where
    -- an input behind others that were read and pass no limit is needed
    pub IsNeeded-read : IsNeeded contents (Some command) (length texts)
    IsNeeded-read =
        let inputs = inputs_of command in
        let few : length texts < length inputs = slice_get_within inputs (length texts) input here in
        elim contents as (λ o.
        IfTold o (λ told. texts_held told (take (length texts) inputs) ≡ texts)
        → IsNeeded o (Some command) (length texts)) [
          | None ↦ λ _. (tt, answer_after-none [] (first_passed-none 0 inputs) (omega (arith, few)))
          | Some told ↦ λ same. (
            ap length same ∙ sym (length-take-le (length texts) inputs (omega (arith, few))),
            ap (answer_after (Some command)) same ∙ answer_after-none texts none few,
          )
        ] held

    -- one that passes a limit calls for it
    pub IfCalledFor-limit :
        (hit : LimitHit) → IsOver contents input (bytes_after 0 (inputs_of command) texts) hit
        → IfCalledFor contents (Some command) (λ answer. answer ≡ Some (over_limit hit))
    IfCalledFor-limit hit over =
        let inputs = inputs_of command in
        let few : length texts < length inputs = slice_get_within inputs (length texts) input here in
        elim contents as (λ o.
        IfTold o (λ told. texts_held told (take (length texts) inputs) ≡ texts)
        → IsOver o input (bytes_after 0 inputs texts) hit
        → IfCalledFor o (Some command) (λ answer. answer ≡ Some (over_limit hit))) [
          | None ↦ λ _ _ answer is.
              let no = answer_after-none [] (first_passed-none 0 inputs) (omega (arith, few)) in cc
          | Some told ↦ λ same over.
              let more = texts_held told (drop (length texts + 1) inputs) in
              let all : length (texts_held told (take (length texts) inputs))
              ≡ length (take (length texts) inputs) =
              ap length same ∙ sym (length-take-le (length texts) inputs (omega (arith, few))) in
              let whole : texts_held told inputs ≡ texts ++ over.0 ∷ more =
              ap (texts_held told) (split_at inputs (length texts) input here)
              ∙ texts_held-append told (take (length texts) inputs)
              (input ∷ drop (length texts + 1) inputs) all
              ∙ ap₂ (λ ts us. ts ++ us) same
              (texts_held-found told input (drop (length texts + 1) inputs) over.0 over.1) in
              answer_after-limit (texts_held told inputs) hit
              (ap (first_passed 0 inputs) whole
              ∙ first_passed-met 0 inputs texts more input over.0 hit here none over.2)
        ] held over

-- what is asked for passes a limit
pub answer_after-asked :
    (command : Command) (texts : List (List ℕ)) (hit : LimitHit)
    → limit_asked command ≡ Some hit → answer_after (Some command) texts ≡ Some (over_limit hit)
answer_after-asked command texts hit asked =
    let inputs = inputs_of command in
    ap (λ l. or_limit l (or_limit (first_passed 0 inputs texts)
    (cond (length texts == length inputs) (answer_to_all command texts) None))) asked

pub none_long : {A : Type 0} (xs : List A) → length xs ≡ 0 → xs ≡ []
none_long [] none = refl
none_long (x ∷ xs) none = absurd (omega (arith, none))

-- a command that calls for an answer before anything is read calls for it whatever it reads
pub answer_after-unread :
    (command : Command) (texts : List (List ℕ)) (answer : Answer)
    → length texts ≡ length (inputs_of command)
    → answer_after (Some command) [] ≡ Some answer
    → answer_after (Some command) texts ≡ Some answer
answer_after-unread command texts answer count is =
    let inputs = inputs_of command in
    let by : List (List ℕ) → Option Answer =
    λ ts. or_limit (first_passed 0 inputs ts)
    (cond (length ts == length inputs) (answer_to_all command ts) None) in
    elim (limit_asked command) as (λ l. or_limit l (by []) ≡ Some answer
    → or_limit l (by texts) ≡ Some answer) [
      | Some hit ↦ λ same. same
      | None ↦ λ unread.
          ⊎_elim
          (λ none.
          let empty : texts ≡ [] = none_long texts (grind (arith, none, count)) in
          subst (λ ts. by ts ≡ Some answer) (sym empty) unread)
          (λ some.
          let nothing : by [] ≡ None =
          ap (λ l. or_limit l (cond (0 == length inputs) (answer_to_all command []) None))
          (first_passed-none 0 inputs)
          ∙ ap (λ b. cond b (answer_to_all command []) None) some in cc)
          (cases_Bool (0 == length inputs))
    ] is
