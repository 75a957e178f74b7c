-- The documents among the inputs of a command, by their places and by their numbers.
use Rattle.std.proofs.Common.{◌≡◌, ℕ, zero, suc, ◌+◌, ◌-◌, ◌<◌, ◌≤◌, Bool, true, false, cond, ◌==◌}
use Rattle.std.proofs.Common.{List, [], ◌∷◌, length, Some, None, slice_get, refl, sym, ap, ◌∙◌, arith}
use Rattle.std.proofs.Common.{nat_lt, nat_le, ⊎_elim, drop, get_or, ap₂}
use Rattle.std.specs.Prelude.{◌&&◌}
use Rattle.std.specs.declared.option.Option.{Option}
use Rattle.std.specs.Option.{option_map, option_or}
use Rattle.std.specs.List.{find}
use Rattle.std.proofs.lemmas.Bool.{cases_Bool}
use Rattle.script_lang.specs.Lines.{lines}
use Rattle.ss_base.specs.declared.limits.TheConstants as limits
use Rattle.command_line.specs.declared.command.Command.{Command}
use Rattle.command_line.specs.declared.setting.Mode.{Mode}
use Rattle.command_line.specs.declared.command.Command.TheVariants.{Index, Script, Replay, Gen}
use Rattle.ss_top.specs.declared.status.LimitHit.{LimitHit}
use Rattle.ss_top.specs.declared.status.LimitHit.TheVariants.{Names, Document, AllDocuments}
use Rattle.ss_top.specs.declared.status.LimitHit.TheVariants.{StopBytes, ScriptBytes, ScriptLines}
use Rattle.ss_top.specs.declared.status.Which.{Which}
use Rattle.ss_top.specs.declared.status.Which.TheVariants as input
use Rattle.std.specs.Prelude.{IsSome, is_some}
use Rattle.ss_top.specs.Inputs.{Input, documents_from, index_inputs, inputs_of, is_same_input}
use Rattle.ss_top.specs.Inputs.{name_of}
use Rattle.ss_top.specs.Limits.{first_limit, first_limit_from, limit_over}
use Rattle.ss_top.specs.Limits.{script_limit}
use Rattle.ss_top.specs.Answers.{first_passed, limit_asked}
use Rattle.ss_top.specs.Answers.{prints, answer_after}
use Rattle.ss_top.specs.Runs.{IsReplay}
use Rattle.command_line.specs.CommandLine.{CanBeAsked}
use Rattle.index_definitions.specs.IndexText.{index_text}
use Rattle.ss_top.proofs.AnswersLemmas.{or_none, answer_after-all}

pub length-documents_from :
    (i : ℕ) (names : List (List ℕ)) → length (documents_from i names) ≡ length names
length-documents_from i [] = refl
length-documents_from i (name ∷ names) = ap suc (length-documents_from (i + 1) names)

-- the document at a place
pub slice_get-documents_from :
    (i k : ℕ) (names : List (List ℕ))
    → slice_get (documents_from i names) k
    ≡ option_map (λ name. (input.Name (i + k), name)) (slice_get names k)
slice_get-documents_from i k [] = refl
slice_get-documents_from i zero (name ∷ names) =
    let same : i ≡ i + 0 = omega arith in ap (λ n. Some (input.Name n, name)) same
slice_get-documents_from i (suc k) (name ∷ names) =
    let same : i + 1 + k ≡ i + suc k = omega arith in
    slice_get-documents_from (i + 1) k names
    ∙ ap (λ n. option_map (λ name. (input.Name n, name)) (slice_get names k)) same

-- the name of a document by its number
pub name_of-documents_from :
    (i j : ℕ) (names : List (List ℕ)) → i ≤ j
    → name_of (documents_from i names) (input.Name j) ≡ slice_get names (j - i)
name_of-documents_from i j [] le = refl
name_of-documents_from i j (name ∷ names) le =
    let test : Input → Bool = λ x. is_same_input x.0 (input.Name j) in
    let rest = find test (documents_from (i + 1) names) in
    ⊎_elim
    (λ same.
    let first : j - i ≡ 0 = grind (arith, same) in
    ap (λ b. option_map (λ x. x.1) (cond b (Some (input.Name i, name)) rest)) same
    ∙ sym (ap (slice_get (name ∷ names)) first))
    (λ other.
    let later : i + 1 ≤ j = grind (arith, other) in
    let place : suc (j - (i + 1)) ≡ j - i = omega (arith, later) in
    ap (λ b. option_map (λ x. x.1) (cond b (Some (input.Name i, name)) rest)) other
    ∙ name_of-documents_from (i + 1) j names later
    ∙ ap (slice_get (name ∷ names)) place)
    (cases_Bool (i == j))

-- no document has the number 0
pub name_of-before :
    (i j : ℕ) (names : List (List ℕ)) → j < i
    → name_of (documents_from i names) (input.Name j) ≡ None
name_of-before i j [] less = refl
name_of-before i j (name ∷ names) less =
    let test : Input → Bool = λ x. is_same_input x.0 (input.Name j) in
    let rest = find test (documents_from (i + 1) names) in
    let other : (i == j) ≡ false = grind (arith, less) in
    ap (λ b. option_map (λ x. x.1) (cond b (Some (input.Name i, name)) rest)) other
    ∙ name_of-before (i + 1) j names (omega (arith, less))

-- a document is no other input
pub name_of-other :
    (i : ℕ) (names : List (List ℕ))
    → (name_of (documents_from i names) input.Stop ≡ None)
    × (name_of (documents_from i names) input.Script ≡ None)
    × (name_of (documents_from i names) input.Schedule ≡ None)
name_of-other i [] = (refl, refl, refl)
name_of-other i (name ∷ names) = name_of-other (i + 1) names

-- the stop list among the inputs of `index`
pub name_of-stop :
    (stop : Option (List ℕ)) (names : List (List ℕ))
    → name_of (index_inputs stop names) input.Stop ≡ stop
name_of-stop None names = (name_of-other 1 names).0
name_of-stop (Some stop) names = refl

-- it has no script and no schedule
pub name_of-none :
    (stop : Option (List ℕ)) (names : List (List ℕ))
    → (name_of (index_inputs stop names) input.Script ≡ None)
    × (name_of (index_inputs stop names) input.Schedule ≡ None)
name_of-none None names = ((name_of-other 1 names).1, (name_of-other 1 names).2)
name_of-none (Some stop) names = ((name_of-other 1 names).1, (name_of-other 1 names).2)

-- one limit, or else another
split_limit :
    (a b : Bool) (x y : LimitHit) (rest : Option LimitHit)
    → option_or (cond a (Some x) (cond b (Some y) None)) rest ≡ cond a (Some x) (cond b (Some y) rest)
split_limit true b x y rest = refl
split_limit false true x y rest = refl
split_limit false false x y rest = refl

-- the first limit of documents is that of these inputs
pub first_passed-documents_from :
    (before i : ℕ) (names documents : List (List ℕ))
    → length documents ≡ length names
    → first_passed before (documents_from i names) documents
    ≡ first_limit_from before i documents
first_passed-documents_from before i [] [] count = refl
first_passed-documents_from before i [] (d ∷ ds) count = absurd (omega (arith, count))
first_passed-documents_from before i (name ∷ names) [] count = absurd (omega (arith, count))
first_passed-documents_from before i (name ∷ names) (d ∷ ds) count =
    let own = nat_lt limits.DOCUMENT_BYTES (length d)
    && nat_le (before + limits.DOCUMENT_BYTES) limits.ALL_DOCUMENT_BYTES in
    let all = nat_lt limits.ALL_DOCUMENT_BYTES (before + length d) in
    split_limit own all (Document i) (AllDocuments i)
    (first_passed (before + length d) (documents_from (i + 1) names) ds)
    ∙ ap (λ rest. cond own (Some (Document i)) (cond all (Some (AllDocuments i)) rest))
    (first_passed-documents_from (before + length d) (i + 1) names ds (omega (arith, count)))

-- what passes no limit isn't more than it may be
pub limit_over-none : (most n : ℕ) (hit : LimitHit) → limit_over most n hit ≡ None → n ≤ most
limit_over-none most n hit none =
    ⊎_elim
    (λ over.
    let some : limit_over most n hit ≡ Some hit = ap (λ b. cond b (Some hit) None) over in cc)
    (λ fits. grind (arith, fits))
    (cases_Bool (nat_lt most n))

-- inputs of `index` that pass no limit, without a stop list
pub index_within :
    (names documents : List (List ℕ))
    → limit_over limits.NAMES (length names) (Names (length names)) ≡ None
    → first_passed 0 (documents_from 1 names) documents ≡ None
    → length documents ≡ length (documents_from 1 names)
    → (length documents ≤ limits.NAMES) × (first_limit documents ≡ None)
index_within names documents asked none count =
    let same = count ∙ length-documents_from 1 names in
    let few = limit_over-none limits.NAMES (length names) (Names (length names)) asked in
    (omega (arith, same, few), sym (first_passed-documents_from 0 1 names documents same) ∙ none)

-- and with one
pub index_within_stop :
    (name : List ℕ) (names : List (List ℕ)) (stop : List ℕ) (documents : List (List ℕ))
    → limit_over limits.NAMES (length names) (Names (length names)) ≡ None
    → first_passed 0 ((input.Stop, name) ∷ documents_from 1 names) (stop ∷ documents) ≡ None
    → length documents ≡ length (documents_from 1 names)
    → (length stop ≤ limits.STOP_LIST_BYTES) × (length documents ≤ limits.NAMES)
    × (first_limit documents ≡ None)
index_within_stop name names stop documents asked none count =
    let parts = or_none (limit_over limits.STOP_LIST_BYTES (length stop) StopBytes)
    (first_passed 0 (documents_from 1 names) documents) none in
    let rest = index_within names documents asked parts.1 count in (
      limit_over-none limits.STOP_LIST_BYTES (length stop) StopBytes parts.0,
      rest.0,
      rest.1,
    )

-- a script that passes no limit
pub script_within :
    (name script : List ℕ)
    → first_passed 0 ((input.Script, name) ∷ []) (script ∷ []) ≡ None
    → length script ≤ limits.SCRIPT_BYTES
script_within name script none =
    let parts = or_none (script_limit script) None none in
    ⊎_elim
    (λ over.
    let some : script_limit script ≡ Some ScriptBytes =
    ap (λ b. cond b (Some ScriptBytes)
    (limit_over limits.SCRIPT_LINES (length (lines script)) ScriptLines)) over in cc)
    (λ fits. grind (arith, fits))
    (cases_Bool (nat_lt limits.SCRIPT_BYTES (length script)))

-- no element stands past the end
pub none_past : {A : Type 0} (xs : List A) (i : ℕ) → slice_get xs i ≡ None → length xs ≤ i
none_past [] i none = omega arith
none_past (x ∷ xs) zero none = cc
none_past (x ∷ xs) (suc i) none = let rest = none_past xs i none in omega (arith, rest)

is_same_input-refl : (which : Which) → is_same_input which which ≡ true
is_same_input-refl input.Stop = refl
is_same_input-refl (input.Name i) = grind arith
is_same_input-refl input.Script = refl
is_same_input-refl input.Schedule = refl

-- an input that is listed has a name
pub IsSome-name_of :
    (inputs : List Input) (k : ℕ) (which : Which) (name : List ℕ)
    → slice_get inputs k ≡ Some (which, name) → IsSome (name_of inputs which)
IsSome-name_of [] k which name here = cc
IsSome-name_of (i ∷ is) zero which name here =
    let test : Input → Bool = λ x. is_same_input x.0 which in
    let same : i.0 ≡ which = cc in
    let found : test i ≡ true = ap (λ w. is_same_input w which) same ∙ is_same_input-refl which in
    ap (λ b. is_some (option_map (λ x. x.1) (cond b (Some i) (find test is)))) found
IsSome-name_of (i ∷ is) (suc k) which name here =
    let test : Input → Bool = λ x. is_same_input x.0 which in
    elim (test i) as (λ b. IsSome (option_map (λ x. x.1) (cond b (Some i) (find test is)))) [
      | true ↦ refl
      | false ↦ IsSome-name_of is k which name here
    ]

-- inputs of `index` that aren't too many
pub few_inputs :
    (stop : Option (List ℕ)) (names : List (List ℕ)) → length names ≤ limits.NAMES
    → (length (index_inputs stop names) ≤ limits.NAMES + 1)
    × (0 < length (index_inputs stop names)
    → limit_over limits.NAMES (length names) (Names (length names)) ≡ None)
few_inputs stop names few =
    let fits : nat_lt limits.NAMES (length names) ≡ false = grind arith in
    let count = length-documents_from 1 names in (
      elim stop as (λ o. length (index_inputs o names) ≤ limits.NAMES + 1) [
        | None ↦ omega (arith, count, few)
        | Some name ↦ omega (arith, count, few)
      ],
      λ _. ap (λ b. cond b (Some (Names (length names))) None) fits,
    )

-- the texts of all inputs of a command, which pass no limit
abbrev pub Fit : Command → List (List ℕ) → Type 0
Fit command texts =
    CanBeAsked command × (length texts ≡ length (inputs_of command))
    × (0 < length (inputs_of command) → limit_asked command ≡ None)
    × (first_passed 0 (inputs_of command) texts ≡ None)

-- those of `index` without a stop list
pub Fit-index :
    (delegates : ℕ) (mode : Mode) (ring : ℕ) (names documents : List (List ℕ))
    → Fit (Index delegates mode ring None names) documents
    → (1 ≤ length documents) × (length documents ≤ limits.NAMES) × (first_limit documents ≡ None)
    × (answer_after (Some (Index delegates mode ring None names)) documents
    ≡ Some (prints (index_text documents [])))
Fit-index delegates mode ring names documents (can, count, asked, none) =
    let some = length-documents_from 1 names in
    let limit = asked (omega (arith, some, can.1)) in
    let within = index_within names documents limit none count in (
      omega (arith, some, can.1, count),
      within.0,
      within.1,
      answer_after-all (Index delegates mode ring None names) limit documents none count,
    )

-- and with one
pub Fit-index-stop :
    (delegates : ℕ) (mode : Mode) (ring : ℕ) (name : List ℕ) (names : List (List ℕ)) (stop : List ℕ) (documents : List (List ℕ))
    → Fit (Index delegates mode ring (Some name) names) (stop ∷ documents)
    → (length stop ≤ limits.STOP_LIST_BYTES)
    × (1 ≤ length documents) × (length documents ≤ limits.NAMES) × (first_limit documents ≡ None)
    × (answer_after (Some (Index delegates mode ring (Some name) names)) (stop ∷ documents)
    ≡ Some (prints (index_text documents stop)))
Fit-index-stop delegates mode ring name names stop documents (can, count, asked, none) =
    let some = length-documents_from 1 names in
    let limit = asked (omega arith) in
    let within = index_within_stop name names stop documents limit none (omega (arith, count)) in (
      within.0,
      omega (arith, some, can.1, count),
      within.1,
      within.2,
      answer_after-all (Index delegates mode ring (Some name) names) limit (stop ∷ documents) none count,
    )

-- what stands behind the first
pub removed :
    {A : Type 0} (xs : List A) (x : A) (ys : List A)
    → 0 < length xs → x ≡ get_or xs 0 x → ys ≡ drop 1 xs → xs ≡ x ∷ ys
removed [] x ys some value rest = absurd (omega (arith, some))
removed (y ∷ xs) x ys some value rest = sym (ap₂ (λ z zs. z ∷ zs) value rest)

-- a replay has few inputs, and asks for no limit
pub few_replay :
    (command : Command) (lanes : ℕ) (order : Bool) → IsReplay command lanes order
    → (length (inputs_of command) ≤ limits.NAMES + 1)
    × (0 < length (inputs_of command) → limit_asked command ≡ None)
few_replay (Index delegates mode ring stop names) lanes order is = absurd is
few_replay (Script delegates mode ring trace name) lanes order is = absurd is
few_replay (Replay delegates order one other) lanes asked is = (omega arith, λ _. refl)
few_replay (Gen delegates mode ring docs words seed) lanes order is = absurd is
