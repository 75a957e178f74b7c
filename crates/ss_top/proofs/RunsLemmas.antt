-- Which answer the result of a command gives, and what a run leaves then.
use Rattle.std.proofs.Common.{◌≡◌, ◌≢◌, ℕ, ◌<◌, true, false, ◌==◌, List, [], length}
use Rattle.std.proofs.Common.{Some, None, Result, Ok, Err, refl, sym, ap, ◌∙◌, subst, ⊎_elim, arith}
use Rattle.std.proofs.Common.{take, inr}
use Rattle.std.specs.Prelude.{IfOk, IfSome, OnSome}
use Rattle.script_lang.specs.Listings.{Listing}
use Rattle.std.specs.declared.option.Option.{Option}
use Rattle.std.proofs.lemmas.Bool.{cases_Bool}
use Rattle.std.proofs.lemmas.List.{take_all}
use Rattle.execution_definitions.specs.declared.refusal.Refusal.{Refusal}
use Rattle.ss_base.specs.declared.outside.Shelf
use Rattle.ss_base.specs.declared.outside.Sink
use Rattle.ss_base.specs.Faults.{Rose}
use Rattle.ss_base.specs.Shelves.{Contents}
use Rattle.command_line.specs.declared.command.Command.{Command}
use Rattle.ss_top.specs.declared.commands.Broken.{Broken}
use Rattle.ss_top.specs.declared.commands.Printed.{Printed}
use Rattle.ss_top.specs.declared.no_text.NoText.{NoText}
use Rattle.ss_top.specs.declared.no_text.NoText.TheVariants as no_text
use Rattle.ss_top.specs.declared.status.Which.{Which}
use Rattle.ss_top.specs.declared.status.LimitHit.{LimitHit}
use Rattle.ss_top.specs.declared.status.TextFault.{TextFault}
use Rattle.ss_top.specs.declared.status.Status.{Status}
use Rattle.ss_top.specs.declared.status.Status.TheVariants.{Usage, ReadFault, OutOfMemory}
use Rattle.ss_top.specs.declared.status.Status.TheVariants.{Limit, Refused, Text}
use Rattle.ss_top.specs.Inputs.{inputs_of, inputs_for}
use Rattle.ss_top.specs.Answers.{Answer, over_limit, prints, has_fault}
use Rattle.ss_top.specs.Answers.{limit_asked, answer_after, texts_held}
use Rattle.ss_top.specs.Readings.{IfTold, IfCalledFor, Asks, AsksInOrder, Reads, FailsAt}
use Rattle.ss_top.specs.Readings.{IsLimitOf, left_of}
use Rattle.ss_top.specs.Printings.{Answers, IsPrinted, HasEnded, HasNames, printed_answer}
use Rattle.ss_top.specs.Printings.{script_names}
use Rattle.ss_top.specs.Runs.{CanBreak, CanHave, Meets, Completes, IsWritten, StaysSure, Runs}
use Rattle.ss_top.specs.Runs.{Tells, TellsStatus}
use Rattle.ss_top.specs.Texts.{usage_text, memory_text}
use Rattle.ss_top.specs.Statuses.{has_written, has_read_all}
use Rattle.ss_top.proofs.AnswersLemmas.{none_long, first_passed-none, answer_after-none}
use Rattle.ss_top.proofs.AnswersLemmas.{answer_after-unread}
use Rattle.ss_top.proofs.ReadingsLemmas.{AsksInOrder-none, AsksInOrder-steady, FailsAt-steady}

-- a fact of every answer is one of the answer that is called for
pub IfCalledFor-each :
    (contents : Option Contents) (command : Option Command) (P : Option Answer → Type 0)
    → ((answer : Option Answer) → P answer) → IfCalledFor contents command P
IfCalledFor-each None command P each = λ answer is. each (Some answer)
IfCalledFor-each (Some told) command P each = each _

IfCalledFor-weaker :
    (contents : Option Contents) (command : Option Command) (P Q : Option Answer → Type 0)
    → ((answer : Option Answer) → P answer → Q answer)
    → IfCalledFor contents command P → IfCalledFor contents command Q
IfCalledFor-weaker None command P Q weaker given =
    λ answer is. weaker (Some answer) (given answer is)
IfCalledFor-weaker (Some told) command P Q weaker given = weaker _ given

-- where there is no text
pub Answers-failed :
    (contents : Option Contents) (command : Option Command) (left : Option (List ℕ))
    (fault : NoText)
    → ((hit : LimitHit) → fault ≡ no_text.Limit hit
    → IfCalledFor contents command (λ answer. answer ≡ Some (over_limit hit)))
    → ((what : TextFault) → fault ≢ no_text.Text what)
    → IfCalledFor contents command (λ answer. Answers answer left (Err fault))
Answers-failed contents command left (no_text.ReadFault which) limit text =
    IfCalledFor-each contents command _ (λ answer. tt)
Answers-failed contents command left (no_text.Limit hit) limit text = limit hit refl
Answers-failed contents command left (no_text.Text what) limit text = absurd (text what refl)
Answers-failed contents command left no_text.OutOfMemory limit text =
    IfCalledFor-each contents command _ (λ answer. tt)

-- where nothing is told, what is called for needs no input
no_inputs :
    (command : Command) (answer : Answer)
    → (0 < length (inputs_of command) → limit_asked command ≡ None)
    → answer_after (Some command) [] ≡ Some answer → inputs_of command ≡ []
no_inputs command answer asked is =
    ⊎_elim
    (λ none. none_long (inputs_of command) (grind (arith, none)))
    (λ some.
    let more : 0 < length (inputs_of command) = grind (arith, some) in
    let nothing = answer_after-none command (asked more) []
    (first_passed-none 0 (inputs_of command)) more in cc)
    (cases_Bool (length (inputs_of command) == 0))

-- where all inputs were read
pub Answers-read :
    {S : Type 0} (shelf : Shelf.Ghosts S) (a b : S) (command : Command) (texts : List (List ℕ))
    (result : Result Printed NoText)
    → Reads shelf a b (inputs_of command) texts
    → length texts ≡ length (inputs_of command)
    → (0 < length (inputs_of command) → limit_asked command ≡ None)
    → Answers (answer_after (Some command) texts) (Some []) result
    → IfCalledFor (shelf.contents a) (Some command) (λ answer.
    Answers answer (left_of (inputs_of command) (shelf.left b)) result)
Answers-read shelf a b command texts result reads count asked given =
    let inputs = inputs_of command in
    let left = shelf.left b in
    let all : take (length texts) inputs ≡ inputs =
    take_all (length texts) inputs (omega (arith, count)) in
    elim (shelf.contents a) as (λ o.
    IfTold o (λ told. texts_held told (take (length texts) inputs) ≡ texts)
    → IfTold o (λ _. left_of (take (length texts) inputs) left ≡ Some [])
    → IfCalledFor o (Some command) (λ answer. Answers answer (left_of inputs left) result)) [
      | None ↦ λ _ _ answer is.
          let empty = no_inputs command answer asked is in
          let end : left_of inputs left ≡ Some [] =
          ap (λ list. left_of list left) empty in
          subst (λ l. Answers (Some answer) l result) (sym end)
          (subst (λ called. Answers called (Some []) result)
          (answer_after-unread command texts answer count is) given)
      | Some told ↦ λ held at_end.
          let same : texts ≡ texts_held told inputs =
          sym held ∙ ap (texts_held told) all in
          let end : left_of inputs left ≡ Some [] =
          sym (ap (λ list. left_of list left) all) ∙ at_end in
          subst (λ l. Answers (answer_after (Some command) (texts_held told inputs)) l result)
          (sym end)
          (subst (λ ts. Answers (answer_after (Some command) ts) (Some []) result) same given)
    ] reads.held reads.at_end

-- where the words are no command, no answer is called for
no_command :
    (contents : Option Contents) → IfCalledFor contents None (λ answer. answer ≡ None)
no_command None = λ answer is. absurd (cc)
no_command (Some told) = refl

-- where no text is called for, none has to be printed
Completes-none :
    (contents : Option Contents) (command : Option Command) (other : Option Answer)
    (status : Status) (shelf_rose out_rose : Type 0)
    → ((text : List ℕ) → other ≢ Some (prints text))
    → IfCalledFor contents command (λ answer. answer ≡ other)
    → IfCalledFor contents command (λ answer. Completes answer status shelf_rose out_rose)
Completes-none contents command other status shelf_rose out_rose differs =
    IfCalledFor-weaker contents command _ _
    (λ answer is text called _ _. absurd (differs text (sym is ∙ called)))

-- where the shelf's count rose
pub Completes-rose :
    (contents : Option Contents) (command : Option Command) (status : Status)
    (shelf_rose out_rose : Type 0)
    → shelf_rose
    → IfCalledFor contents command (λ answer. Completes answer status shelf_rose out_rose)
Completes-rose contents command status shelf_rose out_rose rose =
    IfCalledFor-each contents command _
    (λ answer text is shelf_stood out_stood. absurd (shelf_stood rose))

module _ {S K : Type 0} (shelf : Shelf.Ghosts S) (sink : Sink.Ghosts K) where
  -- nothing was written
  Runs-quiet :
      (command : Option Command) (status : Status) (a b : S) (k : K)
      → has_written status ≡ false
      → AsksInOrder shelf a b command
      → (has_read_all status ≡ true → Asks shelf a b (inputs_for command))
      → ((which : Which) → status ≡ ReadFault which → FailsAt shelf a b command which)
      → ((hit : LimitHit) → status ≡ Limit hit → IsLimitOf command hit)
      → ((fault : TextFault) → status ≡ Text fault → CanHave command fault)
      → IfCalledFor (shelf.contents a) command (λ answer.
      Meets answer status (sink.gained k) (sink.gained k)
      (left_of (inputs_for command) (shelf.left b)))
      → IfCalledFor (shelf.contents a) command (λ answer.
      Completes answer status (Rose (shelf.faults a) (shelf.faults b))
      (Rose (sink.faults k) (sink.faults k)))
      → Runs shelf sink command status a b k k
  Runs-quiet command status a b k unwritten asks whole fails limit text meets complete =
      record {
        asks = asks;
        whole = whole;
        read_fault = fails;
        steady = λ steady held. (
          AsksInOrder-steady shelf a b command asks steady held,
          λ which is. FailsAt-steady shelf a b command which (fails which is) steady held,
        );
        never_falls = omega arith;
        write_fault = λ is.
            let written : true ≡ false = sym (ap has_written is) ∙ unwritten in absurd (cc);
        sure =
            IfCalledFor-each (shelf.contents a) command _ (λ answer text called enough. (
              refl,
              λ is. let written : true ≡ false = sym (ap has_written is) ∙ unwritten in absurd (cc),
            ));
        sure_after =
            IfCalledFor-each (shelf.contents a) command _ (λ answer text called. omega arith);
        limit = limit;
        refused = λ line refusal is.
            let written : true ≡ false = sym (ap has_written is) ∙ unwritten in absurd (cc);
        text = text;
        meets = meets;
        quiet = λ _. refl;
        complete = complete;
      }

  -- memory ran out
  pub Runs-memory :
      (command : Option Command) (a b : S) (k : K)
      → AsksInOrder shelf a b command → Runs shelf sink command OutOfMemory a b k k
  Runs-memory command a b k asks =
      Runs-quiet command OutOfMemory a b k refl asks
      (λ all. absurd (cc)) (λ which is. absurd (cc)) (λ hit is. absurd (cc))
      (λ fault is. absurd (cc))
      (IfCalledFor-each (shelf.contents a) command _ (λ answer. tt))
      (IfCalledFor-each (shelf.contents a) command _ (λ answer text called _ _. inr refl))

  -- the words are no command
  pub Runs-usage : (s : S) (k : K) → Runs shelf sink None Usage s s k k
  Runs-usage s k =
      Runs-quiet None Usage s s k refl (AsksInOrder-none shelf s None)
      (λ all. absurd (cc)) (λ which is. absurd (cc)) (λ hit is. absurd (cc))
      (λ fault is. absurd (cc))
      (no_command (shelf.contents s))
      (Completes-none (shelf.contents s) None None Usage _ _ (λ text is. absurd (cc))
      (no_command (shelf.contents s)))

  -- an input wasn't read
  pub Runs-failed :
      (command : Option Command) (which : Which) (a b : S) (k : K)
      → AsksInOrder shelf a b command → FailsAt shelf a b command which
      → Runs shelf sink command (ReadFault which) a b k k
  Runs-failed command which a b k asks fails =
      Runs-quiet command (ReadFault which) a b k refl asks
      (λ all. absurd (cc))
      (λ other is. let same : which ≡ other = cc in
      subst (λ w. FailsAt shelf a b command w) same fails)
      (λ hit is. absurd (cc))
      (λ fault is. absurd (cc))
      (IfCalledFor-each (shelf.contents a) command _ (λ answer. tt))
      (Completes-rose (shelf.contents a) command (ReadFault which) _ _ fails.rose)

  -- a limit was passed
  pub Runs-limit :
      (command : Option Command) (hit : LimitHit) (a b : S) (k : K)
      → AsksInOrder shelf a b command → IsLimitOf command hit
      → IfCalledFor (shelf.contents a) command (λ answer. answer ≡ Some (over_limit hit))
      → Runs shelf sink command (Limit hit) a b k k
  Runs-limit command hit a b k asks limit called =
      Runs-quiet command (Limit hit) a b k refl asks
      (λ all. absurd (cc)) (λ which is. absurd (cc))
      (λ other is. let same : hit ≡ other = cc in subst (λ h. IsLimitOf command h) same limit)
      (λ fault is. absurd (cc))
      called
      (Completes-none (shelf.contents a) command (Some (over_limit hit)) (Limit hit) _ _
      (λ text is. absurd (cc)) called)

  -- a text is wrong
  pub Runs-wrong :
      (command : Option Command) (fault : TextFault) (a b : S) (k : K)
      → AsksInOrder shelf a b command → Asks shelf a b (inputs_for command)
      → CanHave command fault
      → IfCalledFor (shelf.contents a) command (λ answer. answer ≡ Some (has_fault fault))
      → Runs shelf sink command (Text fault) a b k k
  Runs-wrong command fault a b k asks whole can called =
      Runs-quiet command (Text fault) a b k refl asks
      (λ all. whole) (λ which is. absurd (cc)) (λ hit is. absurd (cc))
      (λ other is. let same : fault ≡ other = cc in subst (λ f. CanHave command f) same can)
      called
      (Completes-none (shelf.contents a) command (Some (has_fault fault)) (Text fault) _ _
      (λ text is. absurd (cc)) called)

  -- a text was written
  pub Runs-printed :
      (command : Option Command) (given : Answer) (status : Status) (a b : S) (k l : K)
      → AsksInOrder shelf a b command → Asks shelf a b (inputs_for command)
      → ((line : ℕ) (refusal : Refusal) → status ≡ Refused line refusal → CanBreak command)
      → IfCalledFor (shelf.contents a) command (λ answer.
      (answer ≡ Some given) × (left_of (inputs_for command) (shelf.left b) ≡ Some []))
      → IsPrinted sink given status k l
      → Runs shelf sink command status a b k l
  Runs-printed command given status a b k l asks whole breaks called printed =
      let left = left_of (inputs_for command) (shelf.left b) in
      record {
        asks = asks;
        whole = λ all. whole;
        read_fault = λ which is.
            let no : false ≡ true = sym (ap has_written is) ∙ printed.written in absurd (cc);
        steady = λ steady held. (
          AsksInOrder-steady shelf a b command asks steady held,
          λ which is.
              let no : false ≡ true = sym (ap has_written is) ∙ printed.written in absurd (cc),
        );
        never_falls = printed.never_falls;
        write_fault = printed.write_fault;
        sure =
            IfCalledFor-weaker (shelf.contents a) command _ _ (λ answer is.
            subst (λ called. IsWritten called status (sink.sure k) (sink.faults k) (sink.faults l))
            (sym is.0) printed.sure) called;
        sure_after =
            IfCalledFor-weaker (shelf.contents a) command _ _ (λ answer is.
            subst (λ called. StaysSure called (sink.sure k) (sink.sure l))
            (sym is.0) printed.sure_after) called;
        limit = λ hit is.
            let no : false ≡ true = sym (ap has_written is) ∙ printed.written in absurd (cc);
        refused = breaks;
        text = λ fault is.
            let no : false ≡ true = sym (ap has_written is) ∙ printed.written in absurd (cc);
        meets =
            IfCalledFor-weaker (shelf.contents a) command _ _ (λ answer is.
            subst (λ called. Meets called status (sink.gained k) (sink.gained l) left) (sym is.0)
            (subst (λ rest. Meets (Some given) status (sink.gained k) (sink.gained l) rest)
            (sym is.1) printed.meets)) called;
        quiet = λ unwritten.
            let no : false ≡ true = sym unwritten ∙ printed.written in absurd (cc);
        complete =
            IfCalledFor-weaker (shelf.contents a) command _ _ (λ answer is text expected stood.
            printed.complete text (sym is.0 ∙ expected) (λ no. no)) called;
      }

  -- nothing was written, and so out is as it was
  ended-unwritten :
      (command : Option Command) (status other : Status) (a b : S) (k l : K)
      → (status ≡ other) × (l ≡ k) → Runs shelf sink command other a b k k
      → Runs shelf sink command status a b k l
  ended-unwritten command status other a b k l same runs =
      subst (λ s. Runs shelf sink command s a b k l) (sym same.0)
      (subst (λ out. Runs shelf sink command other a b k out) (sym same.1) runs)

  -- the text of a command was written, or it has none
  pub Runs-ended :
      (command : Option Command) (given : Result Printed NoText) (status : Status)
      (a b : S) (k l : K)
      → AsksInOrder shelf a b command
      → IfOk given (λ _. Asks shelf a b (inputs_for command))
      → IfCalledFor (shelf.contents a) command (λ answer.
      Answers answer (left_of (inputs_for command) (shelf.left b)) given)
      → ((line : ℕ) (refusal : Refusal) → status ≡ Refused line refusal → CanBreak command)
      → ((which : Which) → given ≡ Err (no_text.ReadFault which)
      → FailsAt shelf a b command which)
      → ((hit : LimitHit) → given ≡ Err (no_text.Limit hit) → IsLimitOf command hit)
      → ((fault : TextFault) → given ≡ Err (no_text.Text fault)
      → CanHave command fault × Asks shelf a b (inputs_for command))
      → HasEnded sink given status k l
      → Runs shelf sink command status a b k l
  Runs-ended command (Ok printed) status a b k l asks whole called breaks fails limit text ended =
      Runs-printed command (printed_answer printed) status a b k l asks whole breaks called ended
  Runs-ended command (Err (no_text.ReadFault which)) status a b k l asks whole called breaks fails
      limit text ended =
      ended-unwritten command status (ReadFault which) a b k l ended
      (Runs-failed command which a b k asks (fails which refl))
  Runs-ended command (Err (no_text.Limit hit)) status a b k l asks whole called breaks fails
      limit text ended =
      ended-unwritten command status (Limit hit) a b k l ended
      (Runs-limit command hit a b k asks (limit hit refl) called)
  Runs-ended command (Err (no_text.Text fault)) status a b k l asks whole called breaks fails
      limit text ended =
      let given = text fault refl in
      ended-unwritten command status (Text fault) a b k l ended
      (Runs-wrong command fault a b k asks given.1 given.0 called)
  Runs-ended command (Err no_text.OutOfMemory) status a b k l asks whole called breaks fails
      limit text ended =
      ended-unwritten command status OutOfMemory a b k l ended (Runs-memory command a b k asks)

module _ {K : Type 0} (sink : Sink.Ghosts K) where
  -- a command doesn't end as words that are none
  pub ended-no_usage :
      (given : Result Printed NoText) (status : Status) (k l : K)
      → HasEnded sink given status k l → status ≢ Usage
  ended-no_usage (Ok printed) status k l ended is =
      let no : false ≡ true = sym (ap has_written is) ∙ ended.written in absurd (cc)
  ended-no_usage (Err (no_text.ReadFault which)) status k l ended is =
      let same : Usage ≡ ReadFault which = sym is ∙ ended.0 in absurd (cc)
  ended-no_usage (Err (no_text.Limit hit)) status k l ended is =
      let same : Usage ≡ Limit hit = sym is ∙ ended.0 in absurd (cc)
  ended-no_usage (Err (no_text.Text fault)) status k l ended is =
      let same : Usage ≡ Text fault = sym is ∙ ended.0 in absurd (cc)
  ended-no_usage (Err no_text.OutOfMemory) status k l ended is =
      let same : Usage ≡ OutOfMemory = sym is ∙ ended.0 in absurd (cc)

-- the script of a text that broke off can break
pub CanBreak-broken :
    (command : Option Command) (given : Result Printed NoText) (printed : Printed) (broken : Broken)
    → IfOk given (λ printed. OnSome printed.broken (CanBreak command))
    → given ≡ Ok printed → printed.broken ≡ Some broken → CanBreak command
CanBreak-broken command given printed broken can is some =
    subst (λ o. OnSome o (CanBreak command)) some
    (subst (λ result. IfOk result (λ printed. OnSome printed.broken (CanBreak command))) is can)

-- and its names are those of the script that is kept
pub names-broken :
    (contents : Option Contents) (names : Contents → List (List ℕ))
    (given : Result Printed NoText) (printed : Printed) (broken : Broken) (script : Option Listing)
    → IfTold contents (λ told. HasNames given (names told))
    → given ≡ Ok printed → printed.broken ≡ Some broken → script ≡ Some broken.script
    → IfTold contents (λ told. script_names script ≡ names told)
names-broken None names given printed broken script has is some kept = tt
names-broken (Some told) names given printed broken script has is some kept =
    ap script_names kept
    ∙ subst (λ o. IfSome o (λ broken. broken.script.names ≡ names told)) some
    (subst (λ result. HasNames result (names told)) is has)

-- words that are no command are told so
pub TellsStatus-usage :
    (contents : Option Contents) (before after : Option (List ℕ)) (faults_before faults_after : ℕ)
    → Tells before after faults_before faults_after usage_text
    → TellsStatus contents None Usage before after faults_before faults_after
TellsStatus-usage None before after faults_before faults_after told = ([], told)
TellsStatus-usage (Some held) before after faults_before faults_after told = told

-- and so is a want of memory
pub TellsStatus-memory :
    (contents : Option Contents) (command : Option Command) (before after : Option (List ℕ))
    (faults_before faults_after : ℕ)
    → Tells before after faults_before faults_after memory_text
    → TellsStatus contents command OutOfMemory before after faults_before faults_after
TellsStatus-memory None command before after faults_before faults_after told = ([], told)
TellsStatus-memory (Some held) command before after faults_before faults_after told = told
