use Rattle.std.proofs.Common.{◌≡◌, ℕ, ◌+◌, ◌-◌, ◌∙◌, ◌++◌, ◌∷◌, [], List, Some, None, Err}
use Rattle.std.proofs.Common.{length, map, slice_get, sym, ap, ap₂, subst, arith, inr, length-append}
use Rattle.std.proofs.lemmas.List.{length-map, map-append}
use Rattle.std.proofs.lemmas.Option.{slice_get_within}
use Rattle.std.proofs.lemmas.Result.{err_from_is_err_and}
use Rattle.ss_base.specs.declared.limits.TheConstants as limits
use Rattle.ss_top.specs.declared.no_text.NoText.TheVariants.{ReadFault, Limit}
use Rattle.ss_top.specs.Inputs.{Input, inputs_of}
use Rattle.ss_top.specs.Limits.{limit_passed}
use Rattle.ss_top.specs.Answers.{bytes_behind, bytes_after}
use Rattle.ss_top.specs.Readings.{Reads, FailsAt, IsOver}
use Rattle.ss_top.proofs.AnswersLemmas.{bytes_after-none, bytes_after-more, IfCalledFor-limit}
use Rattle.ss_top.proofs.InputsLemmas.{IsSome-name_of, none_past}
use Rattle.ss_top.proofs.ReadingsLemmas.{Reads-none, Reads-more, AsksInOrder-next, FailsAt-next}
use Rattle.ss_top.proofs.ReadingsLemmas.{IsNeeded-next, needed-more}
use Rattle.ss_top.proofs.inputs.read_inputs.Goals as goal

pub loop-which-init : goal.loop-which-init
loop-which-init g c =
    let inputs = inputs_of c.args.command.now in
    let none = sym c.new-texts.ensures.items in
    record {
      reads =
          subst (λ texts. Reads g.L.Shelf c.args.shelf.now c.args.shelf.now inputs
          (map (λ text. text.items) texts)) none
          (Reads-none g.L.Shelf c.args.shelf.now inputs);
      needed = λ k less. absurd (omega (arith, less, ap length none));
      left =
          subst (λ texts. limits.ALL_DOCUMENT_BYTES
          + bytes_after 0 inputs (map (λ text. text.items) texts)
          ≡ limits.ALL_DOCUMENT_BYTES) none (omega (arith, bytes_after-none 0 inputs));
    }

pub returns-in_err-text-clause-asks : goal.returns-in_err-text-clause-asks
returns-in_err-text-clause-asks g c =
    let inputs = inputs_of c.args.command.now in
    let before = c.loop-which.invariant in
    let texts : List (List ℕ) = map (λ text. text.items) c.loop-which.texts.items in
    let count = length-map c.loop-which.texts.items (λ text. text.items) in
    let place : length texts ≡ c.len.result =
    omega (arith, count, c.len.ensures, c.loop-which.texts.ok.0) in
    let here : slice_get inputs (length texts) ≡ Some (c.in-Some.which, c.in-Some.name.now) =
    ap (slice_get inputs) place
    ∙ sym (rw c.in-Some.is at c.input_at.ensures) in
    let asked = c.requires.asked
    (omega (arith, slice_get_within inputs (length texts) _ here)) in
    AsksInOrder-next g.L.Shelf c.args.shelf.now c.loop-which.shelf c.read_input.new.shelf
    c.args.command.now asked texts c.in-Some.which c.in-Some.name.now here before.reads
    c.in_err-text.ensures.asks (λ p less. before.needed p (omega (arith, less, count)))

pub returns-in_err-text-clause-read_fault : goal.returns-in_err-text-clause-read_fault
returns-in_err-text-clause-read_fault g c =
    λ which e.
    let inputs = inputs_of c.args.command.now in
    let before = c.loop-which.invariant in
    let texts : List (List ℕ) = map (λ text. text.items) c.loop-which.texts.items in
    let count = length-map c.loop-which.texts.items (λ text. text.items) in
    let place : length texts ≡ c.len.result =
    omega (arith, count, c.len.ensures, c.loop-which.texts.ok.0) in
    let here : slice_get inputs (length texts) ≡ Some (c.in-Some.which, c.in-Some.name.now) =
    ap (slice_get inputs) place
    ∙ sym (rw c.in-Some.is at c.input_at.ensures) in
    let asked = c.requires.asked
    (omega (arith, slice_get_within inputs (length texts) _ here)) in
    let given = err_from_is_err_and c.from_residual.result c.from_residual.ensures.1 in
    let same : c.in_err-text.field-0.0 ≡ ReadFault which = cc in
    let fault = c.read_input.ensures.read_fault which (c.in_err-text.was ∙ ap Err same) in
    subst (λ w. FailsAt g.L.Shelf c.args.shelf.now c.read_input.new.shelf
    (Some c.args.command.now) w) (sym fault.0)
    (FailsAt-next g.L.Shelf c.args.shelf.now c.loop-which.shelf c.read_input.new.shelf
    c.args.command.now asked texts c.in-Some.which c.in-Some.name.now here before.reads
    c.in_err-text.ensures.asks fault.1 fault.2)

pub returns-in_err-text-clause-limit : goal.returns-in_err-text-clause-limit
returns-in_err-text-clause-limit g c =
    λ hit e.
    let inputs = inputs_of c.args.command.now in
    let contents = g.L.Shelf.contents c.args.shelf.now in
    let before = c.loop-which.invariant in
    let texts : List (List ℕ) = map (λ text. text.items) c.loop-which.texts.items in
    let count = length-map c.loop-which.texts.items (λ text. text.items) in
    let input : Input = (c.in-Some.which, c.in-Some.name.now) in
    let place : length texts ≡ c.len.result =
    omega (arith, count, c.len.ensures, c.loop-which.texts.ok.0) in
    let here : slice_get inputs (length texts) ≡ Some input =
    ap (slice_get inputs) place
    ∙ sym (rw c.in-Some.is at c.input_at.ensures) in
    let asked = c.requires.asked
    (omega (arith, slice_get_within inputs (length texts) _ here)) in
    let given = err_from_is_err_and c.from_residual.result c.from_residual.ensures.1 in
    let same : c.in_err-text.field-0.0 ≡ Limit hit = cc in
    let fault = c.read_input.ensures.limit hit (c.in_err-text.was ∙ ap Err same) in
    let total : limits.ALL_DOCUMENT_BYTES - c.loop-which.left ≡ bytes_after 0 inputs texts =
    omega (arith, before.left) in
    let over : IsOver contents input (bytes_after 0 inputs texts) hit =
    subst (λ told. IsOver told input (bytes_after 0 inputs texts) hit) before.reads.asks.contents
    (subst (λ n. IsOver (g.L.Shelf.contents c.loop-which.shelf) input n hit) total fault.1) in (
      inr (rw fault.0
          (IsSome-name_of inputs (length texts) c.in-Some.which c.in-Some.name.now here)),
      IfCalledFor-limit c.args.command.now asked contents texts input here before.reads.held
          before.reads.within hit over,
    )

pub loop-which-smaller : goal.loop-which-smaller
loop-which-smaller g c =
    let inputs = inputs_of c.args.command.now in
    let place : length c.loop-which.texts.items ≡ c.len.result =
    omega (arith, c.len.ensures, c.loop-which.texts.ok.0) in
    let here : slice_get inputs (length c.loop-which.texts.items)
    ≡ Some (c.in-Some.which, c.in-Some.name.now) =
    ap (slice_get inputs) place ∙ sym (rw c.in-Some.is at c.input_at.ensures) in
    let within = slice_get_within inputs (length c.loop-which.texts.items) _ here in
    let more : length c.push.new.self.items ≡ length c.loop-which.texts.items + 1 =
    ap length c.in_ok-push.ensures.items
    ∙ length-append c.loop-which.texts.items (c.in_ok-text.text ∷ []) in
    omega (arith, within, more)

pub loop-which-preserved : goal.loop-which-preserved
loop-which-preserved g c =
    let inputs = inputs_of c.args.command.now in
    let contents = g.L.Shelf.contents c.args.shelf.now in
    let before = c.loop-which.invariant in
    let texts : List (List ℕ) = map (λ text. text.items) c.loop-which.texts.items in
    let count = length-map c.loop-which.texts.items (λ text. text.items) in
    let text = c.in_ok-text.text.items in
    let input : Input = (c.in-Some.which, c.in-Some.name.now) in
    let place : length texts ≡ c.len.result =
    omega (arith, count, c.len.ensures, c.loop-which.texts.ok.0) in
    let here : slice_get inputs (length texts) ≡ Some input =
    ap (slice_get inputs) place
    ∙ sym (rw c.in-Some.is at c.input_at.ensures) in
    let asked = c.requires.asked
    (omega (arith, slice_get_within inputs (length texts) _ here)) in
    let total : limits.ALL_DOCUMENT_BYTES - c.loop-which.left ≡ bytes_after 0 inputs texts =
    omega (arith, before.left) in
    let fits : limit_passed (bytes_after 0 inputs texts) c.in-Some.which text ≡ None =
    subst (λ n. limit_passed n c.in-Some.which text ≡ None) total c.in_ok-text.ensures.within in
    let more : map (λ t. t.items) c.push.new.self.items ≡ texts ++ text ∷ [] =
    ap (map (λ t. t.items)) c.in_ok-push.ensures.items
    ∙ map-append (λ t. t.items) c.loop-which.texts.items (c.in_ok-text.text ∷ []) in
    let longer : length c.push.new.self.items ≡ length c.loop-which.texts.items + 1 =
    ap length c.in_ok-push.ensures.items
    ∙ length-append c.loop-which.texts.items (c.in_ok-text.text ∷ []) in
    let next = IsNeeded-next g.L.Shelf c.args.shelf.now c.loop-which.shelf c.read_input.new.shelf
    c.args.command.now asked texts c.in-Some.which c.in-Some.name.now here before.reads
    c.in_ok-text.ensures.asks in
    let bytes : bytes_after 0 inputs (map (λ t. t.items) c.push.new.self.items)
    ≡ bytes_behind (limits.ALL_DOCUMENT_BYTES - c.loop-which.left) c.in-Some.which
    c.deref.result.now =
    ap (bytes_after 0 inputs) more ∙ bytes_after-more 0 inputs texts input text here
    ∙ ap₂ (λ n t. bytes_behind n c.in-Some.which t) (sym total) (sym c.deref.ensures.value) in
    record {
      reads =
          subst (λ ts. Reads g.L.Shelf c.args.shelf.now c.read_input.new.shelf inputs ts) (sym more)
          (Reads-more g.L.Shelf c.args.shelf.now c.loop-which.shelf c.read_input.new.shelf inputs
          texts input here before.reads c.in_ok-text.ensures.asks text c.in_ok-text.ensures.whole
          fits);
      needed = λ k less.
          needed-more contents (Some c.args.command.now) (length texts)
          (λ p below. before.needed p (omega (arith, below, count))) next k
          (omega (arith, less, longer, count));
      left = omega (arith, bytes, c.left_behind-left.ensures);
    }

pub returns-in_err-push-clause-asks : goal.returns-in_err-push-clause-asks
returns-in_err-push-clause-asks g c =
    let inputs = inputs_of c.args.command.now in
    let before = c.loop-which.invariant in
    let texts : List (List ℕ) = map (λ text. text.items) c.loop-which.texts.items in
    let count = length-map c.loop-which.texts.items (λ text. text.items) in
    let place : length texts ≡ c.len.result =
    omega (arith, count, c.len.ensures, c.loop-which.texts.ok.0) in
    let here : slice_get inputs (length texts) ≡ Some (c.in-Some.which, c.in-Some.name.now) =
    ap (slice_get inputs) place
    ∙ sym (rw c.in-Some.is at c.input_at.ensures) in
    let asked = c.requires.asked
    (omega (arith, slice_get_within inputs (length texts) _ here)) in
    AsksInOrder-next g.L.Shelf c.args.shelf.now c.loop-which.shelf c.read_input.new.shelf
    c.args.command.now asked texts c.in-Some.which c.in-Some.name.now here before.reads
    c.in_ok-text.ensures.asks (λ p less. before.needed p (omega (arith, less, count)))

pub returns-clause-count : goal.returns-clause-count
returns-clause-count g c =
    let inputs = inputs_of c.args.command.now in
    let count = length-map c.loop-which.texts.items (λ text. text.items) in
    let past = none_past inputs c.len.result (sym (rw c.in_default.is at c.input_at.ensures)) in
    omega (
      arith,
      past,
      c.len.ensures,
      c.loop-which.texts.ok.0,
      c.loop-which.invariant.reads.count,
      count,
    )
