use Rattle.std.proofs.Common.{◌≡◌, ◌+◌, Ok, Err, sym, ap, ◌∙◌, arith, rules, tests, of_calls, refl}
use Rattle.std.specs.List.{slice_split}
use Rattle.std.proofs.lemmas.Iterator.Consumers.{YieldsList-at}
use Rattle.std.proofs.lemmas.Iterator.Splits.{YieldsList-from_slice_split}
use Rattle.std.proofs.lemmas.List.{drop_all, length_push}
use Rattle.std.proofs.lemmas.Result.{err_from_is_err_and}
use Rattle.script_lang.specs.declared.fault.ParseFault.TheVariants.{Text}
use Rattle.script_lang.specs.Lines.{is_line_end}
use Rattle.script_lang.specs.Parsing.Reading.{after_lines}
use Rattle.script_lang.proofs.listings.ListingsLemmas.{after_parts, next_line, bad_line}
use Rattle.script_lang.proofs.shown.YieldsLemmas.{yielded_all, yielded_next}
use Rattle.script_lang.proofs.parsing.parse.Goals as goal

pub loop-text-init : goal.loop-text-init
loop-text-init c =
    let parts = slice_split is_line_end c.args.bytes.now in
    record {
      can_next = search of_calls;
      is_finite = tt;
      line = refl;
      rest = ap (λ listing. after_lines listing 1 parts) c.new-reader.ensures
          ∙ after_parts c.args.bytes.now parts refl;
    }

pub loop-text-preserved : goal.loop-text-preserved
loop-text-preserved c =
    let parts = slice_split is_line_end c.args.bytes.now in
    let place = yielded_next (λ part. part.now) parts c.loop-text.yielded
    c.loop-text.text-iterator c.loop-text.yielded_by _ _ c.in-Some.text c.in-Some.is
    c.next.ensures.steps
    (YieldsList-at c.into_iter-text-iterator.ensures.into_iter_gives
    (YieldsList-from_slice_split _ is_line_end c.args.bytes.now c.split-text-items.ensures.rest
    c.split-text-items.ensures.done c.split-text-items.ensures.closure
    (λ x b q k. search (rules, tests)))) in
    let here = rw (sym c.loop-text.invariant.line) at place in
    let before = c.loop-text.reader in
    let line = c.loop-text.line in
    let read = c.in_ok-read_line.ensures.ok in
    record {
      can_next = search of_calls;
      is_finite = tt;
      line = omega (
        arith,
        length_push c.loop-text.yielded c.in-Some.text,
        c.loop-text.invariant.line,
      );
      rest = sym (next_line before c.read_line.new.self (line + 1) line c.in-Some.text.now parts
          here.0 here.1 read)
          ∙ c.loop-text.invariant.rest;
    }

pub returns-in_err-read_line-clause-fault : goal.returns-in_err-read_line-clause-fault
returns-in_err-read_line-clause-fault c fault e =
    let parts = slice_split is_line_end c.args.bytes.now in
    let place = yielded_next (λ part. part.now) parts c.loop-text.yielded
    c.loop-text.text-iterator c.loop-text.yielded_by _ _ c.in-Some.text c.in-Some.is
    c.next.ensures.steps
    (YieldsList-at c.into_iter-text-iterator.ensures.into_iter_gives
    (YieldsList-from_slice_split _ is_line_end c.args.bytes.now c.split-text-items.ensures.rest
    c.split-text-items.ensures.done c.split-text-items.ensures.closure
    (λ x b q k. search (rules, tests)))) in
    let here = rw (sym c.loop-text.invariant.line) at place in
    let given = err_from_is_err_and c.from_residual.result c.from_residual.ensures.1 in
    let same : c.in_err-read_line.field-0.0 ≡ Text fault = cc in
    sym c.loop-text.invariant.rest
    ∙ bad_line c.loop-text.reader (c.loop-text.line + 1) c.loop-text.line c.in-Some.text.now parts
    fault here.0 here.1 (c.read_line.ensures.fault fault
    (c.in_err-read_line.was ∙ ap Err same))

pub returns-clause-ok : goal.returns-clause-ok
returns-clause-ok c =
    let parts = slice_split is_line_end c.args.bytes.now in
    let end = yielded_all (λ part. part.now) parts c.loop-text.yielded
    c.loop-text.text-iterator c.loop-text.yielded_by _ _ c.in-None.is c.next.ensures.steps
    (YieldsList-at c.into_iter-text-iterator.ensures.into_iter_gives
    (YieldsList-from_slice_split _ is_line_end c.args.bytes.now c.split-text-items.ensures.rest
    c.split-text-items.ensures.done c.split-text-items.ensures.closure
    (λ x b q k. search (rules, tests)))) in
    let line = c.loop-text.line in
    let none = drop_all line parts (omega (arith, c.loop-text.invariant.line, end.1)) in
    sym c.loop-text.invariant.rest
    ∙ ap (after_lines c.loop-text.reader (line + 1)) none
    ∙ ap Ok (sym c.into_script.ensures)
