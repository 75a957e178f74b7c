use Rattle.std.proofs.Common.{map, Ok, sym, ap, ◌∙◌}
use Rattle.script_lang.specs.Commands.{line_command}
use Rattle.script_lang.specs.Lines.{line_words}
use Rattle.script_lang.specs.Parsing.Reading.{after_command}
use Rattle.script_lang.proofs.listings.ListingsLemmas.{skipped_line, command_line}
use Rattle.script_lang.proofs.reader.Reader.read_line.Goals as goal

pub returns-then-is_skipped-clause-ok : goal.returns-then-is_skipped-clause-ok
returns-then-is_skipped-clause-ok c =
    skipped_line c.args.self.now c.args.line (line_words c.args.text.now)
    (map (λ word. word.now) c.as_slice-words.result.now)
    (c.as_slice-words.ensures ∙ c.of-kept.ensures)
    (sym c.is_skipped.ensures ∙ c.if-is_skipped.true)

pub returns-in_ok-push-in-Ok-clause-ok : goal.returns-in_ok-push-in-Ok-clause-ok
returns-in_ok-push-in-Ok-clause-ok c =
    let front = map (λ word. word.now) c.as_slice-words.result.now in
    command_line c.args.self.now c.args.line (line_words c.args.text.now) front
    (c.as_slice-words.ensures ∙ c.of-kept.ensures)
    (sym c.is_skipped.ensures ∙ c.if-is_skipped.false)
    ∙ ap (after_command c.args.self.now c.args.line front)
    (sym (c.in-Ok.ensures ∙ ap (λ listing. line_command listing.names front) c.self.view_is))
    ∙ ap Ok (sym c.in_ok-push-in-Ok.ensures)

pub returns-in-Err-clause-fault : goal.returns-in-Err-clause-fault
returns-in-Err-clause-fault c fault e =
    let front = map (λ word. word.now) c.as_slice-words.result.now in
    command_line c.args.self.now c.args.line (line_words c.args.text.now) front
    (c.as_slice-words.ensures ∙ c.of-kept.ensures)
    (sym c.is_skipped.ensures ∙ c.if-is_skipped.false)
    ∙ ap (after_command c.args.self.now c.args.line front)
    (sym (c.in-Err.ensures ∙ ap (λ listing. line_command listing.names front) c.self.view_is))
    ∙ cc
