use Rattle.std.proofs.Common.{◌∙◌, sym}
use Rattle.std.specs.Str.{IsUtf8}
use Rattle.script_lang.proofs.lines.NamesLemmas.{name_is_text, ok_of_text}
use Rattle.script_lang.proofs.names.text_of_name.Goals as goal

pub unwrap-requires : goal.unwrap-requires
unwrap-requires c =
    let word = c.args.word.now in
    ok_of_text _ (IsUtf8 word) _ c.from_utf8.result c.from_utf8.ensures.cases
    (name_is_text word (sym c.is_name.ensures ∙ c.if-not-is_name.false))
