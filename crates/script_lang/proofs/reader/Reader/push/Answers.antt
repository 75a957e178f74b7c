use Rattle.std.proofs.Common.{◌≡◌, ◌++◌, ◌∷◌, [], map, sym, ap, ap₂, ◌∙◌, append-nil}
use Rattle.std.specs.Option.{option_to_list}
use Rattle.text_table.specs.TextTables.{number_of}
use Rattle.script_lang.specs.Listings.{Listing}
use Rattle.script_lang.specs.Parsing.Reading.{name_made, listing_with}
use Rattle.script_lang.proofs.lines.GrammarLemmas.{line_makes}
use Rattle.script_lang.proofs.reader.Reader.push.Goals as goal
use Rattle.script_lang.proofs.reader.Reader.push.Goals.{in-Some+in_ok-push, in_default}

pub push-requires-clause-name : goal.push-requires-clause-name
push-requires-clause-name c =
    let words = map (λ word. word.now) c.args.words.now in
    ((line_makes c.args.self.now.names words c.args.placed.command c.requires).new
    c.in-Some.name.now (sym c.in-Some.ensures)).0

pub push-requires-clause-new : goal.push-requires-clause-new
push-requires-clause-new c =
    let words = map (λ word. word.now) c.args.words.now in
    let name = c.in-Some.name.now in
    ap (λ (listing : Listing). number_of listing.names name) c.self.view_is
    ∙ ((line_makes c.args.self.now.names words c.args.placed.command c.requires).new
    name (sym c.in-Some.ensures)).1

pub returns : goal.returns
returns c =
    let words = map (λ word. word.now) c.args.words.now in
    let placed = c.args.placed in
    let before = c.self.inside in
    let after = c.match-name_made.self-inside in
    let made = (line_makes c.args.self.now.names words placed.command c.requires).same in
    let commands : after.commands.items ≡ before.commands.items =
    elim c.match-name_made.branch [
      | in-Some+in_ok-push w ↦ ap (λ inside. inside.commands.items) w.self-inside-is
      | in_default w ↦ ap (λ inside. inside.commands.items) w.self-inside-is
    ] in
    let names : after.names ≡ before.names ++ option_to_list (name_made placed.command words) =
    elim c.match-name_made.branch [
      | in-Some+in_ok-push w ↦ ap (λ inside. inside.names) w.self-inside-is
          ∙ w.in_ok-push.ensures.ok
          ∙ ap (λ name. before.names ++ option_to_list name) w.in-Some.ensures
      | in_default w ↦ ap (λ inside. inside.names) w.self-inside-is
          ∙ sym (append-nil before.names)
          ∙ ap (λ name. before.names ++ option_to_list name) w.in_default.ensures
    ] in
    ap₂ (λ cs ns. record { commands = cs; names = ns })
    (c.in_ok-push-2.ensures.items ∙ ap (λ cs. cs ++ placed ∷ []) commands)
    (names ∙ ap (λ ns. before.names ++ ns) (sym made))
    ∙ ap (λ listing. listing_with listing placed.line words placed.command) c.self.view_is
