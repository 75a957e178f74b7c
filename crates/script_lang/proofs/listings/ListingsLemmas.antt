-- Lines read one after the other come to the listing of the script.
use Rattle.std.proofs.Common.{◌≡◌, ℕ, ◌+◌, ◌<◌, true, false, cond, not, List, [], ◌∷◌, ◌++◌, length}
use Rattle.std.proofs.Common.{Result, Ok, Err, drop, take, get_or}
use Rattle.std.proofs.Common.{refl, sym, ◌∙◌, ap, ap₂, append-nil, append_assoc}
use Rattle.std.proofs.lemmas.List.{at_drop_more}
use Rattle.std.proofs.lemmas.Grind.{flat_map-append}
use Rattle.std.specs.List.{slice_get}
use Rattle.script_lang.specs.declared.command.Command.{Command}
use Rattle.script_lang.specs.declared.command.Placed.{Placed}
use Rattle.script_lang.specs.declared.fault.ScriptFault.{ScriptFault}
use Rattle.script_lang.specs.declared.fault.ScriptKind.{ScriptKind}
use Rattle.script_lang.specs.Commands.{unless_fault, line_command, names_made}
use Rattle.script_lang.specs.Lines.{without_empty_end, lines, line_words, is_skipped}
use Rattle.script_lang.specs.Listings.{Listing, Row, LineAnswer, rows_from, names_of, line_answers}
use Rattle.script_lang.specs.Listings.{commands_in, faults_in, listing_of}
use Rattle.script_lang.specs.Parsing.Reading.{nothing_read, listing_with, after_command, after_line}
use Rattle.script_lang.specs.Parsing.Reading.{unless_stopped, after_lines}
use Rattle.script_lang.proofs.lines.GrammarLemmas.{line_command-front, names_made-front}

-- ---- an empty last part has no words

and_then : (r : Result Listing ScriptFault) (f g : Listing → Result Listing ScriptFault)
    → ((more : Listing) → f more ≡ g more) → unless_stopped r f ≡ unless_stopped r g
and_then (Ok more) f g h = h more
and_then (Err fault) f g h = refl

after_lines-parts : (listing : Listing) (line : ℕ) (parts : List (List ℕ))
    → after_lines listing line parts ≡ after_lines listing line (without_empty_end parts)
unfolding after_line
after_lines-parts listing line [] = refl
after_lines-parts listing line ([] ∷ []) = refl
after_lines-parts listing line ([] ∷ second ∷ rest) =
    and_then (after_line listing line (line_words [])) _ _
    (λ more. after_lines-parts more (line + 1) (second ∷ rest))
after_lines-parts listing line ((b ∷ bs) ∷ rest) =
    and_then (after_line listing line (line_words (b ∷ bs))) _ _
    (λ more. after_lines-parts more (line + 1) rest)

-- ---- lines behind a listing

-- the listing with the rows of these answers more, or their first fault
abbrev finished : Listing → List Row → List LineAnswer → Result Listing ScriptFault
finished listing rows answers =
    unless_fault (slice_get (faults_in answers) 0) (record {
      commands = listing.commands ++ commands_in answers;
      names = listing.names ++ names_of rows;
    })

listing_from : List Placed → List (List ℕ) → Listing
listing_from commands names = record { commands = commands; names = names }

names_of-push : (above : List Row) (row : Row)
    → names_of (above ++ row ∷ []) ≡ names_of above ++ names_made row.1
names_of-push above row =
    flat_map-append (λ r. names_made r.1) above (row ∷ [])
    ∙ ap (λ names. names_of above ++ names) (append-nil (names_made row.1))

after_lines-finished : (listing : Listing) (line : ℕ) (texts : List (List ℕ)) (above : List Row)
    → listing.names ≡ names_of above
    → after_lines listing line texts
    ≡ finished listing (rows_from line texts) (line_answers above (rows_from line texts))
unfolding after_line listing_from
after_lines-finished listing line [] above made =
    ap₂ (λ commands names. Ok (listing_from commands names))
    (sym (append-nil listing.commands)) (sym (append-nil listing.names))
after_lines-finished listing line (text ∷ rest) above made =
    let words = line_words text in
    let row : Row = (line, words) in
    let rows = rows_from (line + 1) rest in
    let more = line_answers (above ++ row ∷ []) rows in
    elim (is_skipped words) as (λ skipped.
    unless_stopped (cond skipped (Ok listing)
    (after_command listing line words (line_command listing.names words)))
    (λ next. after_lines next (line + 1) rest)
    ≡ finished listing (cond (not skipped) (row ∷ rows) rows)
    (line_answers above (cond (not skipped) (row ∷ rows) rows))) [
      | true ↦ after_lines-finished listing (line + 1) rest above made
      | false ↦
          ap (λ names. unless_stopped (after_command listing line words (line_command names words))
          (λ next. after_lines next (line + 1) rest)) made
          ∙ elim (line_command (names_of above) words) as (λ answer.
          unless_stopped (after_command listing line words answer)
          (λ next. after_lines next (line + 1) rest)
          ≡ finished listing (row ∷ rows) ((line, answer) ∷ more)) [
            | Ok command ↦
                after_lines-finished (listing_with listing line words command) (line + 1) rest
                (above ++ row ∷ [])
                (ap (λ names. names ++ names_made words) made ∙ sym (names_of-push above row))
                ∙ ap₂ (λ commands names. unless_fault (slice_get (faults_in more) 0)
                (listing_from commands names))
                (append_assoc listing.commands _ (commands_in more))
                (append_assoc listing.names (names_made words) (names_of rows))
            | Err kind ↦ refl
          ]
    ]

-- the parts between line ends, read one after the other
pub after_parts : (bytes : List ℕ) (parts : List (List ℕ)) → lines bytes ≡ without_empty_end parts
    → after_lines nothing_read 1 parts ≡ listing_of bytes
unfolding listing_of
after_parts bytes parts are =
    after_lines-parts nothing_read 1 parts
    ∙ ap (after_lines nothing_read 1) (sym are)
    ∙ after_lines-finished nothing_read 1 (lines bytes) [] refl

-- ---- a line's first seven words tell what it is

is_skipped-front : (words : List (List ℕ)) → is_skipped (take 7 words) ≡ is_skipped words
is_skipped-front [] = refl
is_skipped-front (a ∷ rest) = refl

after_command-front : (listing : Listing) (line : ℕ) (words : List (List ℕ))
    (answer : Result Command ScriptKind)
    → after_command listing line (take 7 words) answer ≡ after_command listing line words answer
after_command-front listing line words (Ok command) =
    ap (λ names. Ok (record {
      commands = listing.commands ++ record { command = command; line = line } ∷ [];
      names = listing.names ++ names;
    })) (names_made-front words)
after_command-front listing line words (Err kind) = refl

after_line-front : (listing : Listing) (line : ℕ) (words : List (List ℕ))
    → after_line listing line (take 7 words) ≡ after_line listing line words
unfolding after_line
after_line-front listing line words =
    ap₂ (λ skipped next. cond skipped (Ok listing) next) (is_skipped-front words)
    (after_command-front listing line words (line_command listing.names (take 7 words))
    ∙ ap (after_command listing line words) (line_command-front listing.names words))

-- ---- what is read of a line, from its first seven words

pub skipped_line : (listing : Listing) (line : ℕ) (words front : List (List ℕ))
    → front ≡ take 7 words → is_skipped front ≡ true → after_line listing line words ≡ Ok listing
unfolding after_line
skipped_line listing line words front is skipped =
    sym (after_line-front listing line words)
    ∙ ap (after_line listing line) (sym is)
    ∙ ap (λ b. cond b (Ok listing)
    (after_command listing line front (line_command listing.names front))) skipped

pub command_line : (listing : Listing) (line : ℕ) (words front : List (List ℕ))
    → front ≡ take 7 words → is_skipped front ≡ false
    → after_line listing line words
    ≡ after_command listing line front (line_command listing.names front)
unfolding after_line
command_line listing line words front is kept =
    sym (after_line-front listing line words)
    ∙ ap (after_line listing line) (sym is)
    ∙ ap (λ b. cond b (Ok listing)
    (after_command listing line front (line_command listing.names front))) kept

-- ---- one line of those that are left

at_place : (parts : List (List ℕ)) (n : ℕ) (text : List ℕ) → n < length parts
    → text ≡ get_or parts n text → drop n parts ≡ text ∷ drop (n + 1) parts
at_place parts n text h is =
    at_drop_more (λ left. left) parts n text h ∙ ap (λ t. t ∷ drop (n + 1) parts) (sym is)

-- the line has no fault, so the next lines are read after it
pub next_line : (listing more : Listing) (line n : ℕ) (text : List ℕ) (parts : List (List ℕ))
    → n < length parts → text ≡ get_or parts n text
    → after_line listing line (line_words text) ≡ Ok more
    → after_lines listing line (drop n parts) ≡ after_lines more (line + 1) (drop (n + 1) parts)
next_line listing more line n text parts h is read =
    ap (after_lines listing line) (at_place parts n text h is)
    ∙ ap (λ r. unless_stopped r (λ next. after_lines next (line + 1) (drop (n + 1) parts))) read

-- the line has a fault, so no more is read
pub bad_line : (listing : Listing) (line n : ℕ) (text : List ℕ) (parts : List (List ℕ))
    (fault : ScriptFault) → n < length parts → text ≡ get_or parts n text
    → after_line listing line (line_words text) ≡ Err fault
    → after_lines listing line (drop n parts) ≡ Err fault
bad_line listing line n text parts fault h is read =
    ap (after_lines listing line) (at_place parts n text h is)
    ∙ ap (λ r. unless_stopped r (λ next. after_lines next (line + 1) (drop (n + 1) parts))) read
