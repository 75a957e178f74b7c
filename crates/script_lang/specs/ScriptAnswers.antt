-- What does a script show, and where does it stop?
--
-- Its calls are made in order, up to the first that the partition rule refuses. Each get and each
-- total before that shows one line, with what the program is answered without delegates. What is
-- printed is `unfoldable`: as an `abbrev` its texts would be spelt out in goals.
use Rattle.std.specs.Prelude.{ℕ, Option, Some, None, Result, Ok, Err, List, [], ◌∷◌, ◌++◌}
use Rattle.std.specs.Prelude.{codes, decimal, slice_get}
use Rattle.std.specs.Option.{option_map_or, unwrap_or}
use Rattle.class_laws.specs.declared.numbers.WrapSum.{WrapSum}
use Rattle.execution_definitions.specs.declared.refusal.Refusal.{Refusal}
use Rattle.execution_definitions.specs.Soundness.{first_break, first_refusal}
use Rattle.execution_definitions.specs.declared.call.Call.TheVariants as call
use Rattle.execution_definitions.specs.declared.call.Reply.{Reply}
use Rattle.execution_definitions.specs.declared.call.Reply.TheVariants as reply
use Rattle.execution_definitions.specs.Meanings.{shapes_of}
use Rattle.execution_definitions.specs.Sequential.{sequential_replies}
use Rattle.execution_definitions.specs.Programs.{sound_front}
use Rattle.script_lang.specs.declared.fault.ScriptFault.{ScriptFault}
use Rattle.script_lang.specs.declared.word32.Word32.{Word32}
use Rattle.script_lang.specs.Acts.{script_meaning}
use Rattle.script_lang.specs.Listings.{Listing, listing_of}
use Rattle.script_lang.specs.ScriptCalls.{ScriptCall, calls_of}

-- what a script shows, and the line and the refusal of the call that it stops at, if it does
pub record ShownRecord : Type 0 where
  pub text : List ℕ
  pub stopped : Option (ℕ × Refusal)

-- what a call of a script is answered
abbrev pub ScriptReply : Type 0
ScriptReply = Reply Word32 WrapSum

-- NAME VALUE
unfoldable pub value_line : List ℕ → ℕ → List ℕ
value_line name value = name ++ codes " " ++ decimal value ++ codes "\n"

-- total VALUE
unfoldable pub total_line : ℕ → List ℕ
total_line value = codes "total " ++ decimal value ++ codes "\n"

-- what a call shows with its reply; an object that has no name shows none
abbrev pub shown_line : List (List ℕ) → ScriptCall → Option ScriptReply → List ℕ
shown_line names (call.Get object) (Some (reply.Value word)) =
    value_line (unwrap_or (slice_get names object.0) []) word.0
shown_line names call.Total (Some (reply.Total total)) = total_line total.0
shown_line names _ _ = []

-- what calls show, each with its reply
abbrev pub shown_lines : List (List ℕ) → List ScriptCall → List (Option ScriptReply) → List ℕ
shown_lines names (call ∷ calls) (reply ∷ replies) =
    shown_line names call reply ++ shown_lines names calls replies
shown_lines names _ _ = []

-- what a script shows up to the first break
abbrev pub shown_text : Listing → List ℕ
shown_text listing =
    let front = sound_front script_meaning (calls_of listing) in
    shown_lines listing.names front (sequential_replies script_meaning front)

-- the line of a call; the end that a script lacks stands on none, and has 0 (nothing refuses it,
-- but behind 2^60 calls)
abbrev pub line_at : Listing → ℕ → ℕ
line_at listing place = option_map_or (λ placed. placed.line) (slice_get listing.commands place) 0

-- the line and the refusal of the call at a place, where one is refused
abbrev pub stop_at : Listing → Option ℕ → Option Refusal → Option (ℕ × Refusal)
stop_at listing (Some place) (Some refusal) = Some (line_at listing place, refusal)
stop_at listing _ _ = None

-- where a script stops: at the first call that is refused
abbrev pub stopped_at : Listing → Option (ℕ × Refusal)
stopped_at listing =
    let shapes = shapes_of script_meaning (calls_of listing) in
    stop_at listing (first_break shapes) (first_refusal shapes)

-- what a script shows, and where it stops
abbrev pub shown_of : Listing → ShownRecord
shown_of listing = record { text = shown_text listing; stopped = stopped_at listing }

-- the fault of a script, or what its listing shows
abbrev pub answer_of : Result Listing ScriptFault → Result ShownRecord ScriptFault
answer_of (Ok listing) = Ok (shown_of listing)
answer_of (Err fault) = Err fault

-- what a script of these bytes is answered
abbrev pub script_answer : List ℕ → Result ShownRecord ScriptFault
script_answer bytes = answer_of (listing_of bytes)
