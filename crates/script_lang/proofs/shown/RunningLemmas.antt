-- A script on a runtime, one command after the other.
use Rattle.std.proofs.Common.{◌≡◌, ℕ, ◌+◌, ◌<◌, Bool, true, false, cond, Option, Some, None}
use Rattle.std.proofs.Common.{List, [], ◌∷◌, ◌++◌, map, length, take, drop, get_or, Result, IfOk}
use Rattle.std.proofs.Common.{refl, sym, ap, ap₂, ◌∙◌, subst, append-nil, append_assoc, arith}
use Rattle.std.specs.Prelude.{fold, slice_get}
use Rattle.std.proofs.lemmas.List.{map-append, length-map, length-take-le, take_more}
use Rattle.std.proofs.lemmas.List.{take-append-drop, drop_more}
use Rattle.std.proofs.lemmas.Option.{slice_get-get_or, slice_get_past}
use Rattle.std.proofs.lemmas.Result.{IfOk-weaker}
use Rattle.std.proofs.Math.Seq.{take-append_seam}
use Rattle.class_laws.specs.declared.numbers.WrapSum.{WrapSum}
use Rattle.ss_base.specs.declared.text.OutOfMemory.{OutOfMemory}
use Rattle.execution_definitions.specs.declared.refusal.Refusal.{Refusal}
use Rattle.execution_definitions.specs.Shapes.{Shape, is_begin, is_end}
use Rattle.execution_definitions.specs.Epochs.{isolating}
use Rattle.execution_definitions.specs.Soundness.{first_break, first_refusal}
use Rattle.execution_definitions.proofs.shapes.EpochsLemmas.{isolating-within, isolating-begin}
use Rattle.execution_definitions.proofs.shapes.EpochsLemmas.{isolating-end}
use Rattle.execution_definitions.proofs.shapes.SoundnessLemmas.{first_break-at, first_refusal-at}
use Rattle.execution_definitions.specs.declared.call.Call.TheVariants as call
use Rattle.delegation.specs.declared.call.Fault.{Fault}
use Rattle.delegation.specs.declared.call.Fault.TheVariants.{Refused}
use Rattle.execution_definitions.specs.Meanings.{shape_of, shapes_of}
use Rattle.execution_definitions.specs.Sequential.{State, initial_state, state_after, sequential_state}
use Rattle.execution_definitions.specs.Sequential.{reply_of, replies_from, sequential_replies}
use Rattle.delegation.specs.Runtimes.{RuntimeView, IsAfter}
use Rattle.delegation.specs.Answers.{FailsList}
use Rattle.execution_definitions.specs.Programs.{front_before, sound_front}
use Rattle.script_lang.specs.declared.word32.Word32.{Word32}
use Rattle.script_lang.specs.declared.command.Command.{Command}
use Rattle.script_lang.specs.declared.command.Command.TheVariants.{Make, MakeFixed, Begin, End}
use Rattle.script_lang.specs.declared.command.Command.TheVariants.{Delegate, Write, Get, Total}
use Rattle.script_lang.specs.declared.command.Placed.{Placed}
use Rattle.script_lang.specs.Acts.{own_set, script_meaning}
use Rattle.script_lang.specs.Listings.{Listing}
use Rattle.script_lang.specs.ScriptCalls.{ScriptCall, call_of, calls_of, listed_calls}
use Rattle.script_lang.specs.ScriptCalls.{ends_within_epoch, ended}
use Rattle.script_lang.specs.Parsing.Epochs.{is_open_after}
use Rattle.script_lang.specs.ScriptAnswers.{ShownRecord, shown_line, shown_lines}
use Rattle.script_lang.specs.ScriptAnswers.{line_at, stop_at, shown_text, stopped_at, shown_of}
use Rattle.script_lang.proofs.listings.ScriptCallsLemmas.{ended-open, ended-closed}

-- ---- the calls of the first commands, and what is left

-- one command more
listed-more : (items : List Placed) (i : ℕ) (d : Placed) → i < length items →
    listed_calls (take (i + 1) items)
    ≡ listed_calls (take i items) ++ call_of (get_or items i d).command ∷ []
listed-more items i d h =
    ap listed_calls (take_more items i d h)
    ∙ map-append (λ placed. call_of placed.command) (take i items) (get_or items i d ∷ [])

-- ---- an epoch is open after one command more, or isn't

within : (shapes : List Shape) (shape : Shape) → is_begin shape ≡ false → is_end shape ≡ false →
    isolating (shapes ++ shape ∷ []) ≡ isolating shapes
within shapes shape no_begin no_end =
    isolating-within shapes shape (record { no_begin = no_begin; no_end = no_end })

open-after : (shapes : List Shape) (command : Command) →
    isolating (shapes ++ shape_of own_set (call_of command) ∷ [])
    ≡ is_open_after command (isolating shapes)
open-after shapes (Make value by) = within shapes _ refl refl
open-after shapes (MakeFixed value) = within shapes _ refl refl
open-after shapes Begin = isolating-begin shapes
open-after shapes End = isolating-end shapes
open-after shapes (Delegate object deed reading) = within shapes _ refl refl
open-after shapes (Write object deed) = within shapes _ refl refl
open-after shapes (Get object) = within shapes _ refl refl
open-after shapes Total = within shapes _ refl refl

open-more : (calls : List ScriptCall) (command : Command) →
    ends_within_epoch (calls ++ call_of command ∷ [])
    ≡ is_open_after command (ends_within_epoch calls)
open-more calls command =
    ap isolating (map-append (shape_of own_set) calls (call_of command ∷ []))
    ∙ open-after (map (shape_of own_set) calls) command

pub open-in : (items : List Placed) (i : ℕ) (d : Placed) (is_open : Bool) → i < length items →
    is_open ≡ ends_within_epoch (listed_calls (take i items)) →
    is_open_after (get_or items i d).command is_open
    ≡ ends_within_epoch (listed_calls (take (i + 1) items))
open-in items i d is_open h is =
    ap (is_open_after (get_or items i d).command) is
    ∙ sym (open-more (listed_calls (take i items)) (get_or items i d).command)
    ∙ ap ends_within_epoch (sym (listed-more items i d h))

-- ---- a script's calls are those of its commands, and perhaps an end

calls_of-more : (listing : Listing) →
    (extra : List ScriptCall) × (calls_of listing ≡ listed_calls listing.commands ++ extra)
unfolding ended
calls_of-more listing =
    let calls = listed_calls listing.commands in
    elim (ends_within_epoch calls) as (λ is_open. (extra : List ScriptCall)
    × (cond is_open (calls ++ call.End ∷ []) calls ≡ calls ++ extra)) [
      | true ↦ (call.End ∷ [], refl)
      | false ↦ ([], sym (append-nil calls))
    ]

-- ---- one call more shows one line more

shown_lines-more : (names : List (List ℕ)) (state : State Word32 WrapSum) (number : ℕ)
    (calls : List ScriptCall) (call : ScriptCall) →
    shown_lines names (calls ++ call ∷ [])
    (replies_from script_meaning state number (calls ++ call ∷ []))
    ≡ shown_lines names calls (replies_from script_meaning state number calls)
    ++ shown_line names call (reply_of script_meaning
    (fold (state_after script_meaning) state calls) (number + length calls) call)
shown_lines-more names state number [] call =
    let same : number ≡ number + 0 = omega arith in
    append-nil (shown_line names call (reply_of script_meaning state number call))
    ∙ ap (λ n. shown_line names call (reply_of script_meaning state n call)) same
shown_lines-more names state number (first ∷ rest) call =
    let same : number + 1 + length rest ≡ number + length (first ∷ rest) = omega arith in
    let next = state_after script_meaning state first in
    let line = shown_line names first (reply_of script_meaning state number first) in
    let lines = shown_lines names rest (replies_from script_meaning next (number + 1) rest) in
    let last : ℕ → List ℕ = λ n. shown_line names call (reply_of script_meaning
    (fold (state_after script_meaning) next rest) n call) in
    ap (λ more. line ++ more) (shown_lines-more names next (number + 1) rest call)
    ∙ sym (append_assoc line lines (last (number + 1 + length rest)))
    ∙ ap (λ n. (line ++ lines) ++ last n) same

shown_lines-push : (names : List (List ℕ)) (calls : List ScriptCall) (call : ScriptCall) →
    shown_lines names (calls ++ call ∷ [])
    (sequential_replies script_meaning (calls ++ call ∷ []))
    ≡ shown_lines names calls (sequential_replies script_meaning calls)
    ++ shown_line names call (reply_of script_meaning
    (sequential_state script_meaning calls) (length calls) call)
shown_lines-push names calls call =
    let same : 0 + length calls ≡ length calls = omega arith in
    shown_lines-more names (initial_state script_meaning) 0 calls call
    ∙ ap (λ n. shown_lines names calls (sequential_replies script_meaning calls)
    ++ shown_line names call (reply_of script_meaning
    (sequential_state script_meaning calls) n call)) same

-- what calls show with the replies of the program
abbrev shown_by : List (List ℕ) → List ScriptCall → List ℕ
shown_by names calls = shown_lines names calls (sequential_replies script_meaning calls)

abbrev told : List ℕ → Option (ℕ × Refusal) → ShownRecord
told text stopped = record { text = text; stopped = stopped }

-- the fault is a refusal, and is told with this text and this line
abbrev pub TellsOf : List ℕ → ℕ → Fault → ShownRecord → Type 0
TellsOf text line fault shown =
    (refusal : Refusal) × (fault ≡ Refused refusal)
    × (shown ≡ told text (Some (line, refusal)))

module _ (listing : Listing) where
  -- a runtime took these calls, and they showed this text
  pub record OnWay (runtime : RuntimeView Word32 WrapSum) (made : List ScriptCall)
      (text : List ℕ) : Type 0 where
    pub after : IsAfter script_meaning runtime made
    pub shown : text ≡ shown_lines listing.names made (sequential_replies script_meaning made)

  -- a runtime made what it could of the script
  pub record HasShown (runtime : RuntimeView Word32 WrapSum) (shows : ShownRecord)
      : Type 0 where
    pub after : IsAfter script_meaning runtime (sound_front script_meaning (calls_of listing))
    pub shown : shows ≡ shown_of listing

  -- a refusal changes no text
  abbrev pub Keeps : List ℕ → List ℕ → Fault → Type 0
  Keeps text longer fault = (refusal : Refusal) → fault ≡ Refused refusal → longer ≡ text

  -- where the fault is a refusal, the script stops with it on this line
  abbrev pub StopsAt : RuntimeView Word32 WrapSum → List ℕ → ℕ → Fault → Type 0
  StopsAt new text line fault =
      (refusal : Refusal) → fault ≡ Refused refusal →
      HasShown new (record { text = text; stopped = Some (line, refusal) })

  -- an accepted call
  goes : (old new : RuntimeView Word32 WrapSum) (made : List ScriptCall) (text : List ℕ)
      (call : ScriptCall) → OnWay old made text → IsAfter script_meaning new (made ++ call ∷ []) →
      OnWay new (made ++ call ∷ []) (text ++ shown_line listing.names call
      (reply_of script_meaning old.state old.marks.calls call))
  goes old new made text call way at =
      let number = way.after.marks.call_count ∙ length-map made (shape_of own_set) in
      record {
        after = at;
        shown = rw (way.after.state, number, way.shown)
            (sym (shown_lines-push listing.names made call));
      }

  -- a refused call, which stands on this line
  stops : (old new : RuntimeView Word32 WrapSum) (made : List ScriptCall) (text longer : List ℕ)
      (call : ScriptCall) (rest : List ScriptCall) (fault : Fault) (line : ℕ) →
      calls_of listing ≡ made ++ call ∷ rest → line ≡ line_at listing (length made) →
      OnWay old made text → FailsList script_meaning new made call fault →
      Keeps text longer fault → StopsAt new longer line fault
  stops old new made text longer call rest fault line is on_line way fails kept refusal is_refused =
      let refused = subst (FailsList script_meaning new made call) is_refused fails in
      let sound = way.after.marks.sound in
      let shapes : shapes_of script_meaning (calls_of listing)
      ≡ shapes_of script_meaning made ++ shape_of own_set call ∷ shapes_of script_meaning rest =
      ap (shapes_of script_meaning) is ∙ map-append (shape_of own_set) made (call ∷ rest) in
      let place : first_break (shapes_of script_meaning (calls_of listing)) ≡ Some (length made) =
      ap first_break shapes
      ∙ first_break-at (shapes_of script_meaning made) (shape_of own_set call)
      (shapes_of script_meaning rest) refusal sound refused.0
      ∙ ap Some (length-map made (shape_of own_set)) in
      let first : first_refusal (shapes_of script_meaning (calls_of listing)) ≡ Some refusal =
      ap first_refusal shapes
      ∙ first_refusal-at (shapes_of script_meaning made) (shape_of own_set call)
      (shapes_of script_meaning rest) refusal sound refused.0 in
      let front : sound_front script_meaning (calls_of listing) ≡ made =
      ap (λ at. front_before at (calls_of listing)) place
      ∙ ap (λ calls. take (length made) calls) is
      ∙ take-append_seam made (call ∷ rest) in
      let shown : longer ≡ shown_text listing =
      subst (λ calls. longer ≡ shown_by listing.names calls) (sym front)
      (kept refusal is_refused ∙ way.shown) in
      let stopped : Some (line, refusal) ≡ stopped_at listing =
      subst (λ line. Some (line, refusal) ≡ stopped_at listing) (sym on_line)
      (sym (ap₂ (stop_at listing) place first)) in
      record {
        after = subst (λ calls. IsAfter script_meaning new calls) (sym front) refused.1;
        shown = ap₂ told shown stopped;
      }

  -- no call was refused
  ends : (new : RuntimeView Word32 WrapSum) (made : List ScriptCall) (text : List ℕ) →
      calls_of listing ≡ made → OnWay new made text →
      HasShown new (record { text = text; stopped = None })
  ends new made text is way =
      let sound : first_break (shapes_of script_meaning (calls_of listing)) ≡ None =
      ap (λ calls. first_break (shapes_of script_meaning calls)) is ∙ way.after.marks.sound in
      let front : sound_front script_meaning (calls_of listing) ≡ made =
      ap (λ at. front_before at (calls_of listing)) sound ∙ is in
      let stopped : None ≡ stopped_at listing =
      ap (λ place. stop_at listing place
      (first_refusal (shapes_of script_meaning (calls_of listing)))) (sym sound) in
      let shown : text ≡ shown_text listing =
      subst (λ calls. text ≡ shown_by listing.names calls) (sym front) way.shown in
      record {
        after = subst (λ calls. IsAfter script_meaning new calls) (sym front) way.after;
        shown = ap₂ told shown stopped;
      }

  -- a command of the script was accepted
  pub goes-in : (items : List Placed) (i : ℕ) (d : Placed) → i < length items →
      (old new : RuntimeView Word32 WrapSum) (text longer : List ℕ) →
      OnWay old (listed_calls (take i items)) text →
      IsAfter script_meaning new
      (listed_calls (take i items) ++ call_of (get_or items i d).command ∷ []) →
      longer ≡ text ++ shown_line listing.names (call_of (get_or items i d).command)
      (reply_of script_meaning old.state old.marks.calls (call_of (get_or items i d).command)) →
      OnWay new (listed_calls (take (i + 1) items)) longer
  goes-in items i d h old new text longer way at more =
      rw (listed-more items i d h, more) (goes old new (listed_calls (take i items)) text
      (call_of (get_or items i d).command) way at)

  -- a command of the script was refused
  pub stops-in : (items : List Placed) → items ≡ listing.commands →
      (i : ℕ) (d : Placed) → i < length items →
      (old new : RuntimeView Word32 WrapSum) (text longer : List ℕ) (fault : Fault) →
      OnWay old (listed_calls (take i items)) text →
      FailsList script_meaning new (listed_calls (take i items))
      (call_of (get_or items i d).command) fault →
      Keeps text longer fault → StopsAt new longer (get_or items i d).line fault
  stops-in items are i d h old new text longer fault way fails kept =
      let made = listed_calls (take i items) in
      let this = call_of (get_or items i d).command in
      let left = listed_calls (drop (i + 1) items) in
      let more = calls_of-more listing in
      let split : items ≡ take i items ++ get_or items i d ∷ drop (i + 1) items =
      sym (take-append-drop i items) ∙ ap (λ rest. take i items ++ rest) (drop_more items i d h) in
      let listed : listed_calls listing.commands ≡ made ++ this ∷ left =
      ap listed_calls (sym are ∙ split)
      ∙ map-append (λ placed. call_of placed.command) (take i items)
      (get_or items i d ∷ drop (i + 1) items) in
      let whole : calls_of listing ≡ made ++ this ∷ (left ++ more.0) =
      more.1 ∙ ap (λ calls. calls ++ more.0) listed ∙ append_assoc made (this ∷ left) more.0 in
      let count : length made ≡ i =
      length-map (take i items) (λ placed. call_of placed.command) ∙ length-take-le i items (omega arith) in
      let placed : slice_get listing.commands i ≡ Some (get_or items i d) =
      ap (λ commands. slice_get commands i) (sym are) ∙ slice_get-get_or items i d h in
      stops old new made text longer this (left ++ more.0) fault (get_or items i d).line whole
      (rw (count, placed) refl) way fails kept

  -- the end that the script lacks was refused
  pub stops-end : (old new : RuntimeView Word32 WrapSum) (text longer : List ℕ) (fault : Fault) →
      ends_within_epoch (listed_calls listing.commands) ≡ true →
      OnWay old (listed_calls listing.commands) text →
      FailsList script_meaning new (listed_calls listing.commands) call.End fault →
      Keeps text longer fault → StopsAt new longer 0 fault
  stops-end old new text longer fault is_open way fails kept =
      let made = listed_calls listing.commands in
      let count : length made ≡ length listing.commands =
      length-map listing.commands (λ placed. call_of placed.command) in
      let none : slice_get listing.commands (length listing.commands) ≡ None =
      slice_get_past listing.commands (length listing.commands) (omega arith) in
      stops old new made text longer call.End [] fault 0 (ended-open made is_open)
      (rw (count, none) refl) way fails kept

  -- what is answered then says what the script shows
  pub says_shown : (new : RuntimeView Word32 WrapSum) (text : List ℕ) (line : ℕ) (fault : Fault) →
      StopsAt new text line fault → (result : Result ShownRecord OutOfMemory) →
      IfOk result (TellsOf text line fault) →
      IfOk result (λ shown. shown ≡ shown_of listing)
  says_shown new text line fault stops result tells =
      IfOk-weaker result (TellsOf text line fault) (λ shown. shown ≡ shown_of listing)
      (λ shown t. t.2 ∙ (stops t.0 t.1).shown) tells

  pub says_after : (new : RuntimeView Word32 WrapSum) (text : List ℕ) (line : ℕ) (fault : Fault) →
      StopsAt new text line fault → (result : Result ShownRecord OutOfMemory) →
      IfOk result (TellsOf text line fault) →
      IfOk result (λ shown. IsAfter script_meaning new
      (sound_front script_meaning (calls_of listing)))
  says_after new text line fault stops result tells =
      IfOk-weaker result (TellsOf text line fault)
      (λ shown. IsAfter script_meaning new (sound_front script_meaning (calls_of listing)))
      (λ shown t. (stops t.0 t.1).after) tells

  -- the end that the script lacks was accepted
  pub ends-open : (old new : RuntimeView Word32 WrapSum) (text longer : List ℕ) →
      ends_within_epoch (listed_calls listing.commands) ≡ true →
      OnWay old (listed_calls listing.commands) text →
      IsAfter script_meaning new (listed_calls listing.commands ++ call.End ∷ []) →
      longer ≡ text ++ [] →
      HasShown new (record { text = longer; stopped = None })
  ends-open old new text longer is_open way at same =
      let made = listed_calls listing.commands in
      ends new (made ++ call.End ∷ []) longer (ended-open made is_open)
      (rw same (goes old new made text call.End way at))

  -- the script lacks no end
  pub ends-closed : (new : RuntimeView Word32 WrapSum) (text : List ℕ) →
      ends_within_epoch (listed_calls listing.commands) ≡ false →
      OnWay new (listed_calls listing.commands) text →
      HasShown new (record { text = text; stopped = None })
  ends-closed new text is_closed way =
      let made = listed_calls listing.commands in
      ends new made text (ended-closed made is_closed) way
