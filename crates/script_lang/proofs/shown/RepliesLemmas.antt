-- A script's commands and the replies to its calls, side by side, are what it shows.
use Rattle.std.proofs.Common.{◌≡◌, ℕ, zero, suc, ◌+◌, ◌<◌, ◌≤◌, true, false, Option, Some, None}
use Rattle.std.proofs.Common.{List, [], ◌∷◌, ◌++◌, map, length, take}
use Rattle.std.proofs.Common.{refl, sym, ap, ap₂, ◌∙◌, arith}
use Rattle.std.specs.List.{flat_map, zip, slice_get}
use Rattle.std.specs.Option.{option_map, option_and_then}
use Rattle.std.proofs.lemmas.List.{length-map, length-take-le, flat_map_more}
use Rattle.std.proofs.lemmas.Option.{slice_get_within}
use Rattle.std.proofs.Math.Seq.{take-length}
use Rattle.class_laws.specs.declared.numbers.WrapSum.{WrapSum}
use Rattle.execution_definitions.specs.declared.refusal.Refusal.{Refusal}
use Rattle.execution_definitions.specs.declared.call.Call.TheVariants as call
use Rattle.execution_definitions.specs.Refusals.{breaks}
use Rattle.execution_definitions.specs.Soundness.{refusal_at, first_break}
use Rattle.execution_definitions.specs.Meanings.{shape_of, shapes_of}
use Rattle.execution_definitions.specs.Sequential.{State, initial_state, state_after}
use Rattle.execution_definitions.specs.Sequential.{replies_from}
use Rattle.execution_definitions.specs.Programs.{front_before, sound_front, HasAnswered}
use Rattle.script_lang.specs.declared.word32.Word32.{Word32}
use Rattle.script_lang.specs.declared.command.Placed.{Placed}
use Rattle.script_lang.specs.Acts.{own_set, script_meaning}
use Rattle.script_lang.specs.Listings.{Listing}
use Rattle.script_lang.specs.ScriptCalls.{ScriptCall, call_of, calls_of, listed_calls}
use Rattle.script_lang.specs.ScriptCalls.{ends_within_epoch}
use Rattle.script_lang.specs.ScriptAnswers.{ShownRecord, ScriptReply, shown_line, shown_lines}
use Rattle.script_lang.specs.ScriptAnswers.{line_at, stop_at, shown_text, stopped_at, shown_of}
use Rattle.script_lang.proofs.listings.ScriptCallsLemmas.{ended-open, ended-closed}

-- what a command shows with its reply
abbrev pub pair_line : List (List ℕ) → Placed × ScriptReply → List ℕ
pair_line names pair = shown_line names (call_of pair.0.command) (Some pair.1)

-- what one more shows is appended
pub one_more :
    {A : Type 0} (line : A → List ℕ) (items : List A) (item : A) (text longer : List ℕ)
    → text ≡ flat_map line items → longer ≡ text ++ line item
    → longer ≡ flat_map line (items ++ item ∷ [])
one_more line items item text longer so_far more =
    more ∙ ap (λ t. t ++ line item) so_far ∙ flat_map_more line [] items item

-- ---- as many replies as calls before the first break

take-nil : (n : ℕ) → ◌≡◌ {A = List ScriptCall} (take n []) []
take-nil zero = refl
take-nil (suc n) = refl

take-again : {A : Type 0} (n : ℕ) (xs : List A) → take n xs ≡ take (length (take n xs)) xs
take-again zero xs = refl
take-again (suc n) [] = refl
take-again (suc n) (x ∷ xs) = ap (λ front. x ∷ front) (take-again n xs)

front-take :
    (place : Option ℕ) (calls : List ScriptCall)
    → front_before place calls ≡ take (length (front_before place calls)) calls
front-take None calls = sym (take-length calls)
front-take (Some place) calls = take-again place calls

length-replies_from :
    (state : State Word32 WrapSum) (number : ℕ) (calls : List ScriptCall)
    → length (replies_from script_meaning state number calls) ≡ length calls
length-replies_from state number [] = refl
length-replies_from state number (call ∷ rest) =
    ap suc (length-replies_from (state_after script_meaning state call) (number + 1) rest)

length-answered :
    (calls : List ScriptCall) (replies : List ScriptReply) (stopped : Option Refusal)
    → HasAnswered script_meaning calls replies stopped
    → length (sound_front script_meaning calls) ≡ length replies
length-answered calls replies stopped answered =
    sym (length-replies_from (initial_state script_meaning) 0 (sound_front script_meaning calls))
    ∙ sym (ap length answered.replies) ∙ length-map replies Some

-- ---- what is shown

module _ (names : List (List ℕ)) where
  lines-zip :
      (commands : List Placed) (replies : List ScriptReply)
      → shown_lines names (take (length replies) (listed_calls commands)) (map Some replies)
      ≡ flat_map (pair_line names) (zip commands replies)
  lines-zip [] replies = ap (λ calls. shown_lines names calls (map Some replies)) (take-nil (length replies))
  lines-zip (placed ∷ commands) [] = refl
  lines-zip (placed ∷ commands) (reply ∷ replies) =
      ap (λ lines. pair_line names (placed, reply) ++ lines) (lines-zip commands replies)

  -- the end that a script lacks shows nothing
  lines-zip-end :
      (commands : List Placed) (replies : List ScriptReply)
      → shown_lines names (take (length replies) (listed_calls commands ++ call.End ∷ []))
      (map Some replies)
      ≡ flat_map (pair_line names) (zip commands replies)
  lines-zip-end [] [] = refl
  lines-zip-end [] (reply ∷ replies) =
      ap (λ calls. shown_lines names calls (map Some replies)) (take-nil (length replies))
  lines-zip-end (placed ∷ commands) [] = refl
  lines-zip-end (placed ∷ commands) (reply ∷ replies) =
      ap (λ lines. pair_line names (placed, reply) ++ lines) (lines-zip-end commands replies)

module _ (listing : Listing) (replies : List ScriptReply) where
  lines-zip-calls :
      shown_lines listing.names (take (length replies) (calls_of listing)) (map Some replies)
      ≡ flat_map (pair_line listing.names) (zip listing.commands replies)
  lines-zip-calls =
      let listed = listed_calls listing.commands in
      let lines : List ScriptCall → List ℕ =
      λ calls. shown_lines listing.names (take (length replies) calls) (map Some replies) in
      elim (ends_within_epoch listed) as (λ is_open. ends_within_epoch listed ≡ is_open
      → lines (calls_of listing) ≡ flat_map (pair_line listing.names) (zip listing.commands replies)) [
        | true ↦ λ is_open. ap lines (ended-open listed is_open)
            ∙ lines-zip-end listing.names listing.commands replies
        | false ↦ λ is_closed. ap lines (ended-closed listed is_closed)
            ∙ lines-zip listing.names listing.commands replies
      ] refl

  pub text-replies :
      (stopped : Option Refusal) → HasAnswered script_meaning (calls_of listing) replies stopped
      → flat_map (pair_line listing.names) (zip listing.commands replies) ≡ shown_text listing
  text-replies stopped answered =
      let calls = calls_of listing in
      let front : sound_front script_meaning calls ≡ take (length replies) calls =
      front-take (first_break (shapes_of script_meaning calls)) calls
      ∙ ap (λ n. take n calls) (length-answered calls replies stopped answered) in
      sym (ap₂ (shown_lines listing.names) front (sym answered.replies) ∙ lines-zip-calls)

-- ---- where it stops

gives : {A B : Type 0} (f : A → Option B) (o : Option A) (b : B) → Some b ≡ option_and_then f o
    → (a : A) × (o ≡ Some a)
gives f None b is = absurd (cc)
gives f (Some a) b is = (a, refl)

module _ (listing : Listing) where
  stop-place :
      (place : Option ℕ) (n : ℕ) (stopped : Option Refusal)
      → stopped ≡ option_and_then (refusal_at (shapes_of script_meaning (calls_of listing))) place
      → length (front_before place (calls_of listing)) ≡ n
      → option_map (λ refusal. (line_at listing n, refusal)) stopped ≡ stop_at listing place stopped
  stop-place None n None is count = refl
  stop-place (Some place) n None is count = refl
  stop-place None n (Some refusal) is count = cc
  stop-place (Some place) n (Some refusal) is count =
      let shapes = shapes_of script_meaning (calls_of listing) in
      let found = gives (breaks (take place shapes)) (slice_get shapes place) refusal is in
      let within : place < length shapes = slice_get_within shapes place found.0 found.1 in
      let long : length shapes ≡ length (calls_of listing) =
      length-map (calls_of listing) (shape_of own_set) in
      let fits : place ≤ length (calls_of listing) = omega arith in
      let here : n ≡ place = sym count ∙ length-take-le place (calls_of listing) fits in
      ap (λ at. Some (line_at listing at, refusal)) here

  pub stopped-replies :
      (replies : List ScriptReply) (stopped : Option Refusal)
      → HasAnswered script_meaning (calls_of listing) replies stopped
      → option_map (λ refusal. (line_at listing (length replies), refusal)) stopped
      ≡ stopped_at listing
  stopped-replies replies stopped answered =
      let shapes = shapes_of script_meaning (calls_of listing) in
      stop-place (first_break shapes) (length replies) stopped answered.stopped
      (length-answered (calls_of listing) replies stopped answered)
      ∙ ap (stop_at listing (first_break shapes)) answered.stopped

pub shown-is :
    (listing : Listing) (text : List ℕ) (stopped : Option (ℕ × Refusal))
    → text ≡ shown_text listing → stopped ≡ stopped_at listing
    → ◌≡◌ {A = ShownRecord} (record { text = text; stopped = stopped }) (shown_of listing)
shown-is listing text stopped shown stops = λ i. record { text = shown i; stopped = stops i }
