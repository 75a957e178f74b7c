-- States and replies of the sequential program, one call more at a time.
use Rattle.std.proofs.Common.{◌≡◌, ℕ, ◌+◌, Some, List, [], ◌∷◌, ◌++◌, length, map, sym, ap, ◌∙◌, arith}
use Rattle.std.specs.Prelude.{fold}
use Rattle.std.proofs.lemmas.List.{map-append}
use Rattle.std.proofs.lemmas.List.Sums.{fold-append}
use Rattle.execution_definitions.specs.declared.call.Call.{Call}
use Rattle.execution_definitions.specs.declared.call.Reply.{Reply}
use Rattle.execution_definitions.specs.Meanings.{Meaning, shape_of, shapes_of}
use Rattle.execution_definitions.specs.Sequential.{State, initial_state, state_after, sequential_state, reply_of, replies_from, sequential_replies}

module _ {C O R : Type 0} (m : Meaning C O R) where
  -- one call more has its shape
  pub shapes_of-push : (calls : List (Call C O)) (call : Call C O) →
      shapes_of m (calls ++ call ∷ []) ≡ shapes_of m calls ++ shape_of m.own call ∷ []
  shapes_of-push calls call = map-append (shape_of m.own) calls (call ∷ [])

  -- one call more takes effect on the state that the others leave
  pub sequential_state-push : (calls : List (Call C O)) (call : Call C O) →
      sequential_state m (calls ++ call ∷ []) ≡ state_after m (sequential_state m calls) call
  sequential_state-push calls call =
      fold-append (state_after m) (initial_state m) calls (call ∷ [])

  replies_from-push : (state : State C R) (number : ℕ) (calls : List (Call C O))
      (call : Call C O) →
      replies_from m state number (calls ++ call ∷ []) ≡ replies_from m state number calls
      ++ reply_of m (fold (state_after m) state calls) (number + length calls) call ∷ []
  replies_from-push state number [] call =
      let same : number ≡ number + 0 = omega arith in
      ap (λ n. reply_of m state n call ∷ []) same
  replies_from-push state number (first ∷ rest) call =
      let same : number + 1 + length rest ≡ number + length (first ∷ rest) = omega arith in
      let next = state_after m state first in
      rw (replies_from-push next (number + 1) rest call)
      (ap (λ n. reply_of m state number first ∷ replies_from m next (number + 1) rest
      ++ reply_of m (fold (state_after m) next rest) n call ∷ []) same)

  -- one call more is answered after the others
  pub sequential_replies-push : (calls : List (Call C O)) (call : Call C O) →
      sequential_replies m (calls ++ call ∷ []) ≡ sequential_replies m calls
      ++ reply_of m (sequential_state m calls) (length calls) call ∷ []
  sequential_replies-push calls call =
      let same : 0 + length calls ≡ length calls = omega arith in
      replies_from-push (initial_state m) 0 calls call
      ∙ ap (λ n. sequential_replies m calls
      ++ reply_of m (sequential_state m calls) n call ∷ []) same

  -- one reply more answers one call more
  pub replies-push : (calls : List (Call C O)) (call : Call C O) (told : List (Reply C R))
      (reply : Reply C R) → map Some told ≡ sequential_replies m calls →
      Some reply ≡ reply_of m (sequential_state m calls) (length calls) call →
      map Some (told ++ reply ∷ []) ≡ sequential_replies m (calls ++ call ∷ [])
  replies-push calls call told reply same is =
      map-append Some told (reply ∷ [])
      ∙ ap (λ replies. replies ++ Some reply ∷ []) same
      ∙ ap (λ r. sequential_replies m calls ++ r ∷ []) is
      ∙ sym (sequential_replies-push calls call)
