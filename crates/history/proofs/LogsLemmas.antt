-- A log, compared with what was sent to its lane, run by run.
use Rattle.std.proofs.Common.{◌≡◌, ℕ, suc, ◌+◌, ◌<◌, ◌≤◌, Bool, true, false, Option, Some, None, List, [], ◌∷◌, ◌++◌, length, take, drop, get_or, refl, sym, ap, ◌∙◌, arith, append-nil}
use Rattle.std.specs.Prelude.{filter, map, slice_get, ◌==◌}
use Rattle.std.proofs.lemmas.Bool.Decides.{nat_tests}
use Rattle.std.proofs.Math.Seq.{take-append_seam, drop-cons}
use Rattle.std.proofs.lemmas.List.{take_more, take_all, length-take-le, take-append-drop, map-append}
use Rattle.std.proofs.lemmas.List.Elements.{filter-append}
use Rattle.std.proofs.lemmas.Option.{slice_get_within, slice_get_past}
use Rattle.std.proofs.lemmas.Grind.{flat_map-append}
use Rattle.ss_base.specs.declared.ids.Run.{Run}
use Rattle.execution_definitions.specs.Runs.{is_in_lane, is_of_set}
use Rattle.execution_definitions.proofs.lists.ListLemmas.{past_none, slice_get-append_seam, take-next}
use Rattle.history.specs.Logs.{calls_in, calls_of_set, wanted_in, DiffersAt}

module _ {A : Type 0} where
  filter-in : (test : A → Bool) (x : A) (rest : List A) → test x ≡ true →
      filter test (x ∷ rest) ≡ x ∷ filter test rest
  filter-in test x rest is = rw is refl

  filter-out : (test : A → Bool) (x : A) (rest : List A) → test x ≡ false →
      filter test (x ∷ rest) ≡ filter test rest
  filter-out test x rest is = rw is refl

-- ---- the calls of a set

module _ (epoch set : ℕ) where
  pub calls_in-next : (runs : List Run) (i : ℕ) (d : Run) → i < length runs →
      is_of_set epoch set (get_or runs i d) ≡ true →
      calls_in epoch set (take (i + 1) runs)
      ≡ calls_in epoch set (take i runs) ++ (get_or runs i d).call ∷ []
  calls_in-next runs i d inside is =
      let run = get_or runs i d in
      let test = is_of_set epoch set in
      ap (calls_in epoch set) (take_more runs i d inside)
      ∙ ap (map (λ r. r.call)) (filter-append test (take i runs) (run ∷ [])
      ∙ ap (λ l. filter test (take i runs) ++ l) (filter-in test run [] is))
      ∙ map-append (λ r. r.call) (filter test (take i runs)) (run ∷ [])

  pub calls_in-other : (runs : List Run) (i : ℕ) (d : Run) → i < length runs →
      is_of_set epoch set (get_or runs i d) ≡ false →
      calls_in epoch set (take (i + 1) runs) ≡ calls_in epoch set (take i runs)
  calls_in-other runs i d inside is =
      let run = get_or runs i d in
      let test = is_of_set epoch set in
      ap (calls_in epoch set) (take_more runs i d inside)
      ∙ ap (map (λ r. r.call)) (filter-append test (take i runs) (run ∷ [])
      ∙ ap (λ l. filter test (take i runs) ++ l) (filter-out test run [] is)
      ∙ append-nil (filter test (take i runs)))

  pub calls_in-all : (runs : List Run) (i : ℕ) → length runs ≤ i →
      calls_in epoch set (take i runs) ≡ calls_in epoch set runs
  calls_in-all runs i past = ap (calls_in epoch set) (take_all i runs past)

  pub calls_of_set-next : (logs : List (List Run)) (i : ℕ) (d : List Run) → i < length logs →
      calls_of_set epoch set (take (i + 1) logs)
      ≡ calls_of_set epoch set (take i logs) ++ calls_in epoch set (get_or logs i d)
  calls_of_set-next logs i d inside =
      ap (calls_of_set epoch set) (take_more logs i d inside)
      ∙ flat_map-append (calls_in epoch set) (take i logs) (get_or logs i d ∷ [])
      ∙ ap (λ l. calls_of_set epoch set (take i logs) ++ l)
      (append-nil (calls_in epoch set (get_or logs i d)))

  pub calls_of_set-all : (logs : List (List Run)) (i : ℕ) → length logs ≤ i →
      calls_of_set epoch set (take i logs) ≡ calls_of_set epoch set logs
  calls_of_set-all logs i past = ap (calls_of_set epoch set) (take_all i logs past)

-- ---- one lane

-- a set of another lane
pub other_lane : (set given from lane : ℕ) → given ≡ set → from ≡ given → (from ≡ lane → ⊥) →
    (set == lane) ≡ false
other_lane set given from lane is also differ =
    let apart : set ≡ lane → ⊥ = λ same. differ (also ∙ is ∙ same) in grind (arith, nat_tests)

module _ (n lane : ℕ) (sent log : List Run) where
  -- of the first runs, those of the lane are the front of the log
  pub record Agrees (index place : ℕ) : Type 0 where
    pub within : place ≤ length log
    pub same : wanted_in n lane (take index sent) ≡ take place log

  pub agrees-first : Agrees 0 0
  agrees-first = record { within = omega arith; same = refl }

  module _ (index place : ℕ) (agrees : Agrees index place) where
    -- the log goes on with nothing, where nothing more was sent
    pub ends_same : length sent ≤ index → slice_get log place ≡ None →
        log ≡ wanted_in n lane sent
    ends_same past none =
        sym (take_all place log (past_none log place none)) ∙ sym agrees.same
        ∙ ap (wanted_in n lane) (take_all index sent past)

    pub goes_past : length sent ≤ index → (found : Option Run) → slice_get log place ≡ found →
        (None ≡ found → ⊥) → DiffersAt (wanted_in n lane sent) log place None found
    goes_past past found is differ =
        let all : wanted_in n lane sent ≡ take place log =
        ap (wanted_in n lane) (sym (take_all index sent past)) ∙ agrees.same in
        let long = length-take-le place log agrees.within in
        record {
          same = ap (take place) all
              ∙ take_all place (take place log) (omega arith);
          wanted_there = ap (λ (l : List Run). slice_get l place) all
              ∙ ap (slice_get (take place log)) (sym long) ∙ slice_get_past (take place log) (length (take place log)) (omega arith);
          found_there = is;
          differ = differ;
        }

    module _ (d : Run) (inside : index < length sent) where
      abbrev run : Run
      run = get_or sent index d

      pub agrees-other : is_in_lane n lane run ≡ false → Agrees (index + 1) place
      agrees-other is = record {
        within = agrees.within;
        same = ap (wanted_in n lane) (take_more sent index d inside)
            ∙ filter-append (is_in_lane n lane) (take index sent) (run ∷ [])
            ∙ ap (λ l. wanted_in n lane (take index sent) ++ l)
            (filter-out (is_in_lane n lane) run [] is)
            ∙ append-nil (wanted_in n lane (take index sent)) ∙ agrees.same;
      }

      pub agrees-more : is_in_lane n lane run ≡ true → (found : Option Run) →
          slice_get log place ≡ found → Some run ≡ found → Agrees (index + 1) (place + 1)
      agrees-more is found at same =
          let here : slice_get log place ≡ Some run = at ∙ sym same in
          let long : place < length log = slice_get_within log place run here in
          record {
            within = omega arith;
            same = ap (wanted_in n lane) (take_more sent index d inside)
                ∙ filter-append (is_in_lane n lane) (take index sent) (run ∷ [])
                ∙ ap (λ l. wanted_in n lane (take index sent) ++ l)
                (filter-in (is_in_lane n lane) run [] is)
                ∙ ap (λ l. l ++ run ∷ []) agrees.same
                ∙ sym (take-next log place run here);
          }

      pub differs_here : is_in_lane n lane run ≡ true → (found : Option Run) →
          slice_get log place ≡ found → (Some run ≡ found → ⊥) →
          DiffersAt (wanted_in n lane sent) log place (Some run) found
      differs_here is found at differ =
          let front = wanted_in n lane (take index sent) in
          let behind = wanted_in n lane (drop (suc index) sent) in
          let all : wanted_in n lane sent ≡ front ++ run ∷ behind =
          ap (wanted_in n lane) (sym (take-append-drop index sent)
          ∙ ap (λ l. take index sent ++ l) (drop-cons sent index d inside))
          ∙ filter-append (is_in_lane n lane) (take index sent) (run ∷ drop (suc index) sent)
          ∙ ap (λ l. front ++ l) (filter-in (is_in_lane n lane) run (drop (suc index) sent) is) in
          let long : place ≡ length front =
          sym (ap length agrees.same ∙ length-take-le place log agrees.within) in
          record {
            same = ap (take place) all ∙ ap (λ k. take k (front ++ run ∷ behind)) long
                ∙ take-append_seam front (run ∷ behind) ∙ agrees.same;
            wanted_there = ap (λ (l : List Run). slice_get l place) all
                ∙ ap (slice_get (front ++ run ∷ behind)) long
                ∙ slice_get-append_seam front run behind;
            found_there = at;
            differ = differ;
          }
