-- What a lane comes to, with one value or one operation more.
use Rattle.std.proofs.Common.{◌≡◌, ℕ, suc, ◌<◌, Option, Some, None, List, [], ◌∷◌, ◌++◌, length, refl, sym, ap, ◌∙◌, subst}
use Rattle.std.specs.Prelude.{slice_get}
use Rattle.std.specs.Option.{option_map}
use Rattle.std.specs.Arc.{arc_value}
use Rattle.std.proofs.lemmas.List.{length-set, set-append_left}
use Rattle.execution_definitions.specs.Meanings.{Meaning}
use Rattle.execution_definitions.proofs.lists.ListLemmas.{slice_get-front}
use Rattle.batch_rt.specs.declared.lane.Entry.{Entry}
use Rattle.batch_rt.specs.Lanes.{Load, load_from, stepped, run_on, after_entry, after_entries}

module _ {C O R : Type 0} (m : Meaning C O R) where
  length-run_on : (load : Load C R) (place : ℕ) (op : O) (read found : Option C) →
      length (run_on m load place op read found).values ≡ length load.values
  length-run_on load place op read None = refl
  length-run_on load place op read (Some value) = length-set load.values place _

  -- operations leave as many values
  pub length-after : (load : Load C R) (entries : List (Entry C O R)) →
      length (after_entries m load entries).values ≡ length load.values
  length-after load [] = refl
  length-after load (entry ∷ entries) =
      length-after (after_entry m load entry) entries
      ∙ length-run_on load entry.place entry.op (option_map arc_value entry.reading)
      (slice_get load.values entry.place)

  -- a load with a value more
  abbrev pub pushed : Load C R → C → Load C R
  pushed load value = load_from (load.values ++ value ∷ []) load.part

  run_on-pushed : (load : Load C R) (value : C) (place : ℕ) (op : O) (read found : Option C) →
      place < length load.values →
      run_on m (pushed load value) place op read found
      ≡ pushed (run_on m load place op read found) value
  run_on-pushed load value place op read None below = refl
  run_on-pushed load value place op read (Some old) below =
      ap (λ values. load_from values (stepped m load place (m.step old op read)).part)
      (set-append_left load.values (value ∷ []) place (m.step old op read).0 below)

  after_entry-pushed : (load : Load C R) (value : C) (entry : Entry C O R) →
      entry.place < length load.values →
      after_entry m (pushed load value) entry ≡ pushed (after_entry m load entry) value
  after_entry-pushed load value entry below =
      ap (λ found. run_on m (pushed load value) entry.place entry.op
      (option_map arc_value entry.reading) found)
      (slice_get-front load.values (value ∷ []) entry.place below)
      ∙ run_on-pushed load value entry.place entry.op (option_map arc_value entry.reading)
      (slice_get load.values entry.place) below

  -- each operation has a place among so many values
  abbrev pub ArePlaced : List (Entry C O R) → ℕ → Type 0
  ArePlaced entries count =
      (k : ℕ) (entry : Entry C O R) → slice_get entries k ≡ Some entry → entry.place < count

  -- operations don't see a value that is put behind the others
  pub after_entries-pushed : (load : Load C R) (value : C) (entries : List (Entry C O R)) →
      ArePlaced entries (length load.values) →
      after_entries m (pushed load value) entries ≡ pushed (after_entries m load entries) value
  after_entries-pushed load value [] placed = refl
  after_entries-pushed load value (entry ∷ entries) placed =
      let count = length-run_on load entry.place entry.op (option_map arc_value entry.reading)
      (slice_get load.values entry.place) in
      ap (λ load. after_entries m load entries)
      (after_entry-pushed load value entry (placed 0 entry refl))
      ∙ after_entries-pushed (after_entry m load entry) value entries
      (λ k e is. subst (λ n. e.place < n) (sym count) (placed (suc k) e is))
