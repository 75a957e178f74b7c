-- What does a lane come to?
--
-- Its pending operations run in order, each on the value of its object among the lane's values. What
-- they contribute is joined. So a lane that has run and one that still has to come to the same.
use Rattle.std.specs.Prelude.{◌≡◌, ℕ, ◌<◌, true, false, Option, Some, None, is_none, List, [], ◌++◌, map, length, fold, slice_get, slice_set}
use Rattle.std.specs.Option.{option_map, unwrap_or}
use Rattle.std.specs.Arc.{arc_value}
use Rattle.ss_base.specs.declared.ids.Run.{Run}
use Rattle.execution_definitions.specs.Meanings.{Meaning}
use Rattle.batch_rt.specs.declared.lane.Entry.{Entry}
use Rattle.batch_rt.specs.declared.lane.Lane.{Lane}

-- a lane's values, and what its operations contributed, where any did
pub record Load (C R : Type 0) : Type 0 where
  pub values : List C
  pub part : Option R

abbrev pub load_from : {C R : Type 0} → List C → Option R → Load C R
load_from values part = record { values = values; part = part }

module _ {C O R : Type 0} (m : Meaning C O R) where
  -- a new value in its place, and one contribution more
  abbrev pub stepped : Load C R → ℕ → C × R → Load C R
  stepped load place after = record {
    values = slice_set load.values place after.0;
    part = Some (m.join (unwrap_or load.part m.unit) after.1);
  }

  -- an operation on the value at a place, where there is one
  abbrev pub run_on : Load C R → ℕ → O → Option C → Option C → Load C R
  run_on load place op read None = load
  run_on load place op read (Some value) = stepped load place (m.step value op read)

  -- after one pending operation
  abbrev pub after_entry : Load C R → Entry C O R → Load C R
  after_entry load entry =
      run_on load entry.place entry.op (option_map arc_value entry.reading)
      (slice_get load.values entry.place)

  -- after pending operations
  abbrev pub after_entries : Load C R → List (Entry C O R) → Load C R
  after_entries load entries = fold after_entry load entries

  -- what a lane comes to
  abbrev pub load_of : Lane C O R → Load C R
  load_of lane = after_entries (load_from lane.values.items lane.part) lane.pending.items

-- the runs of pending operations
abbrev pub runs_of : {C O R : Type 0} → List (Entry C O R) → List Run
runs_of entries = map (λ entry. entry.run) entries

module _ {C O R : Type 0} where
  -- the runs of a lane since it was last at home, and those to come
  abbrev pub lane_runs : Lane C O R → List Run
  lane_runs lane = lane.ran.items ++ runs_of lane.pending.items

  -- each value has its object's number, and each pending operation a place among the values
  pub record IsFit (lane : Lane C O R) : Type 0 where
    pub numbered : length lane.values.items ≡ length lane.numbers.items
    pub placed : (k : ℕ) (entry : Entry C O R) → slice_get lane.pending.items k ≡ Some entry →
        entry.place < length lane.values.items

  -- a lane with nothing in it, in numbers
  pub record IsIdle (lane : Lane C O R) : Type 0 where
    pub numbers : length lane.numbers.items ≡ 0
    pub values : length lane.values.items ≡ 0
    pub pending : length lane.pending.items ≡ 0
    pub ran : length lane.ran.items ≡ 0
    pub part : is_none lane.part ≡ true

module _ {C O R : Type 0} (m : Meaning C O R) where
  -- a lane that ran came back with nothing pending, and comes to the same
  pub record HasWorked (before after : Lane C O R) : Type 0 where
    pub load : load_of m after ≡ load_of m before
    pub runs : lane_runs after ≡ lane_runs before
    pub numbers : after.numbers.items ≡ before.numbers.items
    pub count : length after.values.items ≡ length before.values.items
    pub done : after.pending.items ≡ []

  -- or it broke, and nothing is said
  abbrev pub Works : Lane C O R → Lane C O R → Type 0
  Works before after = after.is_broken ≡ false → HasWorked before after
