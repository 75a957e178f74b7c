-- Runs that stand by epochs and sets are printed as their trace.
use Rattle.std.proofs.Common.{◌≡◌, ℕ, ◌+◌, ◌<◌, ◌≤◌, Bool, true, false, cond, not, Some, None}
use Rattle.std.proofs.Common.{List, [], ◌∷◌, ◌++◌, map, length, drop, get_or}
use Rattle.std.proofs.Common.{refl, sym, ap, ap₂, ◌∙◌, subst, append_assoc}
use Rattle.std.specs.Prelude.{◌&&◌, ◌||◌, codes}
use Rattle.std.specs.declared.option.Option.{Option}
use Rattle.std.specs.declared.cmp.Ordering.TheVariants.{Less, Equal, Greater}
use Rattle.std.specs.List.{AllByRecursion, filter, flat_map, list_any}
use Rattle.std.specs.List.Sorted.{IsStrictlySortedBy, IsSortedByKey, IsStableByKey}
use Rattle.std.specs.Ordering.{is_eq, is_lt, ordering_reverse}
use Rattle.std.specs.Cmp.{eq_by_cmp_equiv}
use Rattle.std.proofs.lemmas.Bool.{true≢false}
use Rattle.std.proofs.lemmas.List.{drop_more, drop_all}
use Rattle.ss_base.specs.declared.ids.Run.{Run}
use Rattle.execution_definitions.specs.Runs.{is_of_set, place_of}
use Rattle.report.specs.Traces.{EpochSet, epoch_set, epoch_set_cmp, epoch_sets, calls_of, set_head}
use Rattle.report.specs.Traces.{call_text, set_line, trace_text}
use Rattle.report.specs.Tracing.{line_end, run_lead, runs_text}
use Rattle.report.specs.TraceLaws.{is_same, is_among, AreThoseOf}
use Rattle.report.proofs.EpochSetsLemmas.{same-is, same-ties, same-flip, epoch_set_cmp-total}
use Rattle.report.proofs.EpochSetsLemmas.{others, is_among-others, rise}
use Rattle.report.proofs.EpochSetsLemmas.{run_at, epoch_sets-unique, epoch_sets-same}

-- ---- runs of another set are passed over

apart : (one other : EpochSet) → epoch_set_cmp one other ≡ Less → is_same one other ≡ false
apart one other below = same-ties one other ∙ ap is_eq below

itself : (at : EpochSet) → is_same at at ≡ true
itself at =
    same-ties at at ∙ (eq_by_cmp_equiv epoch_set_cmp-total).refl at

-- a run before all of these says nothing of them
passed_over :
    (run : Run) (runs : List Run) (ats : List EpochSet)
    → AllByRecursion (λ at. epoch_set_cmp (epoch_set run) at ≡ Less) ats
    → flat_map (set_line (run ∷ runs)) ats ≡ flat_map (set_line runs) ats
passed_over run runs [] below = refl
passed_over run runs (at ∷ ats) below =
    ap₂ (λ b lines. (set_head at ++ flat_map call_text (map place_of
    (cond b (run ∷ filter (is_of_set at.0 at.1) runs) (filter (is_of_set at.0 at.1) runs)))
    ++ codes "\n") ++ lines)
    (apart (epoch_set run) at below.0) (passed_over run runs ats below.1)

left_false : (a b : Bool) → (a || b) ≡ false → a ≡ false
left_false true b none = none
left_false false b none = refl

right_false : (a b : Bool) → (a || b) ≡ false → b ≡ false
right_false true b none = absurd (true≢false none)
right_false false b none = none

-- no run has this epoch and set
none_of :
    (at : EpochSet) (runs : List Run) → is_among (map epoch_set runs) at ≡ false
    → filter (is_of_set at.0 at.1) runs ≡ []
none_of at [] none = refl
none_of at (run ∷ runs) none =
    ap (λ b. cond b (run ∷ filter (is_of_set at.0 at.1) runs) (filter (is_of_set at.0 at.1) runs))
    (left_false (is_same (epoch_set run) at) (is_among (map epoch_set runs) at) none)
    ∙ none_of at runs
    (right_false (is_same (epoch_set run) at) (is_among (map epoch_set runs) at) none)

none_below :
    (at : EpochSet) (ats : List EpochSet)
    → AllByRecursion (λ other. epoch_set_cmp at other ≡ Less) ats → is_among ats at ≡ false
none_below at [] below = refl
none_below at (other ∷ ats) below =
    ap₂ (λ a b. a || b) (same-flip other at ∙ apart at other below.0)
    (none_below at ats below.1)

-- ---- one line after the other

moved : (a b c d : List ℕ) → a ++ ((b ++ c) ++ d) ≡ ((a ++ b) ++ c) ++ d
moved a b c d = simp append_assoc

begun : (a b c d e : List ℕ) → (a ++ b) ++ ((c ++ d) ++ e) ≡ ((a ++ (b ++ c)) ++ d) ++ e
begun a b c d e = simp append_assoc

-- the runs behind the line of `at`: what is left of its calls, and the other lines
abbrev Goes : EpochSet → List Run → Type 0
Goes at runs =
    runs_text (Some at) runs
    ≡ (flat_map call_text (calls_of runs at) ++ codes "\n")
    ++ flat_map (set_line runs) (others at (map epoch_set runs))

-- a run that begins a line, and those behind it
begins :
    (run : Run) (runs : List Run)
    → IsStrictlySortedBy epoch_set_cmp
    (epoch_set run ∷ others (epoch_set run) (map epoch_set runs))
    → Goes (epoch_set run) runs
    → (set_head (epoch_set run) ++ call_text (place_of run)) ++ runs_text (Some (epoch_set run)) runs
    ≡ flat_map (set_line (run ∷ runs))
    (epoch_set run ∷ others (epoch_set run) (map epoch_set runs))
unfolding IsStrictlySortedBy
begins run runs rising goes =
    let at = epoch_set run in
    let behind = others at (map epoch_set runs) in
    let mine = filter (is_of_set at.0 at.1) runs in
    let calls = flat_map call_text (map place_of mine) in
    ap (λ text. (set_head at ++ call_text (place_of run)) ++ text)
    (goes ∙ ap (λ lines. (calls ++ codes "\n") ++ lines) (sym (passed_over run runs behind rising.0)))
    ∙ begun (set_head at) (call_text (place_of run)) calls (codes "\n")
    (flat_map (set_line (run ∷ runs)) behind)
    ∙ ap (λ b. ((set_head at ++ flat_map call_text (map place_of (cond b (run ∷ mine) mine)))
    ++ codes "\n") ++ flat_map (set_line (run ∷ runs)) behind) (sym (itself at))

module _ (run : Run) (runs : List Run) (at : EpochSet) where
  -- what is said of a run and those behind it, where b says that it belongs to the line of `at`
  abbrev GoesOn : Bool → Type 0
  GoesOn b =
      (cond b [] (codes "\n" ++ set_head (epoch_set run)) ++ call_text (place_of run))
      ++ runs_text (Some (epoch_set run)) runs
      ≡ (flat_map call_text (map place_of (cond b (run ∷ filter (is_of_set at.0 at.1) runs)
      (filter (is_of_set at.0 at.1) runs))) ++ codes "\n")
      ++ flat_map (set_line (run ∷ runs)) (cond b (others at (map epoch_set runs))
      (epoch_set run ∷ others (epoch_set run) (map epoch_set runs)))

  goes_on-same :
      is_same (epoch_set run) at ≡ true
      → IsStrictlySortedBy epoch_set_cmp (at ∷ others at (map epoch_set runs))
      → Goes at runs → GoesOn true
  unfolding IsStrictlySortedBy
  goes_on-same same rising goes =
      let is = same-is (epoch_set run) at same in
      let behind = others at (map epoch_set runs) in
      let mine = filter (is_of_set at.0 at.1) runs in
      let calls = flat_map call_text (map place_of mine) in
      ap (λ one. call_text (place_of run) ++ runs_text (Some one) runs) is
      ∙ ap (λ text. call_text (place_of run) ++ text)
      (goes ∙ ap (λ lines. (calls ++ codes "\n") ++ lines) (sym (passed_over run runs behind
      (subst (λ one. AllByRecursion (λ other. epoch_set_cmp one other ≡ Less) behind) (sym is)
      rising.0))))
      ∙ moved (call_text (place_of run)) calls (codes "\n") (flat_map (set_line (run ∷ runs)) behind)

  goes_on-apart :
      IsStrictlySortedBy epoch_set_cmp
      (at ∷ epoch_set run ∷ others (epoch_set run) (map epoch_set runs))
      → Goes (epoch_set run) runs → GoesOn false
  unfolding IsStrictlySortedBy
  goes_on-apart rising goes =
      let next = epoch_set run ∷ others (epoch_set run) (map epoch_set runs) in
      let lines = flat_map (set_line (run ∷ runs)) next in
      let none : is_among (map epoch_set runs) at ≡ false =
      right_false (is_same (epoch_set run) at) (is_among (map epoch_set runs) at)
      (sym (is_among-others at (epoch_set run) (map epoch_set runs)) ∙ none_below at next rising.0) in
      append_assoc (codes "\n" ++ set_head (epoch_set run)) (call_text (place_of run))
      (runs_text (Some (epoch_set run)) runs)
      ∙ append_assoc (codes "\n") (set_head (epoch_set run))
      (call_text (place_of run) ++ runs_text (Some (epoch_set run)) runs)
      ∙ ap (λ text. codes "\n" ++ text)
      (sym (append_assoc (set_head (epoch_set run)) (call_text (place_of run))
      (runs_text (Some (epoch_set run)) runs)) ∙ begins run runs rising.1 goes)
      ∙ ap (λ mine. (flat_map call_text (map place_of mine) ++ codes "\n") ++ lines)
      (sym (none_of at runs none))

goes :
    (at : EpochSet) (runs : List Run)
    → IsStrictlySortedBy epoch_set_cmp (at ∷ others at (map epoch_set runs)) → Goes at runs
unfolding IsStrictlySortedBy
goes at [] rising = refl
goes at (run ∷ runs) rising =
    elim (is_same (epoch_set run) at) as (λ b. is_same (epoch_set run) at ≡ b
    → IsStrictlySortedBy epoch_set_cmp (at ∷ cond b (others at (map epoch_set runs))
    (epoch_set run ∷ others (epoch_set run) (map epoch_set runs)))
    → GoesOn run runs at b) [
      | true ↦ λ same rises. goes_on-same run runs at same rises (goes at runs rises)
      | false ↦ λ apart rises. goes_on-apart run runs at rises
          (goes (epoch_set run) runs rises.1)
    ] refl rising

-- ---- a stable sort keeps what is said of each set

tied-same : (one other : EpochSet) →
    (not (is_lt (epoch_set_cmp one other)) && not (is_lt (epoch_set_cmp other one)))
    ≡ is_same other one
tied-same one other =
    ap (λ o. not (is_lt o) && not (is_lt (epoch_set_cmp other one)))
    (epoch_set_cmp-total.antisymm one other)
    ∙ elim (epoch_set_cmp other one) as (λ o.
    (not (is_lt (ordering_reverse o)) && not (is_lt o)) ≡ is_eq o)
    [ Less ↦ refl | Equal ↦ refl | Greater ↦ refl ]
    ∙ sym (same-ties other one)

-- the runs of a set in an epoch stay as they stand
kept :
    (all sorted : List Run) → IsStableByKey epoch_set epoch_set_cmp all sorted
    → (at : EpochSet) → filter (is_of_set at.0 at.1) sorted ≡ filter (is_of_set at.0 at.1) all
kept all sorted stable at =
    let test :
    ◌≡◌ {A = Run → Bool} (λ run. not (is_lt (epoch_set_cmp at (epoch_set run)))
    && not (is_lt (epoch_set_cmp (epoch_set run) at))) (is_of_set at.0 at.1) =
    λ i run. tied-same at (epoch_set run) i in
    sym (ap (λ p. filter p sorted) test) ∙ stable (run_at at) ∙ ap (λ p. filter p all) test

-- there are some
abbrev has_some : List Run → Bool
has_some [] = false
has_some (run ∷ runs) = true

list_any-filter : (p : Run → Bool) (runs : List Run) → list_any p runs ≡ has_some (filter p runs)
list_any-filter p [] = refl
list_any-filter p (run ∷ runs) =
    elim (p run) as (λ b.
    (b || list_any p runs) ≡ has_some (cond b (run ∷ filter p runs) (filter p runs)))
    [ true ↦ refl | false ↦ list_any-filter p runs ]

is_among-runs :
    (at : EpochSet) (runs : List Run)
    → is_among (map epoch_set runs) at ≡ list_any (is_of_set at.0 at.1) runs
is_among-runs at [] = refl
is_among-runs at (run ∷ runs) =
    ap (λ b. is_same (epoch_set run) at || b) (is_among-runs at runs)

module _ (all : List Run) where
  -- the same of each set
  abbrev pub AreKept : List Run → Type 0
  AreKept sorted =
      (at : EpochSet) → filter (is_of_set at.0 at.1) sorted ≡ filter (is_of_set at.0 at.1) all

  kept_lines :
      (sorted : List Run) (ats : List EpochSet) → AreKept sorted
      → flat_map (set_line sorted) ats ≡ flat_map (set_line all) ats
  kept_lines sorted ats kept =
      ap (λ line. flat_map line ats)
      (λ i at. set_head at ++ flat_map call_text (map place_of (kept at i)) ++ codes "\n")

  kept_any :
      (sorted : List Run) → AreKept sorted → (at : EpochSet)
      → list_any (is_of_set at.0 at.1) sorted ≡ list_any (is_of_set at.0 at.1) all
  kept_any sorted kept at =
      list_any-filter (is_of_set at.0 at.1) sorted
      ∙ ap has_some (kept at) ∙ sym (list_any-filter (is_of_set at.0 at.1) all)

  -- a trace tells of each set alone
  pub trace_text-kept : (other : List Run) → AreKept other → trace_text other ≡ trace_text all
  trace_text-kept other kept =
      kept_lines other (epoch_sets other) kept
      ∙ ap (flat_map (set_line all)) (epoch_sets-same other all (kept_any other kept))

  kept_among :
      (sorted : List Run) → AreKept sorted → (at : EpochSet)
      → is_among (map epoch_set sorted) at ≡ list_any (is_of_set at.0 at.1) all
  kept_among sorted kept at =
      is_among-runs at sorted ∙ kept_any sorted kept at

  traced :
      (sorted : List Run) → IsSortedByKey epoch_set epoch_set_cmp sorted → AreKept sorted
      → runs_text None sorted ≡ trace_text all
  unfolding IsStrictlySortedBy
  traced [] sorted kept =
      ap (flat_map (set_line all)) (epoch_sets-unique all [] tt (λ at. kept_among [] kept at))
  traced (run ∷ runs) sorted kept =
      let at = epoch_set run in
      let rising = rise run runs sorted in
      let ats = at ∷ others at (map epoch_set runs) in
      let those : AreThoseOf ats all =
      λ one. is_among-others one at (map epoch_set runs) ∙ kept_among (run ∷ runs) kept one in
      begins run runs rising (goes at runs rising)
      ∙ kept_lines (run ∷ runs) ats kept
      ∙ ap (flat_map (set_line all)) (epoch_sets-unique all ats rising those)

  -- a stable sort of runs is printed as their trace
  pub runs_text-sorted :
      (sorted : List Run) → IsSortedByKey epoch_set epoch_set_cmp sorted
      → IsStableByKey epoch_set epoch_set_cmp all sorted → runs_text None sorted ≡ trace_text all
  runs_text-sorted sorted in_order stable = traced sorted in_order (kept all sorted stable)

-- ---- the loop

pub one_more :
    (runs : List Run) (i : ℕ) (d : Run) → i < length runs
    → (last : Option EpochSet) (at : EpochSet) (text led longer whole : List ℕ)
    → text ++ runs_text last (drop i runs) ≡ whole → at ≡ epoch_set (get_or runs i d)
    → led ≡ text ++ run_lead last at → longer ≡ led ++ call_text (place_of (get_or runs i d))
    → longer ++ runs_text (Some at) (drop (i + 1) runs) ≡ whole
one_more runs i d within last at text led longer whole so_far is lead call =
    let run = get_or runs i d in
    let rest = drop (i + 1) runs in
    let joined : longer ≡ (text ++ run_lead last (epoch_set run)) ++ call_text (place_of run) =
    call ∙ ap (λ t. t ++ call_text (place_of run)) (lead ∙ ap (λ one. text ++ run_lead last one) is) in
    ap₂ (λ t one. t ++ runs_text (Some one) rest) joined is
    ∙ append_assoc (text ++ run_lead last (epoch_set run)) (call_text (place_of run))
    (runs_text (Some (epoch_set run)) rest)
    ∙ append_assoc text (run_lead last (epoch_set run))
    (call_text (place_of run) ++ runs_text (Some (epoch_set run)) rest)
    ∙ ap (λ t. text ++ t) (sym (append_assoc (run_lead last (epoch_set run))
    (call_text (place_of run)) (runs_text (Some (epoch_set run)) rest)))
    ∙ ap (λ left. text ++ runs_text last left) (sym (drop_more runs i d within))
    ∙ so_far

pub all_done :
    (runs : List Run) (i : ℕ) → length runs ≤ i
    → (last : Option EpochSet) (text longer whole : List ℕ)
    → text ++ runs_text last (drop i runs) ≡ whole → longer ≡ text ++ line_end last
    → longer ≡ whole
all_done runs i past last text longer whole so_far is =
    is ∙ ap (λ left. text ++ runs_text last left) (sym (drop_all i runs past)) ∙ so_far
