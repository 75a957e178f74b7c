use Rattle.std.proofs.Common.{◌≡◌, ℕ, ◌<◌, ◌≤◌, ◌∙◌, ◌+◌, ◌^◌, List, ◌∷◌, ap, arith, drop, length, subst, sym}
use Rattle.std.proofs.lemmas.List.{drop_more, drop_all, drop-map}
use Rattle.std.proofs.lemmas.Option.{get_or_from_slice_get}
use Rattle.std.specs.FinMap as finite
use Rattle.std.specs.Map.{keys_of}
use Rattle.text_table.specs.TextTables.{AreDistinct}
use Rattle.text_table.specs.TextMaps.{map_of}
use Rattle.text_table.proofs.TextTablesLemmas.{AreDistinct-drop}
use Rattle.class_laws.specs.Counts.{counts_join}
use Rattle.class_laws.proofs.counts.CountsLemmas.{counts_join-entry, counts_join-empty}
use Rattle.class_laws.proofs.count_table.CountTable.pour.Goals as goal

pub loop-number-preserved : goal.loop-number-preserved
loop-number-preserved c =
    let entries = c.other.inside.counts in
    let number = c.loop-number.number in
    let before = c.loop-number.self in
    let entry : List ℕ × ℕ = (c.entry.result.0.now, c.entry.result.1.now) in
    let left = drop (number + 1) entries in
    let within : number < length entries = omega (arith, c.len-number-end.ensures.len) in
    let here = get_or_from_slice_get entries number entry entry c.entry.ensures in
    let split : drop number entries ≡ entry ∷ left =
    drop_more entries number entry within ∙ ap (λ e. e ∷ left) here in
    let distinct : AreDistinct (keys_of (entry ∷ left)) =
    subst AreDistinct (drop-map (λ e. e.0) number entries ∙ ap keys_of split)
    (AreDistinct-drop number (keys_of entries) c.len-number-end.ensures.distinct) in
    let small : entry.1 < 2 ^ 64 =
    subst (λ e. e.1 < 2 ^ 64) here (c.other.invariant number entry within) in
    ap (λ counts. counts_join counts (map_of left)) c.in_ok-add.ensures.ok
    ∙ counts_join-entry before entry left distinct small
    ∙ ap (λ es. counts_join before (map_of es)) (sym split)
    ∙ c.loop-number.invariant

pub returns : goal.returns
returns c =
    let kept = c.self.view_is in
    let entries = c.other.inside.counts in
    let number = c.loop-number.number in
    let end : length entries ≤ number = omega (arith, c.len-number-end.ensures.len) in
    sym kept
    ∙ sym (counts_join-empty c.self.inside.counts c.self.invariant)
    ∙ ap (λ counts. counts_join counts finite.empty) kept
    ∙ ap (λ es. counts_join c.loop-number.self (map_of es)) (sym (drop_all number entries end))
    ∙ c.loop-number.invariant
