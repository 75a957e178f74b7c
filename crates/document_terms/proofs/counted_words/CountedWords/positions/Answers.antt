use Rattle.std.proofs.Common.{◌<◌, [], ◌∙◌, ap, ap₂, subst, sym, arith, length, get_or}
use Rattle.std.specs.List.{slice_range}
use Rattle.index_definitions.specs.PostingLists.{ArePositions}
use Rattle.index_definitions.specs.Words.{positions_of}
use Rattle.document_terms.specs.kept.Groups.{group_start, IsPart}
use Rattle.document_terms.proofs.GroupsLemmas.{group_within, group_is}
use Rattle.document_terms.proofs.CountedLemmas.{positions_of-number, ArePositions-of}
use Rattle.document_terms.proofs.counted_words.CountedWords.positions.Goals as goal

pub group_of-requires-clause-term : goal.group_of-requires-clause-term
group_of-requires-clause-term c =
    let same = ap (λ counted. length counted.terms) c.self.view_is in
    omega (
      arith,
      same,
      c.requires,
      c.self.invariant.grouped.len,
      ap length c.as_slice-2.ensures.value,
    )

pub group_of-requires-clause-part : goal.group_of-requires-clause-part
group_of-requires-clause-part c =
    let inside = c.self.inside in
    let k = c.args.number in
    let same = ap (λ counted. length counted.terms) c.self.view_is in
    let has : k < length inside.terms = omega (arith, same, c.requires) in
    subst (λ ends. IsPart c.as_slice.result.now (group_start ends k) (get_or ends k 0))
    (sym c.as_slice-2.ensures.value)
    (subst (λ ps. IsPart ps (group_start inside.ends.items k) (get_or inside.ends.items k 0))
    (sym c.as_slice.ensures.value)
    (group_within (length inside.terms) k inside.numbers.items inside.positions.items
    inside.ends.items c.self.invariant.grouped has))

pub returns-clause-positions : goal.returns-clause-positions
returns-clause-positions c =
    let inside = c.self.inside in
    let k = c.args.number in
    let same = ap (λ counted. length counted.terms) c.self.view_is in
    let has : k < length inside.terms = omega (arith, same, c.requires) in
    let invariant = c.self.invariant in
    c.group_of.ensures
    ∙ ap₂ (λ ps ends. slice_range ps (group_start ends k) (get_or ends k 0))
    c.as_slice.ensures.value c.as_slice-2.ensures.value
    ∙ group_is (length inside.terms) k inside.numbers.items inside.positions.items
    inside.ends.items invariant.grouped has
    ∙ positions_of-number inside.terms invariant.terms_are.distinct k has inside.numbers.items
    invariant.within
    ∙ ap (λ counted. positions_of (get_or counted.terms k []) counted.words) c.self.view_is

pub returns-clause-are : goal.returns-clause-are
returns-clause-are c =
    let inside = c.self.inside in
    let k = c.args.number in
    let same = ap (λ counted. length counted.terms) c.self.view_is in
    let has : k < length inside.terms = omega (arith, same, c.requires) in
    let invariant = c.self.invariant in
    subst ArePositions (sym (returns-clause-positions c))
    (subst (λ counted. ArePositions (positions_of (get_or counted.terms k []) counted.words))
    c.self.view_is
    (ArePositions-of inside.terms inside.numbers.items k invariant.terms_are invariant.within has))
