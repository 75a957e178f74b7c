use Rattle.std.proofs.Common.{◌≡◌, ◌≤◌, ◌∙◌, ap, ap₂, arith, length, sym}
use Rattle.std.proofs.lemmas.List.{take_all}
use Rattle.std.specs.List.{zip}
use Rattle.text_table.specs.TextMaps.{map_of}
use Rattle.text_table.proofs.TextMapsLemmas.{zip-entries}
use Rattle.shard.specs.Shards.{last_in}
use Rattle.shard.proofs.ShardLemmas.{same_parts}
use Rattle.shard.proofs.shard.Shard.copy.Goals as goal

pub invariant_of-result : goal.invariant_of-result
invariant_of-result c =
    let values = c.values-lists.result.now in
    let end : length values ≤ c.loop-list.list-index = omega (arith, c.loop-list-test.false) in
    let copies = c.loop-list.invariant ∙ take_all c.loop-list.list-index values end
    ∙ c.values-lists.ensures in
    let same : c.of.result ≡ c.self.inside.lists =
    c.of.ensures ∙ ap₂ zip (c.in_ok-copy-2.ensures ∙ c.texts.ensures) copies
    ∙ zip-entries c.self.inside.lists in
    c.self.invariant ∙ sym (ap (λ entries. last_in (map_of entries)) same)

pub returns : goal.returns
returns c =
    let values = c.values-lists.result.now in
    let end : length values ≤ c.loop-list.list-index = omega (arith, c.loop-list-test.false) in
    let copies = c.loop-list.invariant ∙ take_all c.loop-list.list-index values end
    ∙ c.values-lists.ensures in
    let same : c.of.result ≡ c.self.inside.lists =
    c.of.ensures ∙ ap₂ zip (c.in_ok-copy-2.ensures ∙ c.texts.ensures) copies
    ∙ zip-entries c.self.inside.lists in
    same_parts _ c.args.self.now (ap (λ s. s.number) c.self.view_is)
    (ap map_of same ∙ ap (λ s. s.lists) c.self.view_is)
