use Rattle.std.proofs.Common.{◌<◌, ◌∙◌, ap, max, subst, sym}
use Rattle.index_definitions.specs.PostingLists.{last_document}
use Rattle.text_table.specs.TextMaps.{map_of}
use Rattle.shard.specs.Shards.{last_in, list_of}
use Rattle.shard.proofs.ShardLemmas.{last_in-with_positions}
use Rattle.shard.proofs.shard.Shard.append.Goals as goal

pub invariant_of-self-2 : goal.invariant_of-self-2
invariant_of-self-2 c =
    let lists = map_of c.self.inside.lists in
    let rises = subst (λ s. last_document (list_of s.lists c.args.term.now) < c.args.doc)
    (sym c.self.view_is) c.requires.rises in
    c.later-self-inside.ensures
    ∙ ap (λ last. max last c.args.doc) c.self.invariant
    ∙ sym (ap last_in c.in_ok-append_document.ensures.ok
    ∙ last_in-with_positions lists c.args.term.now c.args.doc c.args.positions.now rises)
