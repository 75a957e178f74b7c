use Rattle.std.proofs.Common.{◌<◌, ◌∙◌, ap, arith}
use Rattle.std.proofs.lemmas.Result.{on_ok_weaker}
use Rattle.shard.specs.Shards.{last_in}
use Rattle.shard.proofs.GatherLemmas.{gathered-late, gathered-later}
use Rattle.shard.proofs.shard.Shard.gather.Goals as goal

pub returns-then-doc-self : goal.returns-then-doc-self
returns-then-doc-self c =
    let is = ap (λ s. last_in s.lists) c.self.view_is in
    gathered-late c.args.self.now c.args.doc c.args.words.now.words
    (omega (arith, is, c.self.invariant, c.if-doc-self.true))

pub gather_words-requires : goal.gather_words-requires
gather_words-requires c =
    let is = ap (λ s. last_in s.lists) c.self.view_is in
    omega (arith, is, c.self.invariant, c.if-doc-self.false)

pub returns : goal.returns
returns c =
    let is = ap (λ s. last_in s.lists) c.self.view_is in
    let later : last_in c.args.self.now.lists < c.args.doc =
    omega (arith, is, c.self.invariant, c.if-doc-self.false) in
    on_ok_weaker c.gather_words.result
    (λ new. new ∙ gathered-later c.args.self.now c.args.doc c.args.words.now.words later)
    c.gather_words.ensures
