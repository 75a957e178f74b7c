use Rattle.std.proofs.Common.{◌≡◌, ℕ, refl, ◌≢◌, ◌<◌, ◌≤◌, [], ◌∙◌, true, false, ap, ap₂, sym}
use Rattle.std.proofs.Common.{arith}
use Rattle.std.proofs.Common.{length, take, filter, get_or}
use Rattle.std.specs.Prelude.{◌==◌}
use Rattle.std.proofs.lemmas.Grind.{common_steps}
use Rattle.std.proofs.lemmas.List.{take_all}
use Rattle.index_definitions.specs.Words.{word_terms}
use Rattle.index_definitions.specs.PostingLists.{last_document}
use Rattle.document_terms.specs.Shards.{shard_of}
use Rattle.shard.specs.Shards.{list_of, with_positions, with_terms, gathered}
use Rattle.shard.specs.Shards.{words_of_shard}
use Rattle.shard.proofs.GatherLemmas.{belongs, with_terms-none, with_terms-push, with_terms-same}
use Rattle.shard.proofs.GatherLemmas.{list_of-other, list_of-last, not_yet, same_terms}
use Rattle.shard.proofs.GatherLemmas.{belonging-more, belonging-same}
use Rattle.shard.proofs.ShardLemmas.{same_parts}
use Rattle.shard.proofs.shard.Shard.gather_words.Goals as goal
use Rattle.shard.proofs.shard.Shard.gather_words.Goals.{then-shard-self+in_ok-append}
use Rattle.shard.proofs.shard.Shard.gather_words.Goals.{else-shard-self}

equal_test : (a b : ℕ) → a ≡ b → (a == b) ≡ true
equal_test a b same = grind (arith, common_steps)

unequal_test : (a b : ℕ) → a ≢ b → (a == b) ≡ false
unequal_test a b other = grind (arith, common_steps)

pub loop-number-init : goal.loop-number-init
loop-number-init c = record {
  number_is = refl;
  lists = sym (with_terms-none c.args.self.now.lists c.args.doc c.args.words.now.words);
}

pub append-requires-clause-rises : goal.append-requires-clause-rises
append-requires-clause-rises c =
    let ts = c.args.words.now.terms in
    let ws = c.args.words.now.words in
    let before = c.args.self.now in
    let k = c.loop-number.number in
    let has : k < length ts = omega (arith, c.terms-number-end.ensures.len) in
    let t = get_or ts k [] in
    let other =
    not_yet before.number ts k c.terms-number-end.ensures.terms.distinct has in
    let is : list_of c.loop-number.self.lists c.term.result.now ≡ list_of before.lists t =
    ap₂ list_of c.loop-number.invariant.lists c.term.ensures
    ∙ list_of-other before.lists c.args.doc ws
    (filter (belongs before.number) (take k ts)) t other in
    omega (arith, ap last_document is, list_of-last before.lists t, c.requires)

pub loop-number-preserved : goal.loop-number-preserved
loop-number-preserved c =
    let ts = c.args.words.now.terms in
    let ws = c.args.words.now.words in
    let before = c.args.self.now in
    let so_far = c.loop-number.invariant in
    let k = c.loop-number.number in
    let has : k < length ts = omega (arith, c.terms-number-end.ensures.len) in
    let t = get_or ts k [] in
    let own = filter (belongs before.number) (take k ts) in
    let number = ap (λ s. s.number) c.self.view_is ∙ so_far.number_is in
    let other =
    not_yet before.number ts k c.terms-number-end.ensures.terms.distinct has in
    elim c.if-shard-self.branch [
      | then-shard-self+in_ok-append w ↦
          let mine = equal_test (shard_of t) before.number
          (sym c.shard.ensures ∙ w.if-shard-self.true ∙ number) in
          record {
            number_is = ap (λ s. s.number) w.self-is ∙ w.in_ok-append.ensures.number
                ∙ so_far.number_is;
            lists = ap (λ s. s.lists) w.self-is ∙ w.in_ok-append.ensures.lists
                ∙ ap (λ p. with_positions p w.term.result.now c.args.doc w.positions.result.now)
                so_far.lists
                ∙ ap₂ (λ u ps.
                with_positions (with_terms before.lists c.args.doc ws own) u c.args.doc ps)
                w.term.ensures w.positions.ensures.positions
                ∙ with_terms-push before.lists c.args.doc ws own t other
                ∙ ap (with_terms before.lists c.args.doc ws)
                (sym (belonging-more before.number ts k has mine));
          }
      | else-shard-self w ↦
          let not_mine = unequal_test (shard_of t) before.number (λ same.
          w.if-shard-self.false (c.shard.ensures ∙ same ∙ sym number)) in
          record {
            number_is = ap (λ s. s.number) w.self-is ∙ so_far.number_is;
            lists = ap (λ s. s.lists) w.self-is ∙ so_far.lists
                ∙ ap (with_terms before.lists c.args.doc ws)
                (sym (belonging-same before.number ts k has not_mine));
          }
    ]

pub returns : goal.returns
returns c =
    let ts = c.args.words.now.terms in
    let ws = c.args.words.now.words in
    let before = c.args.self.now in
    let k = c.loop-number.number in
    let end : length ts ≤ k = omega (arith, c.terms-number-end.ensures.len) in
    same_parts c.loop-number.self (gathered before c.args.doc ws)
    c.loop-number.invariant.number_is
    (c.loop-number.invariant.lists
    ∙ ap (λ us. with_terms before.lists c.args.doc ws (filter (belongs before.number) us))
    (take_all k ts end)
    ∙ with_terms-same before.lists c.args.doc ws (filter (belongs before.number) ts)
    (word_terms (words_of_shard before.number ws))
    (same_terms before.number ts ws c.terms-number-end.ensures.terms))
