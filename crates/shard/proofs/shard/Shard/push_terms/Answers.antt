use Rattle.std.proofs.Common.{◌<◌, ◌≤◌, ◌∷◌, [], ◌++◌, ◌∙◌, length, take, sym, ap, ap₂}
use Rattle.std.proofs.Common.{subst, arith, append_assoc}
use Rattle.std.proofs.lemmas.List.{take_all}
use Rattle.std.proofs.lemmas.Option.{get_or_from_slice_get}
use Rattle.shard.specs.ShardTerms.{HasTermsOfShard}
use Rattle.shard.proofs.ShardTermsLemmas.{uncounted_term, uncounted_terms, uncounted_more, TermEntry}
use Rattle.shard.proofs.ShardTermsLemmas.{HasTermsOfShard-all, length-uncounted}
use Rattle.shard.proofs.shard.Shard.push_terms.Goals as goal

pub loop-number-preserved : goal.loop-number-preserved
loop-number-preserved c =
    let es = c.self.inside.lists in
    let n = c.loop-number.number in
    let old = c.args.terms.now.items in
    let entry : TermEntry = (c.entry.result.0.now, c.entry.result.1.now) in
    let below : n < length es = omega (arith, c.len-number-end.ensures.len) in
    let here = get_or_from_slice_get es n entry entry c.entry.ensures in
    c.in_ok-push.ensures.items
    ∙ ap₂ (λ so_far e. so_far ++ uncounted_term e ∷ [])
    c.loop-number.invariant
    (ap₂ (λ t l. (t, l)) c.in_ok-of.ensures c.in_ok-copy.ensures ∙ sym here)
    ∙ append_assoc old (take n (uncounted_terms es)) _
    ∙ ap (λ more. old ++ more) (sym (uncounted_more es n entry below))

pub returns : goal.returns
returns c =
    let es = c.self.inside.lists in
    let n = c.loop-number.number in
    let all = uncounted_terms es in
    let end : length all ≤ n =
    omega (arith, c.len-number-end.ensures.len, length-uncounted es) in
    record {
      more = all;
      appended = c.loop-number.invariant
          ∙ ap (λ more. c.args.terms.now.items ++ more) (take_all n all end);
      terms_are = subst (λ lists. HasTermsOfShard lists all) (ap (λ s. s.lists) c.self.view_is)
          (HasTermsOfShard-all es c.len-number-end.ensures.distinct);
    }
