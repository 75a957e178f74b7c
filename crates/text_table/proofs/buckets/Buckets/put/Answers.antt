use Rattle.std.proofs.Common.{◌∙◌, [], ap, length, sym}
use Rattle.text_table.specs.Buckets.{place_of}
use Rattle.text_table.proofs.BucketsLemmas.{Holds-written, AreHeldBy-written}
use Rattle.text_table.proofs.buckets.Buckets.put.Goals as goal

pub returns-clause-put : goal.returns-clause-put
returns-clause-put c = λ yes.
    Holds-written c.self.inside.buckets.items c.place_of_tag-place.result c.put_into.new.bucket
    c.in-Some.ensures.item.3.0 c.args.tag c.args.number
    (c.place_of_tag-place.ensures
    ∙ ap (λ buckets. place_of (length buckets) c.args.tag) (sym c.self.view_is))
    (c.put_into.ensures.put yes)

pub returns-clause-others : goal.returns-clause-others
returns-clause-others c =
    let buckets = c.self.inside.buckets.items in
    let place = c.place_of_tag-place.result in
    let item = c.in-Some.ensures.item.3 in
    rw (← c.self.view_is)
    (AreHeldBy-written buckets place c.put_into.new.bucket item.0 c.in-Some.bucket.now
    (sym (item.1 [])) c.put_into.ensures.others)
