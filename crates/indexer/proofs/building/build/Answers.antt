use Rattle.std.proofs.Common.{rules, ◌≡◌, ℕ, ◌≤◌, List, Vec, Global, length, sym, ap, ◌∙◌}
use Rattle.std.proofs.lemmas.List.{length-map}
use Rattle.execution_definitions.specs.declared.call.Call.TheVariants as call
use Rattle.index_definitions.proofs.PostingsLemmas.{all_words}
use Rattle.indexer.specs.Totals.{totals_of}
use Rattle.indexer.proofs.BuildingLemmas.{bytes_of, may_make, may_split, may_gather, may_get}
use Rattle.indexer.proofs.BuildingLemmas.{gathered_shards, may_total, built_state, after_build}
use Rattle.indexer.proofs.BuiltLemmas.{built_from}
use Rattle.indexer.proofs.PartsLemmas.{not_refused, made-one}
use Rattle.indexer.proofs.WordCountLemmas.{AreWithin-vectors}
use Rattle.indexer.proofs.building.build.Goals as goal

-- so many documents, as their bytes
counted : (docs : List (Vec ℕ Global)) (n : ℕ) → length docs ≡ n → length (bytes_of docs) ≡ n
counted docs n count = length-map docs (λ (d : Vec ℕ Global). d.items) ∙ count

pub make_items-requires-clause-calls : goal.make_items-requires-clause-calls
make_items-requires-clause-calls g c = λ κs lives.
    let n = c.len-count.result in
    let count : length c.args.docs.items ≡ n = search rules in
    may_make (bytes_of c.args.docs.items) c.args.stop n (counted c.args.docs.items n count)
    (rw (sym count) c.requires.few) (g.D.Runtime.seen c.args.d.now) c.requires.new

pub split_documents-requires-clause-calls : goal.split_documents-requires-clause-calls
split_documents-requires-clause-calls g c = λ κs lives.
    let n = c.len-count.result in
    let count : length c.args.docs.items ≡ n = search rules in
    may_split (bytes_of c.args.docs.items) c.args.stop n (counted c.args.docs.items n count)
    (rw (sym count) c.requires.few) (g.D.Runtime.seen c.args.d.now) c.requires.new
    (g.D.Runtime.seen c.make_items.new.d) c.in_ok-make_items.ensures

pub gather_documents-requires-clause-calls : goal.gather_documents-requires-clause-calls
gather_documents-requires-clause-calls g c = λ κs lives.
    let n = c.len-count.result in
    let count : length c.args.docs.items ≡ n = search rules in
    may_gather (bytes_of c.args.docs.items) c.args.stop n (counted c.args.docs.items n count)
    (rw (sym count) c.requires.few) (g.D.Runtime.seen c.args.d.now) c.requires.new
    (g.D.Runtime.seen c.make_items.new.d) c.in_ok-make_items.ensures
    (g.D.Runtime.seen c.split_documents.new.d) c.in_ok-split_documents.ensures

pub collect_terms-requires-clause-calls : goal.collect_terms-requires-clause-calls
collect_terms-requires-clause-calls g c = λ κs lives.
    let n = c.len-count.result in
    let count : length c.args.docs.items ≡ n = search rules in
    may_get (bytes_of c.args.docs.items) c.args.stop n (counted c.args.docs.items n count)
    (rw (sym count) c.requires.few) (g.D.Runtime.seen c.args.d.now) c.requires.new
    (g.D.Runtime.seen c.make_items.new.d) c.in_ok-make_items.ensures
    (g.D.Runtime.seen c.split_documents.new.d) c.in_ok-split_documents.ensures
    (g.D.Runtime.seen c.gather_documents.new.d) c.in_ok-gather_documents.ensures

pub accepted-requires : goal.accepted-requires
accepted-requires g c =
    let n = c.len-count.result in
    let count : length c.args.docs.items ≡ n = search rules in
    not_refused (g.D.Runtime.seen c.collect_terms.new.d)
    (g.D.Runtime.seen c.total.follows.lender-at-none) call.Total _ c.total.follows.holds-at-none.1
    (may_total (bytes_of c.args.docs.items) c.args.stop n (counted c.args.docs.items n count)
    (rw (sym count) c.requires.few) (g.D.Runtime.seen c.args.d.now) c.requires.new
    (g.D.Runtime.seen c.make_items.new.d) c.in_ok-make_items.ensures
    (g.D.Runtime.seen c.split_documents.new.d) c.in_ok-split_documents.ensures
    (g.D.Runtime.seen c.gather_documents.new.d) c.in_ok-gather_documents.ensures
    (g.D.Runtime.seen c.collect_terms.new.d) c.in_ok-terms.ensures.made)

pub returns-clause-calls : goal.returns-clause-calls
returns-clause-calls g c =
    let n = c.len-count.result in
    let count : length c.args.docs.items ≡ n = search rules in
    after_build (bytes_of c.args.docs.items) c.args.stop n (counted c.args.docs.items n count)
    (rw (sym count) c.requires.few) (g.D.Runtime.seen c.args.d.now) c.requires.new
    (g.D.Runtime.seen c.make_items.new.d) c.in_ok-make_items.ensures
    (g.D.Runtime.seen c.split_documents.new.d) c.in_ok-split_documents.ensures
    (g.D.Runtime.seen c.gather_documents.new.d) c.in_ok-gather_documents.ensures
    (g.D.Runtime.seen c.collect_terms.new.d) c.in_ok-terms.ensures.made
    (g.D.Runtime.seen c.total.follows.lender-at-none)
    (made-one (g.D.Runtime.seen c.collect_terms.new.d)
    (g.D.Runtime.seen c.total.follows.lender-at-none) call.Total _ c.total.follows.holds-at-none.1
    _ c.in_ok-words.ensures)

pub returns-clause-index : goal.returns-clause-index
returns-clause-index g c =
    let stop = c.args.stop in
    let docs = bytes_of c.args.docs.items in
    let n = c.len-count.result in
    let count : length c.args.docs.items ≡ n = search rules in
    let all = counted c.args.docs.items n count in
    let few : n ≤ 65536 = rw (sym count) c.requires.few in
    let collected = c.in_ok-terms.ensures.terms _
    (gathered_shards docs stop n all few (g.D.Runtime.seen c.args.d.now) c.requires.new
    (g.D.Runtime.seen c.make_items.new.d) c.in_ok-make_items.ensures
    (g.D.Runtime.seen c.split_documents.new.d) c.in_ok-split_documents.ensures
    (g.D.Runtime.seen c.gather_documents.new.d) c.in_ok-gather_documents.ensures) in
    let totals : c.in_ok-words.field-0.now ≡ totals_of (all_words stop docs) =
    (rw c.in_ok-words.ensures at c.total.ensures.total)
    ∙ ap (λ state. state.total)
    (built_state docs stop n all few (g.D.Runtime.seen c.args.d.now) c.requires.new
    (g.D.Runtime.seen c.make_items.new.d) c.in_ok-make_items.ensures
    (g.D.Runtime.seen c.split_documents.new.d) c.in_ok-split_documents.ensures
    (g.D.Runtime.seen c.gather_documents.new.d) c.in_ok-gather_documents.ensures
    (g.D.Runtime.seen c.collect_terms.new.d) c.in_ok-terms.ensures.made) in
    built_from stop docs n all few (AreWithin-vectors c.args.docs.items c.requires.within)
    c.in_ok-terms.terms.items c.fill_totals.new.terms.items c.sort_terms.new.terms.items
    c.in_ok-words.field-0.now collected totals c.fill_totals.ensures
    c.sort_terms.ensures.permutation c.sort_terms.ensures.sorted
