use Rattle.std.proofs.Common.{◌≡◌, ◌<◌, [], ◌∷◌, ◌++◌, ◌∙◌, ap, sym, subst}
use Rattle.std.proofs.lemmas.Result.{on_ok_weaker, on_err_weaker}
use Rattle.std.specs.FinMap as finite
use Rattle.std.specs.Option.{unwrap_or}
use Rattle.index_definitions.specs.PostingLists.{last_document}
use Rattle.text_table.specs.TextMaps.{map_of, with_value}
use Rattle.text_table.proofs.TextMapsLemmas.{value_at, get-map_of, map_of-push}
use Rattle.text_table.proofs.TextMapsLemmas.{map_of-with_value, with_value-same}
use Rattle.shard.specs.Shards.{list_of}
use Rattle.shard.proofs.shard.append_document.Goals as goal

-- the term was there
pub append-requires-clause-rises : goal.append-requires-clause-rises
append-requires-clause-rises c =
    let entries = c.args.lists.now in
    let found : list_of (map_of entries) c.args.term.now ≡ c.value_mut.result.now =
    ap (λ o. unwrap_or o [])
    (get-map_of c.args.term.now entries ∙ ap (value_at entries) c.in-Ok.ensures.number
    ∙ c.value_mut.ensures.value) in
    subst (λ l. last_document l < c.args.doc) found c.requires.rises

pub returns-in-Ok-clause-ok : goal.returns-in-Ok-clause-ok
returns-in-Ok-clause-ok c =
    let entries = c.args.lists.now in
    let term = c.args.term.now in
    let more = (c.args.doc, c.args.positions.now) ∷ [] in
    let found : list_of (map_of entries) term ≡ c.value_mut.result.now =
    ap (λ o. unwrap_or o [])
    (get-map_of term entries ∙ ap (value_at entries) c.in-Ok.ensures.number
    ∙ c.value_mut.ensures.value) in
    on_ok_weaker c.append.result (λ new.
    map_of-with_value entries term c.in-Ok.number c.append.new.self c.in-Ok.ensures.number
    ∙ ap (finite.insert (map_of entries) term) (new ∙ ap (λ l. l ++ more) (sym found)))
    c.append.ensures.ok

pub returns-in-Ok-clause-err : goal.returns-in-Ok-clause-err
returns-in-Ok-clause-err c =
    let entries = c.args.lists.now in
    let n = c.in-Ok.number in
    on_err_weaker c.append.result (λ same.
    ap map_of
    (ap (with_value entries n) same
    ∙ with_value-same entries n c.value_mut.result.now c.value_mut.ensures.value))
    c.append.ensures.err

-- the term was new
pub returns-in_ok-insert_absent-in-Err-clause-ok : goal.returns-in_ok-insert_absent-in-Err-clause-ok
returns-in_ok-insert_absent-in-Err-clause-ok c =
    let entries = c.args.lists.now in
    let term = c.args.term.now in
    let more = (c.args.doc, c.args.positions.now) ∷ [] in
    let none = c.in-Err.ensures.new_text in
    let absent : list_of (map_of entries) term ≡ [] =
    ap (λ o. unwrap_or o []) (get-map_of term entries ∙ ap (value_at entries) none) in
    ap map_of c.in_ok-insert_absent-in-Err.ensures.ok
    ∙ map_of-push entries term c.append-in-Err.new.self none
    ∙ ap (finite.insert (map_of entries) term)
    (c.in_ok-append-in-Err.ensures.ok
    ∙ ap (λ l. l ++ more) (c.new-list.ensures ∙ sym absent))
