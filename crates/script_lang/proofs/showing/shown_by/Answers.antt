use Rattle.std.proofs.Common.{sym, ap, ◌∙◌, of_calls}
use Rattle.std.specs.List.{flat_map, zip}
use Rattle.std.proofs.lemmas.Iterator.{YieldsList-from_slice, YieldsList-from_zip}
use Rattle.std.proofs.lemmas.Iterator.Consumers.{YieldsList-at}
use Rattle.std.proofs.lemmas.List.Folds.{flat_map-map}
use Rattle.script_lang.proofs.shown.RepliesLemmas.{pair_line, one_more, text-replies}
use Rattle.script_lang.proofs.shown.RepliesLemmas.{stopped-replies, shown-is}
use Rattle.script_lang.proofs.shown.YieldsLemmas.{yielded_all}
use Rattle.script_lang.proofs.showing.shown_by.Goals as goal

pub loop-placed-preserved : goal.loop-placed-preserved
loop-placed-preserved c = record {
  can_next = search of_calls;
  is_finite = search of_calls;
  text = one_more (λ item. pair_line c.args.script.now.names (item.0.now, item.1.now))
      c.loop-placed.yielded _ c.loop-placed.text.items c.push_shown.new.text.items
      c.loop-placed.invariant.text c.in_ok-push_shown.ensures;
}

pub returns : goal.returns
returns c =
    let script = c.args.script.now in
    let replies = c.args.replies.now in
    let end = yielded_all (λ item. (item.0.now, item.1.now)) (zip script.commands replies)
    c.loop-placed.yielded c.loop-placed.placed-iterator c.loop-placed.yielded_by c.next.result
    c.next.new.self c.in-None.is c.next.ensures.steps
    (YieldsList-at c.into_iter-placed-iterator.ensures.into_iter_gives
    (YieldsList-from_zip
    (YieldsList-at c.zip-placed-items.ensures.first
    (YieldsList-from_slice script.commands (c.iter.ensures.rest ∙ c.commands.ensures)))
    (YieldsList-at c.zip-placed-items.ensures.second
    (YieldsList-from_slice replies c.iter-2.ensures.rest)))) in
    shown-is script c.loop-placed.text.items c.stop_at-stopped.result
    (c.loop-placed.invariant.text
    ∙ sym (flat_map-map (pair_line script.names) (λ item. (item.0.now, item.1.now))
    c.loop-placed.yielded)
    ∙ ap (flat_map (pair_line script.names)) end.0
    ∙ text-replies script replies c.args.stopped c.requires)
    (c.stop_at-stopped.ensures ∙ stopped-replies script replies c.args.stopped c.requires)
