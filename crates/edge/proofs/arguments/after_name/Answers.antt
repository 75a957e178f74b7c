use Rattle.std.proofs.Common.{◌≡◌, ◌<◌, List, [], ◌∷◌, ◌++◌, drop, length, Some, None, sym, ◌∙◌, ap, arith}
use Rattle.std.proofs.lemmas.Iterator.{items_from_collect}
use Rattle.std.proofs.lemmas.Iterator.Adapters.{YieldsList-from_vec}
use Rattle.std.specs.declared.option.Option.{Option}
use Rattle.std.specs.Option.{option_to_list}
use Rattle.std.specs.Prelude.{IsSome}
use Rattle.std.specs.Vec.Iter.{into_iter_items}
use Rattle.edge.proofs.arguments.after_name.Goals as goal

-- what is left behind the first is the rest
drop-first :
    {A : Type 0} (first : Option A) (xs ys : List A)
    → xs ≡ option_to_list first ++ ys → (0 < length xs → IsSome first) → ys ≡ drop 1 xs
drop-first None [] ys is some = sym is
drop-first None (x ∷ xs) ys is some = absurd (let none = some (omega arith) in cc)
drop-first (Some x) xs ys is some = sym (ap (drop 1) is)

pub returns : goal.returns
returns c =
    let rest =
    drop-first c.next-name.result (into_iter_items c.args.args) (into_iter_items c.next-name.new.self)
    c.next-name.ensures.items (λ some. c.next-name.ensures.variant.1 (omega (arith, some, c.args.args.rest.ok.0))) in
    items_from_collect c.collect.result c.collect.ensures.ran
    (YieldsList-from_vec (drop 1 (into_iter_items c.args.args)) rest (c.next-name.new.self.rest.ok.0 ∙ ap length rest))
