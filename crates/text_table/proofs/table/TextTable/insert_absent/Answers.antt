use Rattle.std.proofs.Common.{◌<◌, ◌^◌, ◌∙◌, ◌-◌, ◌∷◌, [], Some, cond, ap, arith, length, take}
use Rattle.std.proofs.Common.{inr, refl, subst}
use Rattle.std.proofs.lemmas.List.{take_at, length_push}
use Rattle.std.specs.BTreeMap.{get_by_text}
use Rattle.std.specs.Str.{bytes_eq}
use Rattle.text_table.specs.Buckets.{bucket_of, Holds, IsFull}
use Rattle.text_table.specs.Tags.{tag_of}
use Rattle.text_table.specs.TextTables.{number_of}
use Rattle.text_table.proofs.LookupsLemmas.{FindsTexts-moved, FindsTexts-alike}
use Rattle.text_table.proofs.LookupsLemmas.{FindsTexts-put, FindsTexts-put_over}
use Rattle.text_table.proofs.LookupsLemmas.{get_by_text-unchanged}
use Rattle.text_table.proofs.table.TextTable.insert_absent.Goals as goal

-- the text was taken off again
pub invariant_of-self-in-Err : goal.invariant_of-self-in-Err
invariant_of-self-in-Err c =
    let texts = c.self.inside.texts in
    let overflow = c.self.inside.overflow in
    let back =
    c.drop_last.ensures
    ∙ ap (λ ts. take (length ts - 1) ts) c.in_ok-push.ensures.ok
    ∙ take_at texts (c.args.text.now ∷ []) _ (omega (arith, length_push texts c.args.text.now)) in
    rw back
    (FindsTexts-alike texts c.put.new.self overflow c.put_over.new.overflow
    (get_by_text-unchanged overflow c.put_over.new.overflow c.in-Err.ensures.err)
    (FindsTexts-moved texts c.self.inside.buckets c.put.new.self overflow c.self.invariant
    c.put.ensures.others
    (λ text n over _. inr (c.put.ensures.still_full (tag_of text) over.0))))

-- the number was put into the overflow
pub invariant_of-self-in_default : goal.invariant_of-self-in_default
invariant_of-self-in_default c =
    let texts = c.self.inside.texts in
    let text = c.args.text.now in
    let overflow = c.self.inside.overflow in
    let room = c.self.view_is ∙ c.make_room.ensures in
    rw c.in_ok-push.ensures.ok
    (FindsTexts-put_over texts c.self.inside.buckets c.put.new.self overflow c.self.invariant
    c.put.ensures.others
    (λ t n over _. inr (c.put.ensures.still_full (tag_of t) over.0)) text
    (subst (λ ts. length ts < 2 ^ 32) c.in_ok-push.ensures.ok c.in_ok-push.ensures.few)
    (ap (λ ts. number_of ts text) room ∙ c.requires.new_text)
    c.put_over.new.overflow
    (subst (λ tag. IsFull (bucket_of c.put.new.self tag)) (c.absent.view_is ∙ c.requires.absent)
    (c.put.ensures.still_full _ (c.if-not-put.ensures.full refl)))
    (λ key. c.in_default.ensures.put key
    ∙ ap (λ n. cond (bytes_eq text key) (Some n) (get_by_text overflow key)) c.len-number.ensures))

-- the number was put into its bucket
pub invariant_of-self-else-not-put : goal.invariant_of-self-else-not-put
invariant_of-self-else-not-put c =
    let texts = c.self.inside.texts in
    let text = c.args.text.now in
    let after = c.put.new.self in
    let room = c.self.view_is ∙ c.make_room.ensures in
    rw c.in_ok-push.ensures.ok
    (FindsTexts-put texts c.self.inside.buckets after c.self.inside.overflow c.self.invariant
    c.put.ensures.others
    (λ t n over _. inr (c.put.ensures.still_full (tag_of t) over.0)) text
    (subst (λ ts. length ts < 2 ^ 32) c.in_ok-push.ensures.ok c.in_ok-push.ensures.few)
    (ap (λ ts. number_of ts text) room ∙ c.requires.new_text)
    (subst (λ n. Holds after (tag_of text) n) c.len-number.ensures
    (subst (λ tag. Holds after tag c.len-number.result) (c.absent.view_is ∙ c.requires.absent)
    (c.if-not-put.ensures.put refl))))
