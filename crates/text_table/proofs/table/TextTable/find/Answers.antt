use Rattle.std.proofs.Common.{◌≡◌, ◌≢◌, ◌∙◌, ℕ, List, Some, ap, false, subst, sym, true}
use Rattle.std.specs.List.{All, slice_get}
use Rattle.text_table.specs.Buckets.{bucket_of}
use Rattle.text_table.specs.TextTables.{number_of}
use Rattle.text_table.specs.declared.buckets.Slot.{Slot}
use Rattle.text_table.proofs.LookupsLemmas.{get_by_text-number_of, none-number_of}
use Rattle.text_table.proofs.TextTablesLemmas.{number_of-at}
use Rattle.text_table.proofs.table.TextTable.find.Goals as goal

-- no slot of the tag's bucket has the tag and the text
abbrev Misses : List (List ℕ) → List ℕ → List (List Slot) → ℕ → Type 0
Misses texts text buckets tag =
    All (λ slot. slot.tag ≡ tag → slice_get texts slot.number ≢ Some text) (bucket_of buckets tag)

pub returns-in-Some : goal.returns-in-Some
returns-in-Some c =
    let text = c.args.text.now in
    sym (number_of-at c.self.inside.texts text c.in-Some.number c.self.invariant.distinct
    c.in-Some.ensures)
    ∙ ap (λ texts. number_of texts text) c.self.view_is

pub returns-in-None : goal.returns-in-None
returns-in-None c =
    let text = c.args.text.now in
    let texts = c.self.inside.texts in
    let buckets = c.self.inside.buckets in
    c.copied.ensures
    ∙ c.get.ensures.value
    ∙ get_by_text-number_of texts buckets c.self.inside.overflow text c.self.invariant
    (subst (Misses texts text buckets) c.requires
    (rw (← c.bucket_of_tag-bucket.ensures) c.in-None.ensures))
    ∙ ap (λ texts. number_of texts text) c.self.view_is

pub returns-in-None-2 : goal.returns-in-None-2
returns-in-None-2 c =
    let text = c.args.text.now in
    let texts = c.self.inside.texts in
    let buckets = c.self.inside.buckets in
    none-number_of texts buckets c.self.inside.overflow text c.self.invariant
    (subst (Misses texts text buckets) c.requires
    (rw (← c.bucket_of_tag-bucket.ensures) c.in-None-2.ensures))
    (λ full.
    let said = c.is_full.ensures.1
    (rw (c.bucket_of_tag-bucket.ensures, c.requires) full) in
    let both : false ≡ true = sym c.if-is_full.false ∙ said in cc)
    ∙ ap (λ texts. number_of texts text) c.self.view_is
