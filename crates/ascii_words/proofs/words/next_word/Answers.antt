use Rattle.std.proofs.Common.{◌∷◌, slice_range, cond, sym, ap, ◌∙◌, arith}
use Rattle.ascii_words.specs.Places.{words_left}
use Rattle.ascii_words.proofs.places.PlaceLemmas.{words_left-piece, words_left-end}
use Rattle.ascii_words.proofs.places.StepLemmas.{words_left-past}
use Rattle.ascii_words.proofs.words.next_word.Goals as goal

pub returns-then-has_letter_or_digit : goal.returns-then-has_letter_or_digit
returns-then-has_letter_or_digit c =
    let text = c.args.text.now in
    let i = c.loop-start.start in
    let j = c.piece_end-end.result in
    let piece = slice_range text i j in
    let end = c.piece_end-end.ensures in (
      c.loop-start.invariant.left
          ∙ words_left-piece text i j c.requires.ascii end.end
          ∙ ap (λ b. cond b (piece ∷ words_left text j) (words_left text j))
          (sym c.if-has_letter_or_digit.ensures),
      end.end.grows,
      end.cut,
    )

pub loop-start-preserved-then-is_run : goal.loop-start-preserved-then-is_run
loop-start-preserved-then-is_run c =
    let text = c.args.text.now in
    let i = c.loop-start.start in
    let j = c.piece_end-end.result in
    let piece = slice_range text i j in
    let end = c.piece_end-end.ensures in
    record {
      cut = end.cut;
      left =
          c.loop-start.invariant.left
          ∙ words_left-piece text i j c.requires.ascii end.end
          ∙ ap (λ b. cond b (piece ∷ words_left text j) (words_left text j))
          (sym c.if-has_letter_or_digit.ensures);
    }

pub loop-start-preserved : goal.loop-start-preserved
loop-start-preserved c =
    let before = c.loop-start.invariant in
    let past =
    words_left-past c.args.text.now c.loop-start.start c.requires.ascii c.loop-start-test.true
    before.cut (sym c.if-is_run.ensures) in
    record { cut = past.0; left = before.left ∙ past.1 }

pub returns : goal.returns
returns c =
    let before = c.loop-start.invariant in
    let within = before.cut.within in
    let past = c.loop-start-test.false in
    before.left
    ∙ words_left-end c.args.text.now c.loop-start.start c.requires.ascii (omega arith)
