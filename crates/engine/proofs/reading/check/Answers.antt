use Rattle.std.proofs.Common.{◌∙◌, sym, arith}
use Rattle.book.specs.Refusals.{number_of, answer_of}
use Rattle.attempts.specs.Readings.{long-number, unfit-number, text-number}
use Rattle.engine.proofs.reading.check.Goals as goal

pub returns-then-text-gt-MAX_TEXT : goal.returns-then-text-gt-MAX_TEXT
unfolding number_of answer_of
returns-then-text-gt-MAX_TEXT c = sym (long-number _ _ (omega (arith, c.if-text-gt-MAX_TEXT.true)))

pub returns-then-words-ne-BOOK_WORDS : goal.returns-then-words-ne-BOOK_WORDS
unfolding number_of answer_of
returns-then-words-ne-BOOK_WORDS c = sym (unfit-number _ _ c.if-text-gt-MAX_TEXT.false c.if-words-ne-BOOK_WORDS.true)

pub returns : goal.returns
returns c = c.read.ensures ∙ sym (text-number _ _ c.if-text-gt-MAX_TEXT.false c.if-words-ne-BOOK_WORDS.false)
