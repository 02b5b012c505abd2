use Rattle.book.specs.Refusals.{number_of}
use Rattle.console.proofs.HoldsLaws.{book-full, book-goes-on, book-line, book-ends}
use native.Mathlib.Omega.{arith}
use mathlib.Core.Path.{sym, ◌∙◌}
use Rattle.console.proofs.input.book_byte.Goals as goal

pub returns-then-at-ge-MAX_TEXT : goal.returns-then-at-ge-MAX_TEXT
unfolding number_of
returns-then-at-ge-MAX_TEXT c = λ i h buffer. book-full h _ c.if-at-ge-MAX_TEXT.true

pub returns-then-not-is_feed : goal.returns-then-not-is_feed
returns-then-not-is_feed c = λ i h buffer. book-goes-on h _ (omega arith) c.if-at-ge-MAX_TEXT.false (sym c.is_feed.ensures ∙ c.if-not-is_feed.true)

pub returns-then-is_end : goal.returns-then-is_end
returns-then-is_end c = λ i h buffer.
    book-ends h _ (omega arith) c.if-at-ge-MAX_TEXT.false
    (sym c.is_feed.ensures ∙ c.if-not-is_feed.false)
    (sym c.is_end.ensures ∙ c.if-is_end.true) buffer

pub returns : goal.returns
returns c = λ i h buffer.
    book-line h _ (omega arith) c.if-at-ge-MAX_TEXT.false
    (sym c.is_feed.ensures ∙ c.if-not-is_feed.false)
    (sym c.is_end.ensures ∙ c.if-is_end.false)
