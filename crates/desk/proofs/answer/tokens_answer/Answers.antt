use Rattle.book.specs.Refusals.{number_of}
use Rattle.console.specs.Printing.{printed-same}
use Rattle.desk.specs.Answers.{tokens-unended, tokens-answered}
use Rattle.desk.proofs.answer.tokens_answer.Goals as goal

pub returns-then-book-at : goal.returns-then-book-at
unfolding number_of
returns-then-book-at c = λ i h. printed-same (tokens-unended h c.if-book-at.true) (rw c.number.ensures at c.put_refused.ensures)

pub returns : goal.returns
returns c = λ i h.
    printed-same (tokens-answered h c.if-book-at.false)
    c.respond.ensures
